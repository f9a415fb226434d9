use Rattle.std.proofs.Common.{suc, subst, sym, OnOk}
use Rattle.ruby_tree.specs.SourcePositions.{position_of}
use Rattle.ruby_tree.specs.Read.{tree_of, text_of_name}
use Rattle.ruby_tree.specs.Tree.{class}
use Rattle.ruby_tree.specs.Views.{read_other}
use Rattle.iseq_types.specs.declared.instructions.Instr.TheVariants.{DefineClass}
use Rattle.code_meaning.specs.Code.{op, done, part}
use Rattle.compile_table.specs.Shapes.{form_shape, shape, number_of, own}
use Rattle.code_emitter.specs.Emitting.{where_of, texts_of, Writes}
use Rattle.emit_bodies.proofs.definitions.class.Goals as goal

pub returns-in-Some-clause-code : goal.returns-in-Some-clause-code
returns-in-Some-clause-code g c =
    let emitter = c.args.emitter.now in
    let texts = texts_of emitter in
    let l = where_of emitter in
    let name = text_of_name texts c.args.name in
    let tree = tree_of texts c.args.tree.now in
    subst
    (λ o. OnOk c.subclass.result (Writes emitter.depth (form_shape l (class (read_other texts o) name tree) (position_of c.args.at)) c.args.out.now c.subclass.new.out))
    (sym c.in-Some.is)
    (subst
    (λ n. OnOk c.subclass.result (Writes emitter.depth (part 0 (shape l (tree_of texts n)) (op (own l (position_of c.args.at)) (DefineClass name (suc (number_of l tree)) 1) done)) c.args.out.now c.subclass.new.out))
    c.deref.ensures
    (subst
    (λ line. OnOk c.subclass.result (Writes emitter.depth (part 0 (shape l (tree_of texts c.deref.result.now)) (op line (DefineClass name (suc (number_of l tree)) 1) done)) c.args.out.now c.subclass.new.out))
    c.own-line.ensures
    c.subclass.ensures.code))
