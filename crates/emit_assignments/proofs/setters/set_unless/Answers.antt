use Rattle.ruby_tree.specs.Read.{tree_of}
use Rattle.compile_table.specs.Shapes.{shape}
use Rattle.code_writer.specs.Writing.{branch_of}
use Rattle.code_emitter.specs.Emitting.{where_of, texts_of, written}
use Rattle.emit_assignments.proofs.Forms.{stores_old}
use Rattle.emit_assignments.proofs.setters.set_unless.Goals as goal

pub returns-clause-code : goal.returns-clause-code
returns-clause-code g c =
    stores_old c.args.emitter.now.depth c.args.setter.line c.args.setter.call c.args.setter.depth c.args.setter.name c.args.setter.count c.args.setter.flags (branch_of c.args.branch)
    (shape (where_of c.args.emitter.now) (tree_of (texts_of c.args.emitter.now) c.args.value.now))
    (written c.args.out.now) _ _ _ c.len.result c.in_ok-stored.stored c.len.ensures c.in_ok-stored.ensures c.in_ok-set_new.ensures.code c.in_ok-jump_on.ensures c.in_ok-write.ensures
