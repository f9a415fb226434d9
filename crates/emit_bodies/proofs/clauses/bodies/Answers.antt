use Rattle.std.proofs.Common.{◌≡◌, ◌∷◌, length, reverse, drop, ap, subst, sym, ◌∙◌, arith}
use Rattle.ruby_tree.specs.Read.{tree_of, text_of_option}
use Rattle.ruby_tree.specs.Views.{read_all, read_clauses}
use Rattle.iseq_types.specs.declared.instructions.Instr.TheVariants.{Leave}
use Rattle.code_meaning.specs.Code.{op, done, part}
use Rattle.compile_table.specs.Shapes.{shape, bodies_shape, named}
use Rattle.code_writer.specs.Writing.{grown}
use Rattle.code_emitter.specs.Children.{direct, clauses_direct}
use Rattle.code_emitter.specs.Emitting.{where_of, texts_of, written, children_of, Writes, Finds}
use Rattle.code_emitter.proofs.Seams.{at_first}
use Rattle.emit_bodies.specs.Clauses.{clause_starts}
use Rattle.emit_bodies.proofs.ClauseSteps.{bodies_before, clause_place}
use Rattle.emit_bodies.proofs.CountingDown.{turn, found_behind}
use Rattle.emit_bodies.proofs.clauses.bodies.Goals as goal

pub loop-i-preserved : goal.loop-i-preserved
loop-i-preserved g c =
    let e = c.args.emitter.now in
    let l = where_of e in
    let line = c.args.line in
    let texts = texts_of e in
    let old = c.args.out.now in
    let new = c.body.new.out in
    let r = c.index-clauses-i.result in
    let ts = read_all texts r.0.items in
    let x = text_of_option texts r.1 in
    let t = tree_of texts r.2 in
    let cs = read_clauses texts (drop c.loop-i.i c.args.clauses.now) in
    let is = sym (turn c.args.clauses.now c.loop-i.i r (omega arith) c.loop-i.auto.i c.index-clauses-i.is) in
    let code : Writes e.depth (bodies_shape l (read_clauses texts (r ∷ drop c.loop-i.i c.args.clauses.now)) line) old new =
    c.in_ok-body.ensures.code
    ∙ ap (grown e.depth (named l line x (part 0 (shape l t) (op line Leave done)))) c.loop-i.invariant.code
    ∙ sym (bodies_before l line e.depth ts x t cs (written old)) in
    record {
      code = subst (λ ns. Writes e.depth (bodies_shape l (read_clauses texts ns) line) old new) is code;
      children = subst
          (λ ns. Finds texts (clauses_direct e.in_loop (read_clauses texts ns)) old new)
          is
          (found_behind (children_of texts old) (children_of texts c.loop-i.out) (children_of texts new) (clauses_direct e.in_loop cs) (direct e.in_loop t) c.loop-i.invariant.children c.in_ok-body.ensures.children);
      starts = subst
          (λ ns. c.push.new.self.items ≡ reverse (clause_starts l line (length (written old).steps) (read_clauses texts ns)))
          is
          (c.in_ok-push.ensures.items ∙ clause_place l line e.depth ts x t cs c.loop-i.starts.items c.len.result (written old) (written new) c.loop-i.invariant.starts code c.len.ensures);
    }

pub returns-clause-code : goal.returns-clause-code
returns-clause-code g c =
    at_first
    (λ i. Writes c.args.emitter.now.depth (bodies_shape (where_of c.args.emitter.now) (read_clauses (texts_of c.args.emitter.now) (drop i c.args.clauses.now)) c.args.line) c.args.out.now c.loop-i.out)
    c.loop-i.i
    c.loop-i-test.false
    c.loop-i.invariant.code

pub returns-clause-children : goal.returns-clause-children
returns-clause-children g c =
    at_first
    (λ i. Finds (texts_of c.args.emitter.now) (clauses_direct c.args.emitter.now.in_loop (read_clauses (texts_of c.args.emitter.now) (drop i c.args.clauses.now))) c.args.out.now c.loop-i.out)
    c.loop-i.i
    c.loop-i-test.false
    c.loop-i.invariant.children
