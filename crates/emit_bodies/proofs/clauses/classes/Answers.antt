use Rattle.std.proofs.Common.{◌≡◌, ℕ, ◌+◌, length, drop, subst, sym, arith}
use Rattle.ruby_tree.specs.Read.{tree_of}
use Rattle.ruby_tree.specs.Views.{read_all}
use Rattle.code_meaning.specs.Code.{done}
use Rattle.compile_table.specs.Shapes.{classes_shape}
use Rattle.code_emitter.specs.Children.{direct, trees_direct}
use Rattle.code_emitter.specs.Emitting.{where_of, texts_of, written, children_of, Writes, Finds}
use Rattle.code_emitter.proofs.Seams.{at_first}
use Rattle.emit_bodies.proofs.ClauseSteps.{class_step}
use Rattle.emit_bodies.proofs.CountingDown.{turn, found_behind}
use Rattle.emit_bodies.proofs.clauses.classes.Goals as goal

pub loop-i-preserved : goal.loop-i-preserved
loop-i-preserved g c =
    let e = c.args.emitter.now in
    let l = where_of e in
    let line = c.args.line in
    let texts = texts_of e in
    let old = c.args.out.now in
    let new = c.class.new.out in
    let n = c.index-trees-i.result in
    let ts = read_all texts (drop c.loop-i.i c.args.trees.now) in
    let is = sym (turn c.args.trees.now c.loop-i.i n (omega arith) c.loop-i.auto.i c.index-trees-i.is) in
    record {
      code = subst
          (λ ns. (far : ℕ) → length (written old).steps ≡ far + c.args.start → Writes e.depth (classes_shape l (read_all texts ns) line far done) old new)
          is
          (λ far place. class_step l line e.depth c.args.start far (tree_of texts n) ts (written old) (written c.loop-i.out) (written new) place (c.loop-i.invariant.code far place) c.in_ok-class.ensures.code);
      children = subst
          (λ ns. Finds texts (trees_direct e.in_loop (read_all texts ns)) old new)
          is
          (found_behind (children_of texts old) (children_of texts c.loop-i.out) (children_of texts new) (trees_direct e.in_loop ts) (direct e.in_loop (tree_of texts n)) c.loop-i.invariant.children c.in_ok-class.ensures.children);
    }

pub returns-clause-children : goal.returns-clause-children
returns-clause-children g c =
    at_first
    (λ i. Finds (texts_of c.args.emitter.now) (trees_direct c.args.emitter.now.in_loop (read_all (texts_of c.args.emitter.now) (drop i c.args.trees.now))) c.args.out.now c.loop-i.out)
    c.loop-i.i
    c.loop-i-test.false
    c.loop-i.invariant.children
