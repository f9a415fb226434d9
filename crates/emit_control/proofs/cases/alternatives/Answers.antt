use Rattle.std.proofs.Common.{◌<◌, ◌≤◌, List, length, drop, sym, subst, arith}
use Rattle.ruby_tree.specs.declared.node.Node.{Node}
use Rattle.ruby_tree.specs.Read.{tree_of}
use Rattle.ruby_tree.specs.Views.{read_all}
use Rattle.code_meaning.specs.Code.{done}
use Rattle.compile_table.specs.Shapes.{pattern_shape}
use Rattle.code_emitter.specs.Children.{direct, trees_direct}
use Rattle.code_emitter.specs.Emitting.{where_of, texts_of, written, children_of, Writes, Finds}
use Rattle.code_emitter.proofs.Seams.{at_first}
use Rattle.emit_control.proofs.CaseSteps.{pattern_step}
use Rattle.emit_control.proofs.Places.{drop_before, found_before}
use Rattle.emit_control.proofs.cases.alternatives.Goals as goal

pub loop-i-preserved : goal.loop-i-preserved
loop-i-preserved g c =
    let some : 0 < c.loop-i.i = omega arith in
    let within : c.loop-i.i ≤ length c.args.trees.now = omega arith in
    let first = sym (drop_before c.args.trees.now c.loop-i.i c.index-trees-i.result some within c.index-trees-i.is) in
    record {
      code = λ far place. subst (λ (ns : List Node). Writes c.args.emitter.now.depth (pattern_shape (where_of c.args.emitter.now) c.args.line (read_all (texts_of c.args.emitter.now) ns) far done) c.args.out.now c.pattern.new.out) first
          (pattern_step (where_of c.args.emitter.now) c.args.line c.args.emitter.now.depth c.args.start far (tree_of (texts_of c.args.emitter.now) c.index-trees-i.result) (read_all (texts_of c.args.emitter.now) (drop c.loop-i.i c.args.trees.now))
          (written c.args.out.now) (written c.loop-i.out) (written c.pattern.new.out) place (c.loop-i.invariant.code far place) c.in_ok-pattern.ensures.code);
      children = subst (λ (ns : List Node). Finds (texts_of c.args.emitter.now) (trees_direct c.args.emitter.now.in_loop (read_all (texts_of c.args.emitter.now) ns)) c.args.out.now c.pattern.new.out) first
          (found_before (children_of (texts_of c.args.emitter.now) c.args.out.now) (children_of (texts_of c.args.emitter.now) c.loop-i.out) (children_of (texts_of c.args.emitter.now) c.pattern.new.out)
          (trees_direct c.args.emitter.now.in_loop (read_all (texts_of c.args.emitter.now) (drop c.loop-i.i c.args.trees.now))) (direct c.args.emitter.now.in_loop (tree_of (texts_of c.args.emitter.now) c.index-trees-i.result))
          c.loop-i.invariant.children c.in_ok-pattern.ensures.children);
    }

pub returns-clause-children : goal.returns-clause-children
returns-clause-children g c =
    at_first (λ i. Finds (texts_of c.args.emitter.now) (trees_direct c.args.emitter.now.in_loop (read_all (texts_of c.args.emitter.now) (drop i c.args.trees.now))) c.args.out.now c.loop-i.out) c.loop-i.i c.loop-i-test.false c.loop-i.invariant.children
