use Rattle.std.proofs.Common.{◌≡◌, ◌<◌, ◌≤◌, ℕ, ◌+◌, ◌-◌, List, length, drop, get_or, Vec, ◌++◌, ap, sym, subst, ◌∙◌, arith}
use Rattle.std.specs.declared.alloc.Global.{Global}
use Rattle.ruby_tree.specs.declared.node.Node.{Node}
use Rattle.ruby_tree.specs.Read.{tree_of}
use Rattle.ruby_tree.specs.Views.{read_all, read_whens}
use Rattle.code_meaning.specs.Code.{done, size}
use Rattle.code_writer.specs.Writing.{grown}
use Rattle.compile_table.specs.Shapes.{hits_shape, tests_shape, test_shape}
use Rattle.code_emitter.specs.Children.{trees_direct, patterns_direct}
use Rattle.code_emitter.specs.Emitting.{where_of, texts_of, written, children_of, Writes, Finds}
use Rattle.code_emitter.proofs.Seams.{at_first}
use Rattle.emit_control.proofs.Tests.{tests_step}
use Rattle.emit_control.proofs.Places.{drop_at, found_before, place_at}
use Rattle.emit_control.proofs.tests_of_cases.tests.Goals as goal

pub loop-i-preserved : goal.loop-i-preserved
loop-i-preserved g c =
    let some : 0 < c.loop-i.i = omega arith in
    let within : c.loop-i.i ≤ length c.args.whens.now = omega arith in
    let inside : c.loop-i.i - 1 < length c.args.whens.now = omega arith in
    let first = sym (drop_at c.args.whens.now c.loop-i.i c.index-whens-i.result some within) in
    let item = get_or c.args.whens.now (c.loop-i.i - 1) c.index-whens-i.result in
    let start = get_or c.args.places.now (c.loop-i.i - 1) 0 in
    let ts = read_all (texts_of c.args.emitter.now) item.0.items in
    let t = tree_of (texts_of c.args.emitter.now) item.1 in
    let ws = read_whens (texts_of c.args.emitter.now) (drop c.loop-i.i c.args.whens.now) in
    record {
      code = λ n far are. subst (λ (ps : List (Vec Node Global × Node)). length (written c.args.out.now).steps ≡ far + (size (hits_shape (where_of c.args.emitter.now) c.args.line (read_whens (texts_of c.args.emitter.now) ps)) + n) → Writes c.args.emitter.now.depth (tests_shape (where_of c.args.emitter.now) c.args.line (read_whens (texts_of c.args.emitter.now) ps) far done) c.args.out.now c.alternatives.new.out) first
          (λ place. tests_step (where_of c.args.emitter.now) c.args.line c.args.emitter.now.depth n start far ts t ws (written c.args.out.now) (written c.loop-i.out) (written c.alternatives.new.out) place
          (ap (λ (xs : List ℕ). get_or xs (c.loop-i.i - 1) 0) are ∙ place_at (texts_of c.args.emitter.now) (hits_shape (where_of c.args.emitter.now) c.args.line) n (c.loop-i.i - 1) 0 c.args.whens.now inside ∙ ap (λ (ps : List (Vec Node Global × Node)). size (hits_shape (where_of c.args.emitter.now) c.args.line (read_whens (texts_of c.args.emitter.now) ps)) + n) (sym first))
          (λ m rest. c.loop-i.invariant.code n m are rest)
          (λ m reach. c.in_ok-alternatives.ensures.code m reach ∙ ap (λ (ns : List Node). grown c.args.emitter.now.depth (test_shape (where_of c.args.emitter.now) c.args.line (read_all (texts_of c.args.emitter.now) ns) m done) (written c.loop-i.out)) c.deref.ensures.value));
      children = subst (λ (ps : List (Vec Node Global × Node)). Finds (texts_of c.args.emitter.now) (patterns_direct c.args.emitter.now.in_loop (read_whens (texts_of c.args.emitter.now) ps)) c.args.out.now c.alternatives.new.out) first
          (found_before (children_of (texts_of c.args.emitter.now) c.args.out.now) (children_of (texts_of c.args.emitter.now) c.loop-i.out) (children_of (texts_of c.args.emitter.now) c.alternatives.new.out)
          (patterns_direct c.args.emitter.now.in_loop ws) (trees_direct c.args.emitter.now.in_loop ts) c.loop-i.invariant.children
          (c.in_ok-alternatives.ensures.children ∙ ap (λ (ns : List Node). children_of (texts_of c.args.emitter.now) c.loop-i.out ++ trees_direct c.args.emitter.now.in_loop (read_all (texts_of c.args.emitter.now) ns)) c.deref.ensures.value));
    }

pub returns-clause-children : goal.returns-clause-children
returns-clause-children g c =
    at_first (λ i. Finds (texts_of c.args.emitter.now) (patterns_direct c.args.emitter.now.in_loop (read_whens (texts_of c.args.emitter.now) (drop i c.args.whens.now))) c.args.out.now c.loop-i.out) c.loop-i.i c.loop-i-test.false c.loop-i.invariant.children
