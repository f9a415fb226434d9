use Rattle.std.proofs.Common.{◌≡◌, ◌<◌, ◌≤◌, ◌-◌, List, length, reverse, drop, get_or, Vec, sym, subst, arith}
use Rattle.std.specs.declared.alloc.Global.{Global}
use Rattle.ruby_tree.specs.declared.node.Node.{Node}
use Rattle.ruby_tree.specs.Read.{tree_of}
use Rattle.ruby_tree.specs.Views.{read_all, read_whens}
use Rattle.compile_table.specs.Shapes.{hits_shape}
use Rattle.code_emitter.specs.Children.{direct, whens_direct}
use Rattle.code_emitter.specs.Emitting.{where_of, texts_of, written, children_of, Writes, Finds}
use Rattle.code_emitter.proofs.Seams.{at_first}
use Rattle.emit_control.specs.Starts.{starts}
use Rattle.emit_control.proofs.Tests.{hits_step}
use Rattle.emit_control.proofs.Places.{drop_at, found_before, places_counted, places_step}
use Rattle.emit_control.proofs.tests_of_cases.bodies.Goals as goal

pub loop-i-preserved : goal.loop-i-preserved
loop-i-preserved g c =
    let some : 0 < c.loop-i.i = omega arith in
    let within : c.loop-i.i ≤ length c.args.whens.now = omega arith in
    let first = sym (drop_at c.args.whens.now c.loop-i.i c.index-whens-i.result some within) in
    let item = get_or c.args.whens.now (c.loop-i.i - 1) c.index-whens-i.result in
    let ts = read_all (texts_of c.args.emitter.now) item.0.items in
    let t = tree_of (texts_of c.args.emitter.now) item.1 in
    let ws = read_whens (texts_of c.args.emitter.now) (drop c.loop-i.i c.args.whens.now) in
    let grows = hits_step (where_of c.args.emitter.now) c.args.line c.args.emitter.now.depth c.len-end.result ts t ws (written c.args.out.now) (written c.loop-i.out) (written c.one_branch.new.out) c.len-end.ensures c.loop-i.invariant.code c.in_ok-one_branch.ensures.code in
    record {
      code = subst (λ (ps : List (Vec Node Global × Node)). Writes c.args.emitter.now.depth (hits_shape (where_of c.args.emitter.now) c.args.line (read_whens (texts_of c.args.emitter.now) ps)) c.args.out.now c.one_branch.new.out) first grows;
      children = subst (λ (ps : List (Vec Node Global × Node)). Finds (texts_of c.args.emitter.now) (whens_direct c.args.emitter.now.in_loop (read_whens (texts_of c.args.emitter.now) ps)) c.args.out.now c.one_branch.new.out) first
          (found_before (children_of (texts_of c.args.emitter.now) c.args.out.now) (children_of (texts_of c.args.emitter.now) c.loop-i.out) (children_of (texts_of c.args.emitter.now) c.one_branch.new.out)
          (whens_direct c.args.emitter.now.in_loop ws) (direct c.args.emitter.now.in_loop t) c.loop-i.invariant.children c.in_ok-one_branch.ensures.children);
      places = subst (λ (ps : List (Vec Node Global × Node)). c.push.new.self.items ≡ reverse (starts (hits_shape (where_of c.args.emitter.now) c.args.line) (length (written c.args.out.now).steps) (read_whens (texts_of c.args.emitter.now) ps))) first
          (places_step (hits_shape (where_of c.args.emitter.now) c.args.line) c.args.emitter.now.depth c.len.result ts t ws (written c.args.out.now) (written c.one_branch.new.out) c.loop-i.starts.items c.push.new.self.items
          grows c.len.ensures c.loop-i.invariant.places c.in_ok-push.ensures.items);
    }

pub returns-clause-code : goal.returns-clause-code
returns-clause-code g c =
    at_first (λ i. Writes c.args.emitter.now.depth (hits_shape (where_of c.args.emitter.now) c.args.line (read_whens (texts_of c.args.emitter.now) (drop i c.args.whens.now))) c.args.out.now c.loop-i.out) c.loop-i.i c.loop-i-test.false c.loop-i.invariant.code

pub returns-clause-children : goal.returns-clause-children
returns-clause-children g c =
    at_first (λ i. Finds (texts_of c.args.emitter.now) (whens_direct c.args.emitter.now.in_loop (read_whens (texts_of c.args.emitter.now) (drop i c.args.whens.now))) c.args.out.now c.loop-i.out) c.loop-i.i c.loop-i-test.false c.loop-i.invariant.children

pub returns-clause-count : goal.returns-clause-count
returns-clause-count g c =
    places_counted (texts_of c.args.emitter.now) (hits_shape (where_of c.args.emitter.now) c.args.line) (length (written c.args.out.now).steps) c.args.whens.now c.loop-i.starts.items c.reverse.new.self.items
    (at_first (λ i. c.loop-i.starts.items ≡ reverse (starts (hits_shape (where_of c.args.emitter.now) c.args.line) (length (written c.args.out.now).steps) (read_whens (texts_of c.args.emitter.now) (drop i c.args.whens.now)))) c.loop-i.i c.loop-i-test.false c.loop-i.invariant.places)
    c.reverse.ensures.items
