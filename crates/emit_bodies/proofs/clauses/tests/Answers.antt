use Rattle.std.proofs.Common.{◌≡◌, ℕ, ◌+◌, ◌-◌, ◌∷◌, drop, get_or, Option, Vec, ap, subst, sym, ◌∙◌, arith}
use Rattle.std.specs.declared.alloc.Global.{Global}
use Rattle.ruby_tree.specs.declared.names.Name.{Name}
use Rattle.ruby_tree.specs.declared.node.Node.{Node}
use Rattle.ruby_tree.specs.Read.{tree_of, text_of_option}
use Rattle.ruby_tree.specs.Views.{read_all, read_clauses}
use Rattle.code_meaning.specs.Code.{done, size}
use Rattle.compile_table.specs.Shapes.{bodies_shape, clauses_shape, clause_shape}
use Rattle.code_emitter.specs.Children.{trees_direct, classes_direct}
use Rattle.code_emitter.specs.Emitting.{where_of, texts_of, written, children_of, Writes, Finds}
use Rattle.code_emitter.proofs.Seams.{at_first}
use Rattle.emit_bodies.proofs.ClauseSteps.{clause_step, start_at}
use Rattle.emit_bodies.proofs.CountingDown.{turn, found_behind}
use Rattle.emit_bodies.proofs.clauses.tests.Goals as goal

pub loop-i-preserved : goal.loop-i-preserved
loop-i-preserved g c =
    let e = c.args.emitter.now in
    let l = where_of e in
    let line = c.args.line in
    let texts = texts_of e in
    let old = c.args.out.now in
    let mid = c.loop-i.out in
    let new = c.test.new.out in
    let i = c.loop-i.i in
    let clauses = c.args.clauses.now in
    let r = c.index-clauses-i.result in
    let ts = read_all texts r.0.items in
    let x = text_of_option texts r.1 in
    let t = tree_of texts r.2 in
    let cs = read_clauses texts (drop i clauses) in
    let total = size (bodies_shape l (read_clauses texts clauses) line) in
    let start = get_or c.args.starts.now (i - 1) 0 in
    let first : i - 1 + 1 ≡ i = omega arith in
    let is : drop (i - 1) clauses ≡ r ∷ drop i clauses = turn clauses i r (omega arith) c.loop-i.auto.i c.index-clauses-i.is in
    let trees : c.deref.result.now ≡ r.0.items = c.deref.ensures.value ∙ ap (λ (p : Vec Node Global × Option Name × Node). p.0.items) (sym c.index-clauses-i.is) in
    record {
      code = λ n are place. subst
          (λ ns. (far : ℕ) → far + size (bodies_shape l (read_clauses texts ns) line) ≡ total → Writes e.depth (clauses_shape l (read_clauses texts ns) line far done) old new)
          (sym is)
          (λ far here.
          clause_step l line e.depth n total start far ts x t cs (written old) (written mid) (written new) place
          (ap (λ ns. get_or ns (i - 1) 0) are ∙ start_at l line n texts clauses (i - 1) (omega arith) ∙ ap (λ ns. size (bodies_shape l (read_clauses texts ns) line) + n) is)
          (c.loop-i.invariant.code n are place)
          (λ m far_is. subst (λ ns. Writes e.depth (clause_shape l (read_all texts ns) line m done) mid new) trees (c.in_ok-test.ensures.code m far_is))
          here);
      children = subst
          (λ ns. Finds texts (classes_direct e.in_loop (read_clauses texts ns)) old new)
          (sym is)
          (found_behind (children_of texts old) (children_of texts mid) (children_of texts new) (classes_direct e.in_loop cs) (trees_direct e.in_loop ts) c.loop-i.invariant.children
          (subst (λ ns. Finds texts (trees_direct e.in_loop (read_all texts ns)) mid new) trees c.in_ok-test.ensures.children));
    }

pub returns-clause-children : goal.returns-clause-children
returns-clause-children g c =
    at_first
    (λ i. Finds (texts_of c.args.emitter.now) (classes_direct c.args.emitter.now.in_loop (read_clauses (texts_of c.args.emitter.now) (drop i c.args.clauses.now))) c.args.out.now c.loop-i.out)
    c.loop-i.i
    c.loop-i-test.false
    c.loop-i.invariant.children
