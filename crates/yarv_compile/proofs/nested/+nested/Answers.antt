use Rattle.std.proofs.Common.{◌≡◌, ◌<◌, ◌+◌, ◌++◌, List, ◌∷◌, length, map, drop, ap, sym, subst, ◌∙◌, arith}
use Rattle.std.specs.Prelude.{IsPermutation}
use Rattle.std.proofs.lemmas.List.{drop_more}
use Rattle.ruby_tree.specs.declared.node.Node.TheViews.{out-Node}
use Rattle.local_scopes.specs.Opened.{Open, sight}
use Rattle.code_emitter.specs.declared.output.Child.{Child as FoundChild}
use Rattle.code_emitter.specs.Emitting.{child_of}
use Rattle.code_emitter.proofs.Opened.{place}
use Rattle.yarv_compile.specs.Children.{all_under}
use Rattle.yarv_compile.specs.Finishing.{IsWithin, finished_of}
use Rattle.yarv_compile.proofs.Finishing.{with_inner, one_more}
use Rattle.yarv_compile.proofs.nested.+nested.Goals as goal

pub add_child-returns-clause-done : goal.add_child-returns-clause-done
add_child-returns-clause-done t c = λ l w.
    with_inner c.args.file.now c.enter.new.scopes (sight c.args.scopes.now) c.args.parent l w
    (child_of c.args.file.now.symbols.now c.args.child.now)
    (out-Node c.args.child.now.tree.now).place
    (map (child_of c.args.file.now.symbols.now) c.in_ok-inner.inner.items)
    c.args.done.now.items
    c.add_own.new.done.items
    c.add_children.new.done.items
    c.in_ok-enter.ensures.sight
    (sym (place c.args.file.now.symbols.now c.args.child.now.tree.now))
    c.in_ok-inner.ensures.done
    c.in_ok-inner.ensures.inner
    (λ m found. subst (λ (cs : List FoundChild). IsPermutation (c.add_own.new.done.items ++ map finished_of (all_under m (map (child_of c.args.file.now.symbols.now) cs))) c.add_children.new.done.items) c.deref.ensures.value
    (c.in_ok-add_children.ensures.done m (subst (λ q. IsWithin c.args.file.now (sight c.enter.new.scopes) q m) (sym c.number-number.ensures) found)))

pub add_children-loop-child-preserved : goal.add_children-loop-child-preserved
add_children-loop-child-preserved t c =
    let less : c.loop-child.child-index < length c.args.children.now = omega (arith, c.loop-child-test.true) in
    let next : drop c.loop-child.child-index c.args.children.now ≡ c.child-item.result ∷ drop (c.loop-child.child-index + 1) c.args.children.now =
    drop_more c.args.children.now c.loop-child.child-index c.child-item.result less ∙ ap (λ x. x ∷ drop (c.loop-child.child-index + 1) c.args.children.now) (sym c.child-item.is) in
    record {
      scopes = c.in_ok-add_child.ensures.scopes ∙ c.loop-child.invariant.scopes;
      done = λ w within.
          one_more w (child_of c.args.file.now.symbols.now c.child-item.result) (map (child_of c.args.file.now.symbols.now) (drop (c.loop-child.child-index + 1) c.args.children.now)) _ c.loop-child.done.items c.add_child.new.done.items
          (subst (λ (cs : List FoundChild). IsPermutation (c.args.done.now.items ++ map finished_of (all_under w (map (child_of c.args.file.now.symbols.now) c.args.children.now))) (c.loop-child.done.items ++ map finished_of (all_under w (map (child_of c.args.file.now.symbols.now) cs)))) next (c.loop-child.invariant.done w within))
          (c.in_ok-add_child.ensures.done w (subst (λ (os : List Open). IsWithin c.args.file.now (sight os) c.args.parent w) (sym c.loop-child.invariant.scopes) within));
    }
