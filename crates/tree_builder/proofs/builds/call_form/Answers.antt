use Rattle.std.proofs.Common.{Bool, false, List, ℕ, IfOk, sym, subst}
use Rattle.ruby_tree.specs.Tree.{at, send, safe_send, with}
use Rattle.ruby_tree.specs.Build.{call_form}
use Rattle.ruby_tree.specs.SourcePositions.{position_of}
use Rattle.tree_builder.specs.Subtrees.{Holds}
use Rattle.tree_builder.proofs.builds.call_form.Goals as goal

pub returns-then-safe : goal.returns-then-safe
returns-then-safe c = record {
  made = λ T a g m b h i ks j n k.
      subst (λ (s : Bool). IfOk c.safe_send.result (λ part. Holds T part (at (position_of c.args.here) (call_form s a g m b)))) (sym c.if-safe.true)
      (subst (λ (l : List ℕ). IfOk c.safe_send.result (λ part. Holds T part (at (position_of c.args.here) (safe_send a g.trees l g.value m b)))) ks (c.safe_send.ensures.made T a g.trees g.value m b h i j n k));
}

pub returns : goal.returns
returns c = record {
  made = λ T a g m b h i ks j n k.
      subst (λ (s : Bool). Holds T c.send.result (at (position_of c.args.here) (call_form s a g m b))) (sym c.if-safe.false)
      (subst (λ (l : List ℕ). Holds T c.send.result (at (position_of c.args.here) (send (with a) g.trees l g.value m false b))) ks (c.send.ensures.made T (with a) g.trees g.value m b (c.in_ok-receiver.ensures T a h) i j n k));
}
