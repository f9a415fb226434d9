use Rattle.std.proofs.Common.{ℕ, max, ap, ◌∙◌}
use Rattle.tree_builder.proofs.lists.PairSubtrees.push.Goals as goal
use Rattle.tree_builder.proofs.Pushed.{pair_pushed}

pub returns : goal.returns
returns c T ps k v h p q = pair_pushed T _ _ _ _ ps k v c.in_ok-push.ensures.items (c.deeper-self.ensures ∙ ap (λ (n : ℕ). max c.args.self.now.depth n) c.deeper.ensures) h p q
