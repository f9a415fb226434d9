use Rattle.std.proofs.Common.{ℕ, max, ap, ◌∙◌}
use Rattle.tree_builder.proofs.lists.WhenSubtrees.push.Goals as goal
use Rattle.tree_builder.proofs.Pushed.{when_pushed}

pub returns : goal.returns
returns c T ws ts t h p q = when_pushed T _ _ _ _ ws ts t c.in_ok-push.ensures.items (c.deeper-self.ensures ∙ ap (λ (n : ℕ). max c.args.self.now.depth n) c.deeper.ensures) h p q
