use Rattle.std.proofs.Common.{ℕ, max, ap, ◌∙◌}
use Rattle.tree_builder.proofs.lists.RescueSubtrees.push.Goals as goal
use Rattle.tree_builder.proofs.Pushed.{clause_pushed}

pub returns : goal.returns
returns c T cs ts x t h p n q = clause_pushed T _ _ _ _ _ cs ts x t c.in_ok-push.ensures.items (c.deeper-self.ensures ∙ ap (λ (n : ℕ). max c.args.self.now.depth n) c.deeper.ensures) h p n q
