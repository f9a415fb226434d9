use Rattle.tree_builder.proofs.lists.Subtrees.push.Goals as goal
use Rattle.tree_builder.proofs.Pushed.{tree_pushed}

pub returns : goal.returns
returns c T ts t h p = tree_pushed T _ _ _ ts t c.in_ok-push.ensures.items c.deeper-self.ensures h p
