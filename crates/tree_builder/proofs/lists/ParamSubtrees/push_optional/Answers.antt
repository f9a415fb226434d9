use Rattle.tree_builder.proofs.lists.ParamSubtrees.push_optional.Goals as goal
use Rattle.tree_builder.proofs.Pushed.{optional_pushed}

pub returns : goal.returns
returns c T ps f t h n p = optional_pushed T _ _ _ _ ps f t c.in_ok-push.ensures.items c.deeper-self.ensures h n p
