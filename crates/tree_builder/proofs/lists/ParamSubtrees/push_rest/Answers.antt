use Rattle.std.proofs.Common.{refl}
use Rattle.tree_builder.proofs.lists.ParamSubtrees.push_rest.Goals as goal
use Rattle.tree_builder.proofs.Pushed.{rest_pushed}

pub returns : goal.returns
returns c T ps f h n = rest_pushed T _ _ _ ps f c.in_ok-push.ensures.items refl h n
