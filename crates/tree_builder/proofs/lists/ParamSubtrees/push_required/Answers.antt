use Rattle.std.proofs.Common.{refl}
use Rattle.tree_builder.proofs.lists.ParamSubtrees.push_required.Goals as goal
use Rattle.tree_builder.proofs.Pushed.{required_pushed}

pub returns : goal.returns
returns c T ps f h n = required_pushed T _ _ _ ps f c.in_ok-push.ensures.items refl h n
