use Rattle.std.proofs.Common.{refl}
use Rattle.tree_builder.proofs.lists.ParamSubtrees.push_block.Goals as goal
use Rattle.tree_builder.proofs.Pushed.{block_pushed}

pub returns : goal.returns
returns c T ps f h n = block_pushed T _ _ _ ps f c.in_ok-push.ensures.items refl h n
