use Rattle.std.proofs.Common.{refl}
use Rattle.tree_builder.proofs.lists.PieceSubtrees.push_plain.Goals as goal
use Rattle.tree_builder.proofs.Pushed.{plain_pushed}

pub returns : goal.returns
returns c T ps h = plain_pushed T _ _ _ ps c.in_ok-push.ensures.items refl h
