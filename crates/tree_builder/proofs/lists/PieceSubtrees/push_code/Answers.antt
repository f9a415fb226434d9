use Rattle.tree_builder.proofs.lists.PieceSubtrees.push_code.Goals as goal
use Rattle.tree_builder.proofs.Pushed.{code_pushed}

pub returns : goal.returns
returns c T ps t h p = code_pushed T _ _ _ ps t c.in_ok-push.ensures.items c.deeper-self.ensures h p
