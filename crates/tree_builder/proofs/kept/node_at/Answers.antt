use Rattle.tree_builder.proofs.kept.node_at.Goals as goal
use Rattle.tree_builder.proofs.Fitted.{made_node_is}

pub returns : goal.returns
returns c U f is = made_node_is U _ _ _ _ f is
