use Rattle.std.proofs.Common.{◌∙◌}
use Rattle.tree_builder.proofs.is_body.Goals as goal
use Rattle.tree_builder.proofs.Built.{body_is}

pub returns : goal.returns
returns c T t h small = c.is_body_node.ensures ∙ body_is T _ t h small
