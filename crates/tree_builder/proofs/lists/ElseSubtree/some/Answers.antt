use Rattle.tree_builder.proofs.lists.ElseSubtree.some.Goals as goal
use Rattle.tree_builder.proofs.Parts.{some_holds}

pub returns : goal.returns
returns c T t p = some_holds T _ _ t (c.in_ok-node.ensures T t p)
