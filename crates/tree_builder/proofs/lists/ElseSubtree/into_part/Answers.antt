use Rattle.tree_builder.proofs.lists.ElseSubtree.into_part.Goals as goal
use Rattle.tree_builder.proofs.Parts.{part_holds}

pub returns-in-Some : goal.returns-in-Some
returns-in-Some c T o h = part_holds T _ _ _ o c.in-Some.is c.into_inner.ensures h
