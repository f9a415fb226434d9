use Rattle.ruby_tree.specs.Tree.{at}
use Rattle.tree_builder.proofs.GoesOn.{later}
use Rattle.parse_state.specs.Gives.{gave}
use Rattle.parse_operands.proofs.ends.leaf.Goals as goal

pub returns : goal.returns
returns c = record { gives = λ t w s h a. gave (c.bump.ensures.at w s a) c.bump.ensures.later (later _ _ c.bump.ensures.later.names _ _ h) }
