use Rattle.std.proofs.Common.{refl}
use Rattle.ruby_tree.specs.Tree.{at}
use Rattle.ruby_tree.specs.Build.{nothing}
use Rattle.tree_builder.proofs.GoesOn.{later}
use Rattle.parse_state.specs.Gives.{gave}
use Rattle.parse_state.proofs.Steps.{later_same, from, failed, handed}
use Rattle.parse_state.proofs.Tools.{at_spot, so}
use Rattle.parse_operands.proofs.names.lone_super.Goals as goal

pub returns-in_err-block : goal.returns-in_err-block
returns-in_err-block g c = record { reads = λ w s a. handed _ _ c.from_residual.ensures.1 (from c.bump.ensures.later (failed _ (c.in_err-block.ensures.reads nothing refl (c.none.ensures _) _ _ (c.bump.ensures.at _ _ a)))) }

pub returns : goal.returns
returns g c = record { reads = λ w s a. from c.bump.ensures.later (so (c.in_ok-block.ensures.reads nothing refl (c.none.ensures _) _ _ (c.bump.ensures.at _ _ a)) (λ t1 r1 z1 b1 l1 h1. gave b1 (later_same _) (at_spot (c.position_here-here.ensures _ _ a) (c.bare_super.ensures.made _ _ h1)))) }
