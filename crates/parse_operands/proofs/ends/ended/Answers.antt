use Rattle.tree_builder.proofs.GoesOn.{later}
use Rattle.reference_parser.specs.ReadBodies.{ended}
use Rattle.parse_state.specs.Gives.{gave}
use Rattle.parse_state.proofs.Steps.{later_same, unexpected, handed}
use Rattle.parse_state.proofs.Tools.{so_met}
use Rattle.parse_operands.proofs.ends.ended.Goals as goal

pub returns-in_err-expect_word : goal.returns-in_err-expect_word
unfolding ended
returns-in_err-expect_word c = record { reads = λ R t h w s a. handed _ _ c.from_residual.ensures.1 (unexpected _ (c.in_err-expect_word.ensures.expects w s a)) }

pub returns : goal.returns
unfolding ended
returns c = record { reads = λ R t h w s a. so_met (c.in_ok-expect_word.ensures.expects w s a) (λ b l. gave b (later_same _) (later _ _ l.names _ _ h)) }
