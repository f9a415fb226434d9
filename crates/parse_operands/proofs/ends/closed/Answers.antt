use Rattle.tree_builder.proofs.GoesOn.{later}
use Rattle.parse_state.proofs.Steps.{handed}
use Rattle.parse_state.proofs.Tools.{closed_with, unclosed}
use Rattle.parse_operands.proofs.ends.closed.Goals as goal

pub returns-in_err-expect_closing : goal.returns-in_err-expect_closing
returns-in_err-expect_closing c = record { reads = λ t h w s a. handed _ _ c.from_residual.ensures.1 (unclosed s _ _ _ w (c.in_err-expect_closing.ensures.reads w s a)) }

pub returns : goal.returns
returns c = record { reads = λ t h w s a. closed_with s _ _ _ w (λ l. later _ _ l.names _ _ h) (c.in_ok-expect_closing.ensures.reads w s a) }
