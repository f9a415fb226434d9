use Rattle.reference_parser.specs.ReadOperands.{read_postfix}
use Rattle.parse_state.proofs.Steps.{failed, handed}
use Rattle.parse_state.proofs.Tools.{so}
use Rattle.parse_operands.proofs.Counts.{under}
use Rattle.parse_operands.proofs.postfixes.postfix.Goals as goal

pub returns-in_err-operand : goal.returns-in_err-operand
unfolding read_postfix
returns-in_err-operand g c = record { reads = λ w s a. handed _ _ c.from_residual.ensures.1 (failed _ (c.in_err-operand.ensures.reads _ _ a)) }

pub returns : goal.returns
unfolding read_postfix
returns g c = record { reads = λ w s a. so (c.in_ok-operand.ensures.reads _ _ a) (λ t1 r1 z1 b1 l1 h1. c.postfixes.ensures.reads w t1 (c.position_here-here.ensures _ _ a) h1 _ _ _ b1 (under _)) }
