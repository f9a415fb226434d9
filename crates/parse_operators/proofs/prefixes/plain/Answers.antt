use Rattle.parse_state.proofs.Steps.{and_then, failed, handed}
use Rattle.parse_operators.proofs.prefixes.plain.Goals as goal

pub returns-in_err-postfix : goal.returns-in_err-postfix
returns-in_err-postfix g c = record { reads = λ w s a. handed _ _ c.from_residual.ensures.1 (failed _ (c.in_err-postfix.ensures.reads w s a)) }

pub returns : goal.returns
returns g c = record { reads = λ w s a. and_then (c.in_ok-postfix.ensures.reads w s a) (λ t r z b h. c.operand_alone.ensures _ _ _ t r z b h) }
