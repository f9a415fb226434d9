use Rattle.parse_state.proofs.Steps.{handed}
use Rattle.parse_program.proofs.Moving.{any_failed, any_part}
use Rattle.parse_program.proofs.turns.skip_statement.Goals as goal

pub returns-in_err-statement : goal.returns-in_err-statement
returns-in_err-statement g c = record { reads = λ w s a. handed _ _ c.from_residual.ensures.1 (any_failed (c.in_err-statement.ensures.reads w s a)) }

pub returns : goal.returns
returns g c = record { reads = λ w s a. any_part (c.in_ok-statement.ensures.reads w s a) }
