use Rattle.parse_state.proofs.Steps.{handed}
use Rattle.parse_program.proofs.Moving.{any_failed, any_part}
use Rattle.parse_program.proofs.headers.skip_superclass.Goals as goal

pub returns-in_err-superclass : goal.returns-in_err-superclass
returns-in_err-superclass g c = record { reads = λ w s a. handed _ _ c.from_residual.ensures.1 (any_failed (c.in_err-superclass.ensures.reads w s a)) }

pub returns : goal.returns
returns g c = record { reads = λ w s a. any_part (c.in_ok-superclass.ensures.reads w s a) }
