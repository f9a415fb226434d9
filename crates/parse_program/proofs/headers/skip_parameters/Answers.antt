use Rattle.parse_state.proofs.Steps.{handed}
use Rattle.parse_program.proofs.Moving.{any_failed, any_part}
use Rattle.parse_program.proofs.headers.skip_parameters.Goals as goal

pub returns-in_err-parameter_list : goal.returns-in_err-parameter_list
returns-in_err-parameter_list g c = record { reads = λ w s a. handed _ _ c.from_residual.ensures.1 (any_failed (c.in_err-parameter_list.ensures.reads w s a)) }

pub returns : goal.returns
returns g c = record { reads = λ w s a. any_part (c.in_ok-parameter_list.ensures.reads w s a) }
