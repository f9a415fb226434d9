use Rattle.parse_state.specs.Gives.{gave}
use Rattle.parse_state.proofs.Steps.{handed, step, cut, later_same}
use Rattle.parse_parts.proofs.variables.target.Goals as goal

pub returns-in_err-name : goal.returns-in_err-name
returns-in_err-name c = record { gives = λ w s a. handed _ _ c.from_residual.ensures.1 (cut (c.in_err-name.ensures.gives w s a)) }

pub returns : goal.returns
returns c = record { gives = λ w s a. step (c.in_ok-name.ensures.gives w s a) (λ b i. gave b (later_same _) (c.as_target.ensures _ _ i)) }
