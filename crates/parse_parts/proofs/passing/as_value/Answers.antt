use Rattle.parse_state.specs.Gives.{gave}
use Rattle.parse_state.proofs.Steps.{wanting, later_same}
use Rattle.parse_parts.proofs.passing.as_value.Goals as goal

pub returns-in_err-value : goal.returns-in_err-value
returns-in_err-value c = record { gives = λ w o s a at h. wanting _ c.from_residual.ensures.1 }

pub returns : goal.returns
returns c = record { gives = λ w o s a at h. gave at (later_same _) (record { value = c.in_ok-value.ensures _ a h; block = c.none-block.ensures _ }) }
