use Rattle.parse_state.proofs.Steps.{wanting}
use Rattle.parse_state.proofs.standing.Parser.setter.Goals as goal

pub returns-in_err-text : goal.returns-in_err-text
returns-in_err-text c = record { gives = λ w s a. wanting _ c.from_residual.ensures.1 }

pub returns-in_err-push : goal.returns-in_err-push
returns-in_err-push c = record { gives = λ w s a. wanting _ c.from_residual-in_err-push.ensures.1 }
