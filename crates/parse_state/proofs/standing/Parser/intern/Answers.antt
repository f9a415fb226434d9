use Rattle.std.proofs.Common.{rules}
use Rattle.tree_builder.proofs.GoesOn.{interned}
use Rattle.parse_state.specs.Gives.{gave}
use Rattle.parse_state.proofs.Steps.{wanting}
use Rattle.parse_state.proofs.standing.Parser.intern.Goals as goal

pub returns-in_err-intern : goal.returns-in_err-intern
returns-in_err-intern c = record { gives = λ w s a. wanting _ c.from_residual.ensures.1 }

pub returns : goal.returns
returns c = record { gives = λ w s a. gave (search rules) (search rules) (interned _ _ _ _ c.in_ok-intern.ensures.ok c.in_ok-intern.ensures.within) }
