use Rattle.tree_builder.proofs.GoesOn.{named_later}
use Rattle.parse_state.specs.Gives.{gave}
use Rattle.parse_state.proofs.Steps.{handed, step, cut, later_of, later_same}
use Rattle.parse_parts.proofs.variables.declared_name.Goals as goal

pub returns-in_err-name : goal.returns-in_err-name
returns-in_err-name c = record { gives = λ w s a. handed _ _ c.from_residual.ensures.1 (cut (c.in_err-name.ensures.gives w s a)) }

pub returns-in_err-declare : goal.returns-in_err-declare
returns-in_err-declare c = record { gives = λ w s a. handed _ _ c.from_residual-in_err-declare.ensures.1 (step (c.in_ok-name.ensures.gives w s a) (λ b i. cut (c.in_err-declare.ensures.gives w s b))) }

pub returns : goal.returns
returns c = record { gives = λ w s a. step (c.in_ok-name.ensures.gives w s a) (λ b i. step (c.in_ok-declare.ensures.gives w s b) (λ d u. gave d (later_same _) (named_later _ _ (later_of (c.in_ok-declare.ensures.gives w s b)).names _ _ i))) }
