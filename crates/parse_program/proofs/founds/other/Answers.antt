use Rattle.std.proofs.Common.{ap, ◌∙◌, subst, Option, Result, Ok}
use Rattle.tree_builder.specs.declared.Subtree.{Subtree}
use Rattle.parse_state.specs.declared.failures.Failure.{Failure}
use Rattle.parse_state.specs.Gives.{Gives}
use Rattle.parse_state.proofs.Steps.{handed, wanting}
use Rattle.parse_program.specs.Knot.{HoldsFound}
use Rattle.parse_program.proofs.Ties.{failed_as, other_nothing, other_there}
use Rattle.parse_program.proofs.founds.other.Goals as goal

pub returns-in_err-part : goal.returns-in_err-part
returns-in_err-part c = λ p q a h. handed _ _ c.from_residual.ensures.1 (failed_as (subst (λ (r : Result (Option Subtree) Failure). Gives HoldsFound p q r a) c.in_err-part.was h))

pub returns-in_err-some-in-Some : goal.returns-in_err-some-in-Some
returns-in_err-some-in-Some c = λ p q a h. wanting _ c.from_residual-in_err-some-in-Some.ensures.1

pub returns-in_ok-some-in-Some : goal.returns-in_ok-some-in-Some
returns-in_ok-some-in-Some c = λ p q a h. other_there (λ T t. c.in_ok-some-in-Some.ensures T t) (subst (λ (r : Result (Option Subtree) Failure). Gives HoldsFound p q r a) (c.in_ok-part.was ∙ ap Ok c.in-Some.is) h)

pub returns-in-None : goal.returns-in-None
returns-in-None c = λ p q a h. other_nothing (λ T. c.none.ensures T) (subst (λ (r : Result (Option Subtree) Failure). Gives HoldsFound p q r a) (c.in_ok-part.was ∙ ap Ok c.in-None.is) h)
