use Rattle.std.proofs.Common.{ap, ◌∙◌, subst, Option, Result, Ok}
use Rattle.tree_builder.specs.declared.Subtree.{Subtree}
use Rattle.parse_state.specs.declared.failures.Failure.{Failure}
use Rattle.parse_state.specs.Gives.{Gives}
use Rattle.parse_state.proofs.Steps.{handed}
use Rattle.parse_program.specs.Knot.{HoldsFound, there}
use Rattle.parse_program.proofs.Ties.{part_failed, part_nothing, part_there}
use Rattle.parse_program.proofs.founds.part.Goals as goal

pub returns-in_err-part : goal.returns-in_err-part
returns-in_err-part c = λ p q a h. handed _ _ c.from_residual.ensures.1 (part_failed _ (subst (λ (r : Result (Option Subtree) Failure). Gives HoldsFound p q r (there a)) c.in_err-part.was h))

pub returns-in-Some : goal.returns-in-Some
returns-in-Some c = λ p q a h. part_there _ (subst (λ (r : Result (Option Subtree) Failure). Gives HoldsFound p q r (there a)) (c.in_ok-part.was ∙ ap Ok c.in-Some.is) h)

pub returns-in-None : goal.returns-in-None
returns-in-None c = λ p q a h. part_nothing _ (subst (λ (r : Result (Option Subtree) Failure). Gives HoldsFound p q r (there a)) (c.in_ok-part.was ∙ ap Ok c.in-None.is) h)
