use Rattle.std.proofs.Common.{subst, Result}
use Rattle.tree_builder.specs.declared.lists.ElseSubtree.{ElseSubtree}
use Rattle.tree_builder.specs.Subtrees.{HoldsOther}
use Rattle.parse_state.specs.declared.failures.Failure.{Failure}
use Rattle.parse_state.specs.Gives.{Gives}
use Rattle.parse_state.proofs.Steps.{handed}
use Rattle.parse_program.proofs.Ties.{failed_as, other_found}
use Rattle.parse_program.proofs.founds.found_other.Goals as goal

pub returns-in_err-part : goal.returns-in_err-part
returns-in_err-part c = λ p q a h. handed _ _ c.from_residual.ensures.1 (failed_as (subst (λ (r : Result ElseSubtree Failure). Gives HoldsOther p q r a) c.in_err-part.was h))

pub returns : goal.returns
returns c = λ p q a h. other_found _ (λ T o. c.into_part.ensures T o) (subst (λ (r : Result ElseSubtree Failure). Gives HoldsOther p q r a) c.in_ok-part.was h)
