use Rattle.std.proofs.Common.{subst, Result}
use Rattle.tree_builder.specs.declared.Subtree.{Subtree}
use Rattle.tree_builder.specs.Subtrees.{Holds}
use Rattle.parse_state.specs.declared.failures.Failure.{Failure}
use Rattle.parse_state.specs.Gives.{Gives}
use Rattle.parse_state.proofs.Steps.{handed}
use Rattle.parse_program.proofs.Ties.{found_failed, found_there}
use Rattle.parse_program.proofs.founds.found.Goals as goal

pub returns-in_err-part : goal.returns-in_err-part
returns-in_err-part c = λ p q a h. handed _ _ c.from_residual.ensures.1 (found_failed (subst (λ (r : Result Subtree Failure). Gives Holds p q r a) c.in_err-part.was h))

pub returns : goal.returns
returns c = λ p q a h. found_there (subst (λ (r : Result Subtree Failure). Gives Holds p q r a) c.in_ok-part.was h)
