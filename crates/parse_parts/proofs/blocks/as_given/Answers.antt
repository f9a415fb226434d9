use Rattle.std.proofs.Common.{subst, Result}
use Rattle.tree_builder.specs.declared.Subtree.{Subtree}
use Rattle.tree_builder.specs.Subtrees.{Holds}
use Rattle.parse_state.specs.declared.failures.Failure.{Failure}
use Rattle.parse_state.specs.Gives.{Gives, gave}
use Rattle.parse_state.proofs.Steps.{and_then, failed, handed, later_same, wanting}
use Rattle.parse_parts.proofs.blocks.as_given.Goals as goal

pub returns-in_err-block : goal.returns-in_err-block
returns-in_err-block c = λ p q a h. handed _ _ c.from_residual.ensures.1 (failed _ (subst (λ (r : Result Subtree Failure). Gives Holds p q r a) c.in_err-block.was h))

pub returns-in_err-some : goal.returns-in_err-some
returns-in_err-some c = λ p q a h. wanting _ c.from_residual-in_err-some.ensures.1

pub returns : goal.returns
returns c = λ p q a h. and_then (subst (λ (r : Result Subtree Failure). Gives Holds p q r a) c.in_ok-block.was h) (λ t r z b i. gave b (later_same _) (c.in_ok-some.ensures _ t i))
