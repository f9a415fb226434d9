use Rattle.tree_builder.proofs.GoesOn.{later, named_later}
use Rattle.parse_state.proofs.Steps.{here, later_same, later_of}
use Rattle.parse_operands.specs.Turns.{longer}
use Rattle.parse_operands.proofs.Turning.{turn_handed, turn_wanting, turn_then, turn_failed, call_as}
use Rattle.parse_operands.proofs.postfixes.called.Goals as goal

pub returns-in_err-arguments-clause-turns : goal.returns-in_err-arguments-clause-turns
returns-in_err-arguments-clause-turns g c = λ F u b t m w s i e h n a. turn_handed _ _ c.from_residual.ensures.1 (turn_failed _ (c.in_err-arguments.ensures.reads _ _ a))

pub returns-in_err-whole-clause-turns : goal.returns-in_err-whole-clause-turns
returns-in_err-whole-clause-turns g c = λ F u b t m w s i e h n a. turn_wanting _ c.from_residual-in_err-whole.ensures.1

pub returns-clause-turns : goal.returns-clause-turns
returns-clause-turns g c = λ F u b t m w s i e h n a. turn_then (c.in_ok-arguments.ensures.reads _ _ a) (λ t2 r2 z2 b2 l2 h2. longer b2 (later_same _) (call_as t t2.given m t2.block i e (c.in_ok-whole.ensures.made _ t t2.given m _ (later _ _ l2.names _ _ h) h2.trees h2.spread h2.value (named_later _ _ l2.names _ _ n) h2.block)))

pub returns-clause-shorter : goal.returns-clause-shorter
returns-clause-shorter g c = λ u. (later_of (c.in_ok-arguments.ensures.reads _ _ (here _))).rest
