use Rattle.std.proofs.Common.{sym}
use Rattle.tree_builder.proofs.GoesOn.{later}
use Rattle.parse_state.specs.Gives.{gave}
use Rattle.parse_state.proofs.Steps.{from, and_then, failed, handed}
use Rattle.parse_statements.proofs.modifiers.saved.Goals as goal

pub returns-in_err-part : goal.returns-in_err-part
returns-in_err-part g c = record { reads = λ w s a. handed _ _ c.from_residual.ensures.1 (from c.enter_clause.ensures.later (failed _ (c.in_err-part.ensures.reads _ _ (c.enter_clause.ensures.at w s a)))) }

pub returns : goal.returns
returns g c = record {
  reads = λ w s a. from c.enter_clause.ensures.later (and_then (c.in_ok-part.ensures.reads _ _ (c.enter_clause.ensures.at w s a)) (λ t r z b h. gave (c.go_behind.ensures.at r s z (sym a.clause) b) c.go_behind.ensures.later (later _ _ c.go_behind.ensures.later.names _ _ h)));
}
