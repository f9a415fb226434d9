use Rattle.parse_parts.proofs.PassingSteps.{placed}
use Rattle.parse_state.proofs.Seen.{sees}
use Rattle.parse_state.proofs.Steps.{and_then, failed, from, handed, later_of, later_then, wanting}
use Rattle.parse_state.specs.Gives.{gave}
use Rattle.tree_builder.proofs.GoesOn.{later}
use Rattle.ruby_tree.specs.Rules.{position}
use Rattle.std.proofs.Common.{ap, sym, ◌∙◌}
use Rattle.parse_parts.proofs.clauses.ensured.Goals as goal

pub returns-in_err-last : goal.returns-in_err-last
returns-in_err-last g c = record { reads = λ t h w s a. handed _ _ c.from_residual.ensures.1 (from (later_then c.bump.ensures.later c.leave_clause.ensures.later) (failed _ (c.in_err-last.ensures.reads _ _ (c.leave_clause.ensures.at _ _ (c.bump.ensures.at w s a))))) }

pub returns-in_err-last-2 : goal.returns-in_err-last-2
returns-in_err-last-2 g c = record { reads = λ t h w s a. wanting _ c.from_residual-in_err-last-2.ensures.1 }

pub returns-in_err-ensure : goal.returns-in_err-ensure
returns-in_err-ensure g c = record { reads = λ t h w s a. wanting _ c.from_residual-in_err-ensure.ensures.1 }

pub returns : goal.returns
returns g c = record {
  reads = λ t h w s a. from (later_then c.bump.ensures.later c.leave_clause.ensures.later) (and_then (c.in_ok-last.ensures.reads _ _ (c.leave_clause.ensures.at _ _ (c.bump.ensures.at w s a))) (λ e r z b i.
      let m = later_of (c.in_ok-last.ensures.reads _ _ (c.leave_clause.ensures.at _ _ (c.bump.ensures.at w s a))) in
      let n = later_then (later_then c.bump.ensures.later c.leave_clause.ensures.later) (later_then m c.go_behind.ensures.later) in
      gave (c.go_behind.ensures.at r s z (sym a.clause) b) c.go_behind.ensures.later
      (c.in_ok-ensure.ensures.made _ t _ (later _ _ n.names _ _ h) (placed (c.position-clause.ensures ∙ ap (λ v. position v) (sees c.lookahead.ensures.rest a)) (c.in_ok-last-2.ensures.made _ e (later _ _ c.go_behind.ensures.later.names _ _ i))))));
}
