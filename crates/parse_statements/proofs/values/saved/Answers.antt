use Rattle.std.proofs.Common.{sym, ap, ◌∙◌}
use Rattle.ruby_tree.specs.Rules.{position}
use Rattle.tree_builder.proofs.GoesOn.{later}
use Rattle.parse_state.specs.Gives.{gave}
use Rattle.parse_state.proofs.Steps.{and_then, failed, from, handed, wanting, later_of, later_then}
use Rattle.parse_state.proofs.Seen.{sees}
use Rattle.parse_statements.proofs.values.saved.Goals as goal

pub returns-in_err-saved : goal.returns-in_err-saved
returns-in_err-saved g c = record { reads = λ o t at h w s a. handed _ _ c.from_residual.ensures.1 (from (later_then c.bump.ensures.later c.enter_clause.ensures.later) (failed _ (c.in_err-saved.ensures.reads _ _ (c.enter_clause.ensures.at _ _ (c.bump.ensures.at w s a))))) }

pub returns-in_err-rescued : goal.returns-in_err-rescued
returns-in_err-rescued g c = record { reads = λ o t at h w s a. wanting _ c.from_residual-in_err-rescued.ensures.1 }

pub returns : goal.returns
returns g c = record {
  reads = λ o t at h w s a.
      let inside = c.enter_clause.ensures.at _ _ (c.bump.ensures.at w s a) in
      from (later_then c.bump.ensures.later c.enter_clause.ensures.later) (and_then (c.in_ok-saved.ensures.reads _ _ inside) (λ e r z b i.
      let m = later_of (c.in_ok-saved.ensures.reads _ _ inside) in
      let n = later_then (later_then c.bump.ensures.later c.enter_clause.ensures.later) (later_then m c.go_behind.ensures.later) in
      gave (c.go_behind.ensures.at r s z (sym a.clause) b) c.go_behind.ensures.later
      (c.in_ok-rescued.ensures.made _ o w t e at (c.position-clause.ensures ∙ ap (λ v. position v) (sees c.lookahead.ensures.rest a)) (c.position-behind.ensures ∙ ap (λ v. position v) (sees c.lookahead-2.ensures.rest (c.bump.ensures.at w s a))) (later _ _ n.names _ _ h) (later _ _ c.go_behind.ensures.later.names _ _ i))));
}
