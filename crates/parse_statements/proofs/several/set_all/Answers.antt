use Rattle.std.proofs.Common.{ap, ◌∙◌}
use Rattle.ruby_tree.specs.Rules.{position}
use Rattle.tree_builder.proofs.GoesOn.{targets_later}
use Rattle.parse_state.specs.Gives.{gave}
use Rattle.parse_state.proofs.Steps.{and_then, failed, handed, expected, unexpected, later_same, later_then, later_of}
use Rattle.parse_state.proofs.Seen.{sees}
use Rattle.parse_parts.proofs.Parts.{spot_held}
use Rattle.parse_parts.proofs.Turning.{met_later}
use Rattle.parse_statements.proofs.several.set_all.Goals as goal

pub returns-in_err-targets : goal.returns-in_err-targets
returns-in_err-targets g c = record { reads = λ w s a. handed _ _ c.from_residual.ensures.1 (failed _ (c.in_err-targets.ensures.reads w s a)) }

pub returns-in_err-expect_mark : goal.returns-in_err-expect_mark
returns-in_err-expect_mark g c = record { reads = λ w s a. handed _ _ c.from_residual-in_err-expect_mark.ensures.1 (and_then (c.in_ok-targets.ensures.reads w s a) (λ gs q y b h. unexpected _ (c.in_err-expect_mark.ensures.expects q y b))) }

pub returns-in_err-values : goal.returns-in_err-values
returns-in_err-values g c = record { reads = λ w s a. handed _ _ c.from_residual-in_err-values.ensures.1 (and_then (c.in_ok-targets.ensures.reads w s a) (λ gs q y b h. expected (c.in_ok-expect_mark.ensures.expects q y b) (λ e. failed _ (c.in_err-values.ensures.reads _ _ e)))) }

pub returns : goal.returns
returns g c = record {
  reads = λ w s a. and_then (c.in_ok-targets.ensures.reads w s a) (λ gs q y b h.
      let mark = c.in_ok-expect_mark.ensures.expects q y b in
      expected mark (λ e.
      let read = c.in_ok-values.ensures.reads _ _ e in
      let on = later_then (met_later mark) (later_of read) in
      and_then read (λ vs r z n i. gave n (later_same _) (spot_held (c.position-here.ensures ∙ ap position (sees c.lookahead.ensures.rest a)) (c.assign_all.ensures.made _ vs gs i (targets_later _ _ on.names _ _ h))))));
}
