use Rattle.std.proofs.Common.{sym, ◌∙◌, suc}
use Rattle.ruby_tree.specs.FaultLine.{count_of}
use Rattle.tree_builder.proofs.GoesOn.{params_later}
use Rattle.parse_state.specs.Gives.{gave}
use Rattle.parse_state.proofs.Steps.{yes, no, from, handed, failed, and_then, expected, unexpected, later_same, later_then}
use Rattle.parse_parts.specs.OneTurn.{bars_here}
use Rattle.parse_parts.proofs.Turning.{count_next, met_later}
use Rattle.parse_parts.proofs.variables.bars_here.Goals as goal

pub returns-then-is_mark : goal.returns-then-is_mark
unfolding bars_here
returns-then-is_mark c = record { reads = λ w s a. yes _ (sym (c.is_mark.ensures _ _ (c.bump.ensures.at w s a)) ∙ c.if-is_mark.true) (gave (c.bump-then-is_mark.ensures.at _ _ (c.bump.ensures.at w s a)) (later_then c.bump.ensures.later c.bump-then-is_mark.ensures.later) (c.new.ensures _)) }

pub returns-in_err-params : goal.returns-in_err-params
unfolding bars_here
returns-in_err-params c = record { reads = λ w s a. handed _ _ c.from_residual.ensures.1 (no _ (sym (c.is_mark.ensures _ _ (c.bump.ensures.at w s a)) ∙ c.if-is_mark.false) (from c.bump.ensures.later (failed _ (c.in_err-params.ensures.reads (suc (count_of w)) _ _ (c.bump.ensures.at w s a) (count_next w))))) }

pub returns-in_err-expect_mark : goal.returns-in_err-expect_mark
unfolding bars_here
returns-in_err-expect_mark c = record { reads = λ w s a. handed _ _ c.from_residual-in_err-expect_mark.ensures.1 (no _ (sym (c.is_mark.ensures _ _ (c.bump.ensures.at w s a)) ∙ c.if-is_mark.false) (from c.bump.ensures.later (and_then (c.in_ok-params.ensures.reads (suc (count_of w)) _ _ (c.bump.ensures.at w s a) (count_next w)) (λ ps q y b h. unexpected _ (c.in_err-expect_mark.ensures.expects q y b))))) }

pub returns : goal.returns
unfolding bars_here
returns c = record {
  reads = λ w s a. no _ (sym (c.is_mark.ensures _ _ (c.bump.ensures.at w s a)) ∙ c.if-is_mark.false) (from c.bump.ensures.later (and_then (c.in_ok-params.ensures.reads (suc (count_of w)) _ _ (c.bump.ensures.at w s a) (count_next w)) (λ ps q y b h.
      expected (c.in_ok-expect_mark.ensures.expects q y b) (λ e. gave e (later_same _) (params_later _ _ (met_later (c.in_ok-expect_mark.ensures.expects q y b)).names _ _ h)))));
}
