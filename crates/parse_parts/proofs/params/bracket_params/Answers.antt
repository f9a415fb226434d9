use Rattle.reference_parser.specs.ReadBodies.{bracket_params}
use Rattle.parse_parts.proofs.Loops.{enough}
use Rattle.parse_parts.proofs.Turning.{met_later}
use Rattle.parse_state.proofs.Steps.{and_then, expected, failed, from, handed, later_same, no, unexpected, yes}
use Rattle.parse_state.specs.Gives.{gave}
use Rattle.tree_builder.proofs.GoesOn.{params_later}
use Rattle.ruby_tree.specs.FaultLine.{count_of}
use Rattle.std.proofs.Common.{arith, suc, sym, ◌∙◌}
use Rattle.parse_parts.proofs.params.bracket_params.Goals as goal

pub returns-then-is_mark : goal.returns-then-is_mark
unfolding bracket_params
returns-then-is_mark g c = record { reads = λ w s a. yes _ (sym (c.is_mark.ensures _ s (c.bump.ensures.at w s a)) ∙ c.if-is_mark.true) (from c.bump.ensures.later (gave (c.bump-then-is_mark.ensures.at _ _ (c.bump.ensures.at w s a)) c.bump-then-is_mark.ensures.later (c.new.ensures _))) }

pub returns-in_err-params : goal.returns-in_err-params
unfolding bracket_params
returns-in_err-params g c = record { reads = λ w s a. handed _ _ c.from_residual.ensures.1 (no _ (sym (c.is_mark.ensures _ s (c.bump.ensures.at w s a)) ∙ c.if-is_mark.false) (from c.bump.ensures.later (failed _ (c.in_err-params.ensures.reads (suc (count_of w)) _ _ (c.bump.ensures.at w s a) (enough w (omega arith)))))) }

pub returns-in_err-expect_mark : goal.returns-in_err-expect_mark
unfolding bracket_params
returns-in_err-expect_mark g c = record { reads = λ w s a. handed _ _ c.from_residual-in_err-expect_mark.ensures.1 (no _ (sym (c.is_mark.ensures _ s (c.bump.ensures.at w s a)) ∙ c.if-is_mark.false) (from c.bump.ensures.later (and_then (c.in_ok-params.ensures.reads (suc (count_of w)) _ _ (c.bump.ensures.at w s a) (enough w (omega arith))) (λ ps r z b h. unexpected _ (c.in_err-expect_mark.ensures.expects r z b))))) }

pub returns : goal.returns
unfolding bracket_params
returns g c = record { reads = λ w s a. no _ (sym (c.is_mark.ensures _ s (c.bump.ensures.at w s a)) ∙ c.if-is_mark.false) (from c.bump.ensures.later (and_then (c.in_ok-params.ensures.reads (suc (count_of w)) _ _ (c.bump.ensures.at w s a) (enough w (omega arith))) (λ ps r z b h. expected (c.in_ok-expect_mark.ensures.expects r z b) (λ e. gave e (later_same _) (params_later _ _ (met_later (c.in_ok-expect_mark.ensures.expects r z b)).names _ _ h))))) }
