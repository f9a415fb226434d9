use Rattle.reference_parser.specs.Fronts.{is_newline}
use Rattle.reference_parser.specs.ReadBodies.{parameter_list}
use Rattle.parse_parts.proofs.Turning.{met_later}
use Rattle.parse_state.proofs.Seen.{seen, sees}
use Rattle.parse_state.proofs.Steps.{and_then, expected, failed, handed, later_same, no, unexpected, yes}
use Rattle.parse_state.specs.Gives.{gave}
use Rattle.tree_builder.proofs.GoesOn.{params_later}
use Rattle.ruby_tree.specs.FaultLine.{count_of}
use Rattle.std.proofs.Common.{arith, suc, sym, ◌∙◌}
use Rattle.parse_parts.proofs.params.parameter_list.Goals as goal

pub returns-then-is_mark : goal.returns-then-is_mark
unfolding parameter_list
returns-then-is_mark g c = record { reads = λ w s a. yes _ (sym (c.is_mark.ensures w s a) ∙ c.if-is_mark.true) (c.bracket_params.ensures.reads w s a) }

pub returns-then-is_newline : goal.returns-then-is_newline
unfolding parameter_list
returns-then-is_newline g c = record { reads = λ w s a. no _ (sym (c.is_mark.ensures w s a) ∙ c.if-is_mark.false) (yes _ (seen (λ u. is_newline u) c.is_newline.ensures (sees c.lookahead.ensures.rest a) c.if-is_newline.true) (gave (c.bump.ensures.at w s a) c.bump.ensures.later (c.new.ensures _))) }

pub returns-in_err-params : goal.returns-in_err-params
unfolding parameter_list
returns-in_err-params g c = record { reads = λ w s a. handed _ _ c.from_residual.ensures.1 (no _ (sym (c.is_mark.ensures w s a) ∙ c.if-is_mark.false) (no _ (seen (λ u. is_newline u) c.is_newline.ensures (sees c.lookahead.ensures.rest a) c.if-is_newline.false) (failed _ (c.in_err-params.ensures.reads (suc (count_of w)) w s a (omega arith))))) }

pub returns-in_err-expect_newline : goal.returns-in_err-expect_newline
unfolding parameter_list
returns-in_err-expect_newline g c = record { reads = λ w s a. handed _ _ c.from_residual-in_err-expect_newline.ensures.1 (no _ (sym (c.is_mark.ensures w s a) ∙ c.if-is_mark.false) (no _ (seen (λ u. is_newline u) c.is_newline.ensures (sees c.lookahead.ensures.rest a) c.if-is_newline.false) (and_then (c.in_ok-params.ensures.reads (suc (count_of w)) w s a (omega arith)) (λ ps r z b h. unexpected _ (c.in_err-expect_newline.ensures.expects r z b))))) }

pub returns : goal.returns
unfolding parameter_list
returns g c = record { reads = λ w s a. no _ (sym (c.is_mark.ensures w s a) ∙ c.if-is_mark.false) (no _ (seen (λ u. is_newline u) c.is_newline.ensures (sees c.lookahead.ensures.rest a) c.if-is_newline.false) (and_then (c.in_ok-params.ensures.reads (suc (count_of w)) w s a (omega arith)) (λ ps r z b h. expected (c.in_ok-expect_newline.ensures.expects r z b) (λ e. gave e (later_same _) (params_later _ _ (met_later (c.in_ok-expect_newline.ensures.expects r z b)).names _ _ h))))) }
