use Rattle.std.proofs.Common.{true, refl, sym, ◌∙◌}
use Rattle.reference_parser.specs.Fronts.{on_self_at}
use Rattle.parse_state.specs.Gives.{finds}
use Rattle.parse_state.proofs.Steps.{finds_yes, finds_no, finds_handed, finds_met, finds_unmet, later_same}
use Rattle.parse_state.proofs.standing.Parser.skip_self.Goals as goal

pub returns-in_err-expect_mark : goal.returns-in_err-expect_mark
unfolding on_self_at
returns-in_err-expect_mark c = record { finds = λ w s a. finds_handed _ _ c.from_residual.ensures.1 (finds_yes _ (sym (c.is_word.ensures w s a) ∙ c.if-is_word.true) (finds_unmet _ (c.in_err-expect_mark.ensures.expects _ _ (c.bump.ensures.at w s a)))) }

pub returns-then-is_word : goal.returns-then-is_word
unfolding on_self_at
returns-then-is_word c = record { finds = λ w s a. finds_yes _ (sym (c.is_word.ensures w s a) ∙ c.if-is_word.true) (finds_met true c.bump.ensures.later (c.in_ok-expect_mark.ensures.expects _ _ (c.bump.ensures.at w s a)) refl) }

pub returns : goal.returns
unfolding on_self_at
returns c = record { finds = λ w s a. finds_no _ (sym (c.is_word.ensures w s a) ∙ c.if-is_word.false) (finds a (later_same _) refl) }
