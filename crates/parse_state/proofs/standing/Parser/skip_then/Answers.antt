use Rattle.std.proofs.Common.{sym, ◌∙◌}
use Rattle.reference_parser.specs.Fronts.{is_newline, then_at}
use Rattle.parse_state.specs.Gives.{finds}
use Rattle.parse_state.proofs.Steps.{finds_yes, finds_no, finds_expected, later_then}
use Rattle.parse_state.proofs.Seen.{sees, seen}
use Rattle.parse_state.proofs.standing.Parser.skip_then.Goals as goal

pub returns-then-is_word : goal.returns-then-is_word
unfolding then_at
returns-then-is_word c = record {
  finds = λ w s a.
      let b = c.bump.ensures.at w s a in
      finds_yes _ (seen (λ t. is_newline t) c.is_newline.ensures (sees c.lookahead.ensures.rest a) c.if-is_newline.true) (finds_yes _ (sym (c.is_word.ensures _ s b) ∙ c.if-is_word.true) (finds (c.bump-then-is_word.ensures.at _ s b) (later_then c.bump.ensures.later c.bump-then-is_word.ensures.later) tt));
}

pub returns-else-is_word : goal.returns-else-is_word
unfolding then_at
returns-else-is_word c = record {
  finds = λ w s a.
      let b = c.bump.ensures.at w s a in
      finds_yes _ (seen (λ t. is_newline t) c.is_newline.ensures (sees c.lookahead.ensures.rest a) c.if-is_newline.true) (finds_no _ (sym (c.is_word.ensures _ s b) ∙ c.if-is_word.false) (finds b c.bump.ensures.later tt));
}

pub returns : goal.returns
unfolding then_at
returns c = record { finds = λ w s a. finds_no _ (seen (λ t. is_newline t) c.is_newline.ensures (sees c.lookahead.ensures.rest a) c.if-is_newline.false) (finds_expected (c.expect_word.ensures.expects w s a)) }
