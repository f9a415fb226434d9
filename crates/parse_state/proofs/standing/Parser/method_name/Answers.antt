use Rattle.std.proofs.Common.{◌&&◌, codes}
use Rattle.ruby_tree.specs.Rules.{is_mark, mark_in, method_marks, next, touches_next}
use Rattle.reference_parser.specs.Fronts.{is_name, is_constant, method_name_at}
use Rattle.parse_state.specs.Gives.{misses}
use Rattle.parse_state.proofs.Steps.{finds_yes, finds_no}
use Rattle.parse_state.proofs.Seen.{sees, seen, seen_in}
use Rattle.parse_state.proofs.standing.Parser.method_name.Goals as goal

pub returns-then-is_name : goal.returns-then-is_name
unfolding method_name_at
returns-then-is_name c = record { finds = λ w s a. finds_yes _ (seen (λ t. is_name t) c.is_name.ensures (sees c.lookahead-lookahead.ensures.rest a) c.if-is_name.true) (c.plain_name.ensures.finds w s a) }

pub returns-then-is_constant : goal.returns-then-is_constant
unfolding method_name_at
returns-then-is_constant c = record { finds = λ w s a. finds_no _ (seen (λ t. is_name t) c.is_name.ensures (sees c.lookahead-lookahead.ensures.rest a) c.if-is_name.false) (finds_yes _ (seen (λ t. is_constant t) c.is_constant.ensures (sees c.lookahead-lookahead.ensures.rest a) c.if-is_constant.true) (c.one_word.ensures.finds w s a)) }

pub returns-then-is_method_mark : goal.returns-then-is_method_mark
unfolding method_name_at
returns-then-is_method_mark c = record {
  finds = λ w s a.
      finds_no _ (seen (λ t. is_name t) c.is_name.ensures (sees c.lookahead-lookahead.ensures.rest a) c.if-is_name.false)
      (finds_no _ (seen (λ t. is_constant t) c.is_constant.ensures (sees c.lookahead-lookahead.ensures.rest a) c.if-is_constant.false)
      (finds_yes _ (seen_in (λ x t. mark_in x method_marks t) c.is_method_mark.ensures c.lookahead-lookahead.ensures.source (sees c.lookahead-lookahead.ensures.rest a) c.if-is_method_mark.true) (c.one_word-then-is_method_mark.ensures.finds w s a)));
}

pub returns-then-is_brackets : goal.returns-then-is_brackets
unfolding method_name_at
returns-then-is_brackets c = record {
  finds = λ w s a.
      finds_no _ (seen (λ t. is_name t) c.is_name.ensures (sees c.lookahead-lookahead.ensures.rest a) c.if-is_name.false)
      (finds_no _ (seen (λ t. is_constant t) c.is_constant.ensures (sees c.lookahead-lookahead.ensures.rest a) c.if-is_constant.false)
      (finds_no _ (seen_in (λ x t. mark_in x method_marks t) c.is_method_mark.ensures c.lookahead-lookahead.ensures.source (sees c.lookahead-lookahead.ensures.rest a) c.if-is_method_mark.false)
      (finds_yes _ (seen_in (λ x t. is_mark x (codes "[") t && (is_mark x (codes "]") (next t) && touches_next t)) c.is_brackets.ensures c.lookahead-lookahead.ensures.source (sees c.lookahead-lookahead.ensures.rest a) c.if-is_brackets.true) (c.bracket_name.ensures.finds w s a))));
}

pub returns : goal.returns
unfolding method_name_at
returns c = record {
  finds = λ w s a.
      finds_no _ (seen (λ t. is_name t) c.is_name.ensures (sees c.lookahead-lookahead.ensures.rest a) c.if-is_name.false)
      (finds_no _ (seen (λ t. is_constant t) c.is_constant.ensures (sees c.lookahead-lookahead.ensures.rest a) c.if-is_constant.false)
      (finds_no _ (seen_in (λ x t. mark_in x method_marks t) c.is_method_mark.ensures c.lookahead-lookahead.ensures.source (sees c.lookahead-lookahead.ensures.rest a) c.if-is_method_mark.false)
      (finds_no _ (seen_in (λ x t. is_mark x (codes "[") t && (is_mark x (codes "]") (next t) && touches_next t)) c.is_brackets.ensures c.lookahead-lookahead.ensures.source (sees c.lookahead-lookahead.ensures.rest a) c.if-is_brackets.false) misses)));
}
