use Rattle.std.proofs.Common.{sym, ap, ◌∙◌}
use Rattle.ruby_tree.specs.Rules.{position}
use Rattle.reference_parser.specs.Fronts.{is_label}
use Rattle.parse_state.proofs.Steps.{here, later_of, later_same}
use Rattle.parse_state.proofs.Seen.{sees, seen}
use Rattle.parse_parts.specs.Turns.{ends}
use Rattle.parse_parts.specs.OneTurn.{item_turn}
use Rattle.parse_parts.proofs.Parts.{given_later}
use Rattle.parse_parts.proofs.Turning.{fewer_from, fewer_none, none_true, turn_then, turn_failed, turn_yes, turn_no, turn_handed}
use Rattle.parse_parts.proofs.calls.item_turn.Goals as goal

pub returns-in_err-passing : goal.returns-in_err-passing
unfolding item_turn
returns-in_err-passing g c = record {
  turns = λ w s x k a h. turn_handed _ _ c.from_residual.ensures.1 (turn_yes _ (sym (c.is_mark.ensures w s a) ∙ c.if-is_mark.true) (turn_failed _ (c.in_err-passing.ensures.reads w s a)));
  fewer = fewer_none _ _ _ c.from_residual.ensures.0;
}

pub returns-then-is_mark : goal.returns-then-is_mark
unfolding item_turn
returns-then-is_mark g c = record {
  turns = λ w s x k a h. turn_yes _ (sym (c.is_mark.ensures w s a) ∙ c.if-is_mark.true) (turn_then (c.in_ok-passing.ensures.reads w s a) (λ p q y b i. ends b (later_same _) (c.pass.ensures _ x p (given_later (later_of (c.in_ok-passing.ensures.reads w s a)).names h) i)));
  fewer = none_true;
}

pub returns-then-is_label : goal.returns-then-is_label
unfolding item_turn
returns-then-is_label g c = record {
  turns = λ w s x k a h. turn_no _ (sym (c.is_mark.ensures w s a) ∙ c.if-is_mark.false) (turn_yes _ (seen (λ t. is_label t) c.is_label.ensures (sees c.lookahead.ensures.rest a) c.if-is_label.true) (c.labeled_turn.ensures.turns w s x k a h));
  fewer = c.labeled_turn.ensures.fewer;
}

pub returns-in_err-element : goal.returns-in_err-element
unfolding item_turn
returns-in_err-element g c = record {
  turns = λ w s x k a h. turn_handed _ _ c.from_residual-in_err-element.ensures.1 (turn_no _ (sym (c.is_mark.ensures w s a) ∙ c.if-is_mark.false) (turn_no _ (seen (λ t. is_label t) c.is_label.ensures (sees c.lookahead.ensures.rest a) c.if-is_label.false) (turn_failed _ (c.in_err-element.ensures.reads w s a))));
  fewer = fewer_none _ _ _ c.from_residual-in_err-element.ensures.0;
}

pub returns : goal.returns
unfolding item_turn
returns g c = record {
  turns = λ w s x k a h. turn_no _ (sym (c.is_mark.ensures w s a) ∙ c.if-is_mark.false) (turn_no _ (seen (λ t. is_label t) c.is_label.ensures (sees c.lookahead.ensures.rest a) c.if-is_label.false) (turn_then (c.in_ok-element.ensures.reads w s a) (λ t q y b i.
      c.behind_turn.ensures.turns w q y x t k (c.position-here.ensures ∙ ap (λ v. position v) (sees c.lookahead-2.ensures.rest a)) b (given_later (later_of (c.in_ok-element.ensures.reads w s a)).names h) i)));
  fewer = fewer_from _ _ _ _ (later_of (c.in_ok-element.ensures.reads _ _ (here _))).rest c.behind_turn.ensures.fewer;
}
