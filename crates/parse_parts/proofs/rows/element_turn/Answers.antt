use Rattle.std.proofs.Common.{sym, ◌∙◌, codes}
use Rattle.ruby_tree.specs.Rules.{is_mark}
use Rattle.parse_state.proofs.Steps.{later_of, later_same}
use Rattle.parse_parts.specs.Turns.{goes_on, ends}
use Rattle.parse_parts.specs.OneTurn.{element_turn}
use Rattle.parse_parts.proofs.Parts.{given_later}
use Rattle.parse_parts.proofs.Turning.{bumped, first_true, turn_then, turn_failed, turn_yes, turn_no, turn_handed, turn_wanting}
use Rattle.parse_parts.proofs.rows.element_turn.Goals as goal

pub returns-in_err-element : goal.returns-in_err-element
unfolding element_turn
returns-in_err-element g c = record { turns = λ w s x k a h. turn_handed _ _ c.from_residual.ensures.1 (turn_failed _ (c.in_err-element.ensures.reads w s a)) }

pub returns-in_err-push : goal.returns-in_err-push
returns-in_err-push g c = record { turns = λ w s x k a h. turn_wanting _ c.from_residual-in_err-push.ensures.1 }

pub returns-then-more_elements : goal.returns-then-more_elements
unfolding element_turn
returns-then-more_elements g c = record {
  turns = λ w s x k a h. turn_then (c.in_ok-element.ensures.reads w s a) (λ t q y b i.
      let more = sym (c.more_elements.ensures q y b) ∙ c.if-more_elements.true in
      let old = given_later (later_of (c.in_ok-element.ensures.reads w s a)).names h in
      turn_yes _ more (goes_on (c.bump.ensures.at q y b) c.bump.ensures.later (bumped c.args.context.source.now b (first_true (is_mark c.args.context.source.now (codes ",") q) _ more) c.bump.ensures.rest) (given_later c.bump.ensures.later.names (c.in_ok-push.ensures _ x t old i))));
}

pub returns : goal.returns
unfolding element_turn
returns g c = record {
  turns = λ w s x k a h. turn_then (c.in_ok-element.ensures.reads w s a) (λ t q y b i.
      turn_no _ (sym (c.more_elements.ensures q y b) ∙ c.if-more_elements.false) (ends b (later_same _) (c.in_ok-push.ensures _ x t (given_later (later_of (c.in_ok-element.ensures.reads w s a)).names h) i)));
}
