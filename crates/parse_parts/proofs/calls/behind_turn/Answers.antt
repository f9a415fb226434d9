use Rattle.std.proofs.Common.{sym, ap, ◌∙◌, not, ◌&&◌, Bool, codes}
use Rattle.ruby_tree.specs.Rules.{is_mark}
use Rattle.parse_state.proofs.Steps.{here, later_same}
use Rattle.parse_parts.specs.Turns.{goes_on, ends}
use Rattle.parse_parts.specs.OneTurn.{behind_turn}
use Rattle.parse_parts.proofs.Parts.{given_later}
use Rattle.parse_parts.proofs.Turning.{bumped, comma_less, first_true, fewer_none, none_true, turn_yes, turn_no, turn_wanting}
use Rattle.parse_parts.proofs.calls.behind_turn.Goals as goal

pub returns-then-is_key : goal.returns-then-is_key
unfolding behind_turn
returns-then-is_key g c = record {
  turns = λ o w s x t k e a h i. turn_yes _ (ap (λ (b : Bool). not b && is_mark c.args.context.source.now (codes "=>") w) (sym i.spread) ∙ sym (c.is_key.ensures w s a) ∙ c.if-is_key.true) (c.as_key.ensures.turns o w s x t.tree k e a h i.tree);
  fewer = c.as_key.ensures.fewer;
}

pub returns-in_err-push : goal.returns-in_err-push
returns-in_err-push g c = record { turns = λ o w s x t k e a h i. turn_wanting _ c.from_residual.ensures.1; fewer = fewer_none _ _ _ c.from_residual.ensures.0 }

pub returns-then-more_items : goal.returns-then-more_items
unfolding behind_turn
returns-then-more_items g c = record {
  turns = λ o w s x t k e a h i.
      let more = sym (c.more_items.ensures w s a) ∙ c.if-more_items.true in
      turn_no _ (ap (λ (b : Bool). not b && is_mark c.args.context.source.now (codes "=>") w) (sym i.spread) ∙ sym (c.is_key.ensures w s a) ∙ c.if-is_key.false) (turn_yes _ more (goes_on (c.bump.ensures.at w s a) c.bump.ensures.later (bumped c.args.context.source.now a (first_true (is_mark c.args.context.source.now (codes ",") w) _ more) c.bump.ensures.rest) (given_later c.bump.ensures.later.names (c.in_ok-push.ensures _ x t h i))));
  fewer = λ is. comma_less c.args.parser.now c.args.context.source.now _ (sym (c.more_items.ensures _ _ (here _)) ∙ c.if-more_items.true) c.bump.ensures.rest;
}

pub returns : goal.returns
unfolding behind_turn
returns g c = record {
  turns = λ o w s x t k e a h i. turn_no _ (ap (λ (b : Bool). not b && is_mark c.args.context.source.now (codes "=>") w) (sym i.spread) ∙ sym (c.is_key.ensures w s a) ∙ c.if-is_key.false) (turn_no _ (sym (c.more_items.ensures w s a) ∙ c.if-more_items.false) (ends a (later_same _) (c.in_ok-push.ensures _ x t h i)));
  fewer = none_true;
}
