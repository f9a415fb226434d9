use Rattle.std.proofs.Common.{ap, ◌∙◌}
use Rattle.ruby_tree.specs.Rules.{position}
use Rattle.parse_state.proofs.Steps.{later_of, later_same, later_then}
use Rattle.parse_state.proofs.Seen.{sees}
use Rattle.parse_parts.specs.Turns.{ends}
use Rattle.parse_parts.specs.OneTurn.{labeled_turn}
use Rattle.parse_parts.proofs.Parts.{given_later}
use Rattle.parse_parts.proofs.Turning.{fewer_none, none_true, turn_then, turn_failed, turn_handed, turn_wanting}
use Rattle.parse_parts.proofs.calls.labeled_turn.Goals as goal

pub returns-in_err-first : goal.returns-in_err-first
unfolding labeled_turn
returns-in_err-first g c = record { turns = λ w s x k a h. turn_handed _ _ c.from_residual.ensures.1 (turn_failed _ (c.in_err-first.ensures.reads w s a)); fewer = fewer_none _ _ _ c.from_residual.ensures.0 }

pub returns-in_err-last : goal.returns-in_err-last
unfolding labeled_turn
returns-in_err-last g c = record {
  turns = λ w s x k a h. turn_handed _ _ c.from_residual-in_err-last.ensures.1 (turn_then (c.in_ok-first.ensures.reads w s a) (λ p q y b i. turn_failed _ (c.in_err-last.ensures.reads w p (c.position-here.ensures ∙ ap (λ t. position t) (sees c.lookahead.ensures.rest a)) i q y b)));
  fewer = fewer_none _ _ _ c.from_residual-in_err-last.ensures.0;
}

pub returns-in_err-finish : goal.returns-in_err-finish
returns-in_err-finish g c = record { turns = λ w s x k a h. turn_wanting _ c.from_residual-in_err-finish.ensures.1; fewer = fewer_none _ _ _ c.from_residual-in_err-finish.ensures.0 }

pub returns : goal.returns
unfolding labeled_turn
returns g c = record {
  turns = λ w s x k a h. turn_then (c.in_ok-first.ensures.reads w s a) (λ p q y b i.
      let last = c.in_ok-last.ensures.reads w p (c.position-here.ensures ∙ ap (λ t. position t) (sees c.lookahead.ensures.rest a)) i q y b in
      turn_then last (λ f r z d m. ends d (later_same _) (c.in_ok-finish.ensures _ x f (given_later (later_then (later_of (c.in_ok-first.ensures.reads w s a)) (later_of last)).names h) m)));
  fewer = none_true;
}
