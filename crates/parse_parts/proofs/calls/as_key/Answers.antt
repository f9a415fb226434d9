use Rattle.parse_state.proofs.Steps.{later_of, later_same, later_then}
use Rattle.tree_builder.proofs.GoesOn.{later}
use Rattle.parse_parts.specs.Turns.{ends}
use Rattle.parse_parts.specs.OneTurn.{key_turn}
use Rattle.parse_parts.proofs.Parts.{given_later}
use Rattle.parse_parts.proofs.Turning.{fewer_none, none_true, turn_from, turn_then, turn_failed, turn_handed, turn_wanting}
use Rattle.parse_parts.proofs.calls.as_key.Goals as goal

pub returns-in_err-value : goal.returns-in_err-value
unfolding key_turn
returns-in_err-value g c = record {
  turns = λ o w s x t k e a h i. turn_handed _ _ c.from_residual.ensures.1 (turn_from c.bump.ensures.later (turn_failed _ (c.in_err-value.ensures.reads _ _ (c.bump.ensures.at w s a))));
  fewer = fewer_none _ _ _ c.from_residual.ensures.0;
}

pub returns-in_err-last : goal.returns-in_err-last
unfolding key_turn
returns-in_err-last g c = record {
  turns = λ o w s x t k e a h i. turn_handed _ _ c.from_residual-in_err-last.ensures.1 (turn_from c.bump.ensures.later (turn_then (c.in_ok-value.ensures.reads _ _ (c.bump.ensures.at w s a)) (λ v q y b j.
      let l = later_then c.bump.ensures.later (later_of (c.in_ok-value.ensures.reads _ _ (c.bump.ensures.at w s a))) in
      turn_failed _ (c.in_err-last.ensures.reads o (record { key = t; value = v }) e (record { key = later _ _ l.names _ _ i; value = j }) q y b))));
  fewer = fewer_none _ _ _ c.from_residual-in_err-last.ensures.0;
}

pub returns-in_err-finish : goal.returns-in_err-finish
returns-in_err-finish g c = record { turns = λ o w s x t k e a h i. turn_wanting _ c.from_residual-in_err-finish.ensures.1; fewer = fewer_none _ _ _ c.from_residual-in_err-finish.ensures.0 }

pub returns : goal.returns
unfolding key_turn
returns g c = record {
  turns = λ o w s x t k e a h i. turn_from c.bump.ensures.later (turn_then (c.in_ok-value.ensures.reads _ _ (c.bump.ensures.at w s a)) (λ v q y b j.
      let l = later_then c.bump.ensures.later (later_of (c.in_ok-value.ensures.reads _ _ (c.bump.ensures.at w s a))) in
      let last = c.in_ok-last.ensures.reads o (record { key = t; value = v }) e (record { key = later _ _ l.names _ _ i; value = j }) q y b in
      turn_then last (λ f r z d m. ends d (later_same _) (c.in_ok-finish.ensures _ x f (given_later (later_then l (later_of last)).names h) m))));
  fewer = none_true;
}
