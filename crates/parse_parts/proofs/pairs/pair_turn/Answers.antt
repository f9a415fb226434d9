use Rattle.std.proofs.Common.{sym, ◌∙◌, codes}
use Rattle.ruby_tree.specs.Rules.{is_mark}
use Rattle.tree_builder.proofs.GoesOn.{pairs_later}
use Rattle.parse_state.proofs.Steps.{here, later_of, later_same}
use Rattle.parse_parts.specs.Turns.{goes_on, ends}
use Rattle.parse_parts.specs.OneTurn.{pair_turn}
use Rattle.parse_parts.proofs.Turning.{bumped, comma_less, first_true, fewer_then, fewer_none, none_true, turn_then, turn_failed, turn_yes, turn_no, turn_handed, turn_wanting}
use Rattle.parse_parts.proofs.pairs.pair_turn.Goals as goal

pub returns-in_err-pair : goal.returns-in_err-pair
unfolding pair_turn
returns-in_err-pair g c = record { turns = λ w s ps k a h. turn_handed _ _ c.from_residual.ensures.1 (turn_failed _ (c.in_err-pair.ensures.reads w s a)); fewer = fewer_none _ _ _ c.from_residual.ensures.0 }

pub returns-in_err-push : goal.returns-in_err-push
returns-in_err-push g c = record { turns = λ w s ps k a h. turn_wanting _ c.from_residual-in_err-push.ensures.1; fewer = fewer_none _ _ _ c.from_residual-in_err-push.ensures.0 }

pub returns-then-more_pairs : goal.returns-then-more_pairs
unfolding pair_turn
returns-then-more_pairs g c = record {
  turns = λ w s ps k a h. turn_then (c.in_ok-pair.ensures.reads w s a) (λ t q y b i.
      let more = sym (c.more_pairs.ensures q y b) ∙ c.if-more_pairs.true in
      let old = pairs_later _ _ (later_of (c.in_ok-pair.ensures.reads w s a)).names _ _ h in
      turn_yes _ more (goes_on (c.bump.ensures.at q y b) c.bump.ensures.later (bumped c.args.context.source.now b (first_true (is_mark c.args.context.source.now (codes ",") q) _ more) c.bump.ensures.rest) (pairs_later _ _ c.bump.ensures.later.names _ _ (c.in_ok-push.ensures _ ps t.key t.value old i.key i.value))));
  fewer = λ is.
      fewer_then (later_of (c.in_ok-pair.ensures.reads _ _ (here _))) (comma_less c.one_pair.new.parser c.args.context.source.now _ (sym (c.more_pairs.ensures _ _ (here _)) ∙ c.if-more_pairs.true) c.bump.ensures.rest);
}

pub returns : goal.returns
unfolding pair_turn
returns g c = record {
  turns = λ w s ps k a h. turn_then (c.in_ok-pair.ensures.reads w s a) (λ t q y b i.
      turn_no _ (sym (c.more_pairs.ensures q y b) ∙ c.if-more_pairs.false) (ends b (later_same _) (c.in_ok-push.ensures _ ps t.key t.value (pairs_later _ _ (later_of (c.in_ok-pair.ensures.reads w s a)).names _ _ h) i.key i.value)));
  fewer = none_true;
}
