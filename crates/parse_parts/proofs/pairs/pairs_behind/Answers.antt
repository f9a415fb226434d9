use Rattle.std.proofs.Common.{suc, sym, ◌∙◌}
use Rattle.ruby_tree.specs.Tree.{no_pair, pair}
use Rattle.ruby_tree.specs.Rules.{next}
use Rattle.ruby_tree.specs.FaultLine.{count_of}
use Rattle.tree_builder.proofs.GoesOn.{pairs_later}
use Rattle.parse_state.specs.Gives.{gave}
use Rattle.parse_state.proofs.Steps.{yes, no, from, wanting, later_same}
use Rattle.parse_parts.specs.OneTurn.{pair_turn, pairs_behind}
use Rattle.parse_parts.proofs.Turning.{begins, count_next, goes_more, goes_end, goes_stop}
use Rattle.parse_parts.proofs.Gathering.{pairs_unroll}
use Rattle.parse_parts.proofs.pairs.pairs_behind.Goals as goal

pub returns-in_err-push : goal.returns-in_err-push
returns-in_err-push g c = record { reads = λ p h w s a. wanting _ c.from_residual.ensures.1 }

pub loop-pairs-init : goal.loop-pairs-init
loop-pairs-init g c = begins _ _

pub returns-in_err-pair_turn : goal.returns-in_err-pair_turn
unfolding pairs_behind
returns-in_err-pair_turn g c = record {
  reads = λ p h w s a. yes _ (sym (c.more_pairs.ensures w s a) ∙ c.if-more_pairs.true) (from c.bump.ensures.later (goes_stop (pair_turn _ _ _) (pairs_unroll _ _ _) c.loop-pairs.invariant (suc (count_of w)) (pair p.key p.value no_pair) (next w) s (c.bump.ensures.at w s a) (pairs_later _ _ c.bump.ensures.later.names _ _ (c.in_ok-push.ensures _ no_pair p.key p.value (c.new-pairs.ensures _) h.key h.value)) (count_next w) _ c.from_residual-in_err-pair_turn.ensures.1 c.in_err-pair_turn.ensures.turns));
}

pub loop-pairs-smaller : goal.loop-pairs-smaller
loop-pairs-smaller g c = c.in_ok-pair_turn.ensures.fewer c.if-branch.true

pub loop-pairs-preserved : goal.loop-pairs-preserved
loop-pairs-preserved g c = goes_more (pair_turn _ _ _) (pairs_unroll _ _ _) c.loop-pairs.invariant c.if-branch.true c.in_ok-pair_turn.ensures.turns

pub returns-then-more_pairs : goal.returns-then-more_pairs
unfolding pairs_behind
returns-then-more_pairs g c = record {
  reads = λ p h w s a. yes _ (sym (c.more_pairs.ensures w s a) ∙ c.if-more_pairs.true) (from c.bump.ensures.later (goes_end (pair_turn _ _ _) (pairs_unroll _ _ _) c.loop-pairs.invariant (suc (count_of w)) (pair p.key p.value no_pair) (next w) s (c.bump.ensures.at w s a) (pairs_later _ _ c.bump.ensures.later.names _ _ (c.in_ok-push.ensures _ no_pair p.key p.value (c.new-pairs.ensures _) h.key h.value)) (count_next w) c.if-branch.false c.in_ok-pair_turn.ensures.turns));
}

pub returns : goal.returns
unfolding pairs_behind
returns g c = record { reads = λ p h w s a. no _ (sym (c.more_pairs.ensures w s a) ∙ c.if-more_pairs.false) (gave a (later_same _) (c.in_ok-push.ensures _ no_pair p.key p.value (c.new-pairs.ensures _) h.key h.value)) }
