use Rattle.ruby_tree.specs.Tree.{no_pair}
use Rattle.parse_state.proofs.Steps.{named}
use Rattle.parse_parts.specs.OneTurn.{pair_turn}
use Rattle.parse_parts.proofs.Turning.{begins, goes_more, goes_end, goes_stop}
use Rattle.parse_parts.proofs.Gathering.{pairs_unroll, pairs_whole}
use Rattle.parse_parts.proofs.pairs.pair_list.Goals as goal

pub loop-pairs-init : goal.loop-pairs-init
loop-pairs-init g c = begins _ _

pub returns-in_err-pair_turn : goal.returns-in_err-pair_turn
returns-in_err-pair_turn g c = record { reads = λ m w s a less. named (pairs_whole _ _ _ _ _ _) (goes_stop (pair_turn _ _ _) (pairs_unroll _ _ _) c.loop-pairs.invariant m no_pair w s a (c.new-pairs.ensures _) less _ c.from_residual.ensures.1 c.in_err-pair_turn.ensures.turns) }

pub loop-pairs-smaller : goal.loop-pairs-smaller
loop-pairs-smaller g c = c.in_ok-pair_turn.ensures.fewer c.if-branch.true

pub loop-pairs-preserved : goal.loop-pairs-preserved
loop-pairs-preserved g c = goes_more (pair_turn _ _ _) (pairs_unroll _ _ _) c.loop-pairs.invariant c.if-branch.true c.in_ok-pair_turn.ensures.turns

pub returns : goal.returns
returns g c = record { reads = λ m w s a less. named (pairs_whole _ _ _ _ _ _) (goes_end (pair_turn _ _ _) (pairs_unroll _ _ _) c.loop-pairs.invariant m no_pair w s a (c.new-pairs.ensures _) less c.if-branch.false c.in_ok-pair_turn.ensures.turns) }
