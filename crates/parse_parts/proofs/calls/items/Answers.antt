use Rattle.std.proofs.Common.{suc, arith}
use Rattle.ruby_tree.specs.Build.{nothing}
use Rattle.ruby_tree.specs.FaultLine.{count_of}
use Rattle.reference_parser.specs.ReadItems.{read_items}
use Rattle.parse_state.proofs.Steps.{named}
use Rattle.parse_parts.specs.OneTurn.{item_turn}
use Rattle.parse_parts.proofs.Turning.{begins, goes_more, goes_end, goes_stop}
use Rattle.parse_parts.proofs.Gathering.{items_unroll, items_whole}
use Rattle.parse_parts.proofs.calls.items.Goals as goal

pub loop-given-init : goal.loop-given-init
loop-given-init g c = begins _ _

pub returns-in_err-item_turn : goal.returns-in_err-item_turn
unfolding read_items
returns-in_err-item_turn g c = record { reads = λ w s a. named (items_whole _ _ _ _ _ _) (goes_stop (item_turn _ _ _) (items_unroll _ _ _) c.loop-given.invariant (suc (count_of w)) nothing w s a (c.nothing-given.ensures _) (omega arith) _ c.from_residual.ensures.1 c.in_err-item_turn.ensures.turns) }

pub loop-given-smaller : goal.loop-given-smaller
loop-given-smaller g c = c.in_ok-item_turn.ensures.fewer c.if-branch.true

pub loop-given-preserved : goal.loop-given-preserved
loop-given-preserved g c = goes_more (item_turn _ _ _) (items_unroll _ _ _) c.loop-given.invariant c.if-branch.true c.in_ok-item_turn.ensures.turns

pub returns : goal.returns
unfolding read_items
returns g c = record { reads = λ w s a. named (items_whole _ _ _ _ _ _) (goes_end (item_turn _ _ _) (items_unroll _ _ _) c.loop-given.invariant (suc (count_of w)) nothing w s a (c.nothing-given.ensures _) (omega arith) c.if-branch.false c.in_ok-item_turn.ensures.turns) }
