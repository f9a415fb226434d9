use Rattle.ruby_tree.specs.Build.{nothing}
use Rattle.parse_state.proofs.Steps.{named}
use Rattle.parse_parts.specs.OneTurn.{element_turn}
use Rattle.parse_parts.proofs.Turning.{begins, goes_more, goes_fewer, goes_end, goes_stop}
use Rattle.parse_parts.proofs.Gathering.{elements_unroll, elements_whole}
use Rattle.parse_parts.proofs.rows.elements.Goals as goal

pub loop-given-init : goal.loop-given-init
loop-given-init g c = begins _ _

pub returns-in_err-element_turn : goal.returns-in_err-element_turn
returns-in_err-element_turn g c = record { reads = λ m w s a less. named (elements_whole _ _ _ _ _) (goes_stop (element_turn _ _) (elements_unroll _ _) c.loop-given.invariant m nothing w s a (c.nothing-given.ensures _) less _ c.from_residual.ensures.1 c.in_err-element_turn.ensures.turns) }

pub loop-given-smaller : goal.loop-given-smaller
loop-given-smaller g c = goes_fewer (element_turn _ _) (elements_unroll _ _) c.loop-given.invariant nothing (c.nothing-given.ensures _) c.if-branch.true c.in_ok-element_turn.ensures.turns

pub loop-given-preserved : goal.loop-given-preserved
loop-given-preserved g c = goes_more (element_turn _ _) (elements_unroll _ _) c.loop-given.invariant c.if-branch.true c.in_ok-element_turn.ensures.turns

pub returns : goal.returns
returns g c = record { reads = λ m w s a less. named (elements_whole _ _ _ _ _) (goes_end (element_turn _ _) (elements_unroll _ _) c.loop-given.invariant m nothing w s a (c.nothing-given.ensures _) less c.if-branch.false c.in_ok-element_turn.ensures.turns) }
