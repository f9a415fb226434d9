use Rattle.std.proofs.Common.{suc, arith}
use Rattle.ruby_tree.specs.Tree.{no_more}
use Rattle.ruby_tree.specs.FaultLine.{count_of}
use Rattle.reference_parser.specs.ReadItems.{read_several}
use Rattle.parse_state.proofs.Steps.{named}
use Rattle.parse_parts.specs.OneTurn.{several_turn}
use Rattle.parse_parts.proofs.Turning.{begins, goes_more, goes_fewer, goes_end, goes_stop}
use Rattle.parse_parts.proofs.Gathering.{several_unrolls, several_whole}
use Rattle.parse_parts.proofs.rows.several.Goals as goal

pub loop-parts-init : goal.loop-parts-init
loop-parts-init g c = begins _ _

pub returns-in_err-several_turn : goal.returns-in_err-several_turn
unfolding read_several
returns-in_err-several_turn g c = record { reads = λ w s a. named (several_whole _ _ _ _ _ _) (goes_stop (several_turn _ _ _) (several_unrolls _ _ _) c.loop-parts.invariant (suc (count_of w)) no_more w s a (c.new-parts.ensures _) (omega arith) _ c.from_residual.ensures.1 c.in_err-several_turn.ensures.turns) }

pub loop-parts-smaller : goal.loop-parts-smaller
loop-parts-smaller g c = goes_fewer (several_turn _ _ _) (several_unrolls _ _ _) c.loop-parts.invariant no_more (c.new-parts.ensures _) c.if-branch.true c.in_ok-several_turn.ensures.turns

pub loop-parts-preserved : goal.loop-parts-preserved
loop-parts-preserved g c = goes_more (several_turn _ _ _) (several_unrolls _ _ _) c.loop-parts.invariant c.if-branch.true c.in_ok-several_turn.ensures.turns

pub returns : goal.returns
unfolding read_several
returns g c = record { reads = λ w s a. named (several_whole _ _ _ _ _ _) (goes_end (several_turn _ _ _) (several_unrolls _ _ _) c.loop-parts.invariant (suc (count_of w)) no_more w s a (c.new-parts.ensures _) (omega arith) c.if-branch.false c.in_ok-several_turn.ensures.turns) }
