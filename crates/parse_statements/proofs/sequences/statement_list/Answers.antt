use Rattle.ruby_tree.specs.Tree.{no_more}
use Rattle.parse_state.proofs.Steps.{named}
use Rattle.parse_parts.proofs.Turning.{begins, goes_more, goes_fewer, goes_end, goes_stop}
use Rattle.parse_statements.specs.Statements.{statement_turn}
use Rattle.parse_statements.proofs.StatementLoops.{statements_unroll, statements_whole}
use Rattle.parse_statements.proofs.sequences.statement_list.Goals as goal

pub loop-parts-init : goal.loop-parts-init
loop-parts-init g c = begins _ _

pub returns-in_err-statement_turn : goal.returns-in_err-statement_turn
returns-in_err-statement_turn g c = record { reads = λ m w s a less. named (statements_whole _ _ _ m w s) (goes_stop (statement_turn _ _ _) (statements_unroll _ _ _) c.loop-parts.invariant m no_more w s a (c.new-parts.ensures _) less _ c.from_residual.ensures.1 c.in_err-statement_turn.ensures.turns) }

pub loop-parts-smaller : goal.loop-parts-smaller
loop-parts-smaller g c = goes_fewer (statement_turn _ _ _) (statements_unroll _ _ _) c.loop-parts.invariant no_more (c.new-parts.ensures _) c.if-branch.true c.in_ok-statement_turn.ensures.turns

pub loop-parts-preserved : goal.loop-parts-preserved
loop-parts-preserved g c = goes_more (statement_turn _ _ _) (statements_unroll _ _ _) c.loop-parts.invariant c.if-branch.true c.in_ok-statement_turn.ensures.turns

pub returns : goal.returns
returns g c = record { reads = λ m w s a less. named (statements_whole _ _ _ m w s) (goes_end (statement_turn _ _ _) (statements_unroll _ _ _) c.loop-parts.invariant m no_more w s a (c.new-parts.ensures _) less c.if-branch.false c.in_ok-statement_turn.ensures.turns) }
