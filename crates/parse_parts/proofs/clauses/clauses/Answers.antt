use Rattle.parse_parts.proofs.Loops.{clauses_unroll, clauses_whole}
use Rattle.parse_parts.specs.Parts.{clause_turn}
use Rattle.parse_parts.proofs.Turning.{begins, goes_end, goes_fewer, goes_more, goes_stop}
use Rattle.parse_state.proofs.Steps.{from, named}
use Rattle.ruby_tree.specs.Tree.{no_clause}
use Rattle.parse_parts.proofs.Loops.{enough}
use Rattle.parse_parts.proofs.clauses.clauses.Goals as goal

pub loop-saved-init : goal.loop-saved-init
loop-saved-init g c = begins _ _

pub returns-in_err-one_clause : goal.returns-in_err-one_clause
returns-in_err-one_clause g c = record { reads = λ m w s a less. named (clauses_whole _ _ _ _ _ _) (from c.bump.ensures.later (goes_stop (clause_turn _ _ _) (clauses_unroll _ _ _) c.loop-saved.invariant m no_clause _ _ (c.bump.ensures.at w s a) (c.new-saved.ensures _) (enough w less) _ c.from_residual.ensures.1 c.in_err-one_clause.ensures.turns)) }

pub loop-saved-smaller : goal.loop-saved-smaller
loop-saved-smaller g c = goes_fewer (clause_turn _ _ _) (clauses_unroll _ _ _) c.loop-saved.invariant no_clause (c.new-saved.ensures _) c.if-branch.true c.in_ok-one_clause.ensures.turns

pub loop-saved-preserved : goal.loop-saved-preserved
loop-saved-preserved g c = goes_more (clause_turn _ _ _) (clauses_unroll _ _ _) c.loop-saved.invariant c.if-branch.true c.in_ok-one_clause.ensures.turns

pub returns : goal.returns
returns g c = record { reads = λ m w s a less. named (clauses_whole _ _ _ _ _ _) (from c.bump.ensures.later (goes_end (clause_turn _ _ _) (clauses_unroll _ _ _) c.loop-saved.invariant m no_clause _ _ (c.bump.ensures.at w s a) (c.new-saved.ensures _) (enough w less) c.if-branch.false c.in_ok-one_clause.ensures.turns)) }
