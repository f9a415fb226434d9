use Rattle.parse_parts.proofs.Loops.{whens_unroll, whens_whole}
use Rattle.parse_parts.specs.Parts.{when_turn}
use Rattle.parse_parts.proofs.Turning.{begins, goes_end, goes_fewer, goes_more, goes_stop}
use Rattle.parse_state.proofs.Steps.{from, named}
use Rattle.ruby_tree.specs.Tree.{no_when}
use Rattle.parse_parts.proofs.Loops.{enough}
use Rattle.parse_parts.proofs.branches.when_list.Goals as goal

pub loop-whens-init : goal.loop-whens-init
loop-whens-init g c = begins _ _

pub returns-in_err-one_when : goal.returns-in_err-one_when
returns-in_err-one_when g c = record { reads = λ m w s a less. named (whens_whole _ _ _ _ _ _) (from c.bump.ensures.later (goes_stop (when_turn _ _ _) (whens_unroll _ _ _) c.loop-whens.invariant m no_when _ _ (c.bump.ensures.at w s a) (c.new-whens.ensures _) (enough w less) _ c.from_residual.ensures.1 c.in_err-one_when.ensures.turns)) }

pub loop-whens-smaller : goal.loop-whens-smaller
loop-whens-smaller g c = goes_fewer (when_turn _ _ _) (whens_unroll _ _ _) c.loop-whens.invariant no_when (c.new-whens.ensures _) c.if-branch.true c.in_ok-one_when.ensures.turns

pub loop-whens-preserved : goal.loop-whens-preserved
loop-whens-preserved g c = goes_more (when_turn _ _ _) (whens_unroll _ _ _) c.loop-whens.invariant c.if-branch.true c.in_ok-one_when.ensures.turns

pub returns : goal.returns
returns g c = record { reads = λ m w s a less. named (whens_whole _ _ _ _ _ _) (from c.bump.ensures.later (goes_end (when_turn _ _ _) (whens_unroll _ _ _) c.loop-whens.invariant m no_when _ _ (c.bump.ensures.at w s a) (c.new-whens.ensures _) (enough w less) c.if-branch.false c.in_ok-one_when.ensures.turns)) }
