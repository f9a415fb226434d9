use Rattle.ruby_tree.specs.Tree.{no_param}
use Rattle.parse_state.proofs.Steps.{named}
use Rattle.parse_parts.specs.OneTurn.{param_turn}
use Rattle.parse_parts.proofs.Turning.{begins, goes_more, goes_fewer, goes_end, goes_stop}
use Rattle.parse_parts.proofs.Gathering.{params_unroll, params_whole}
use Rattle.parse_parts.proofs.variables.block_params.Goals as goal

pub loop-params-init : goal.loop-params-init
loop-params-init c = begins _ _

pub returns-in_err-param_turn : goal.returns-in_err-param_turn
returns-in_err-param_turn c = record { reads = λ m w s a less. named (params_whole _ _ _ _) (goes_stop (param_turn _) (params_unroll _) c.loop-params.invariant m no_param w s a (c.new-params.ensures _) less _ c.from_residual.ensures.1 c.in_err-param_turn.ensures.turns) }

pub loop-params-smaller : goal.loop-params-smaller
loop-params-smaller c = goes_fewer (param_turn _) (params_unroll _) c.loop-params.invariant no_param (c.new-params.ensures _) c.if-branch.true c.in_ok-param_turn.ensures.turns

pub loop-params-preserved : goal.loop-params-preserved
loop-params-preserved c = goes_more (param_turn _) (params_unroll _) c.loop-params.invariant c.if-branch.true c.in_ok-param_turn.ensures.turns

pub returns : goal.returns
returns c = record { reads = λ m w s a less. named (params_whole _ _ _ _) (goes_end (param_turn _) (params_unroll _) c.loop-params.invariant m no_param w s a (c.new-params.ensures _) less c.if-branch.false c.in_ok-param_turn.ensures.turns) }
