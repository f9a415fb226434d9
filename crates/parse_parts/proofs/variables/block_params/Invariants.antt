use Rattle.std.proofs.Common.{length}
use Rattle.tree_builder.specs.Subtrees.{HoldsParams}
use Rattle.parse_parts.proofs.Turning.{Goes}
use Rattle.parse_parts.proofs.Gathering.{params_rest}
use Rattle.parse_parts.proofs.variables.block_params.Given as goal

abbrev pub invariant-loop-params : goal.invariant-loop-params
invariant-loop-params l = Goes HoldsParams (params_rest l.context.source.now) l.initial.parser l.initial.params l.parser l.params

abbrev pub decreases-loop-params : goal.decreases-loop-params
decreases-loop-params l = length l.parser.rest.now
