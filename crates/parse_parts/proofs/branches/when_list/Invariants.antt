use Rattle.std.proofs.Common.{length}
use Rattle.token_lookahead.specs.Lookaheads.{do_owner_of}
use Rattle.tree_builder.specs.Subtrees.{HoldsWhens}
use Rattle.parse_parts.proofs.Turning.{Goes}
use Rattle.parse_parts.proofs.Loops.{whens_rest}
use Rattle.parse_parts.proofs.branches.when_list.Given as goal

abbrev pub invariant-loop-whens : goal.invariant-loop-whens
invariant-loop-whens g l = Goes HoldsWhens (whens_rest l.context.source.now (g.N.Nested.readers l.nested l.context.source.now) (do_owner_of l.do_owner)) l.initial.parser l.initial.whens l.parser l.whens

abbrev pub decreases-loop-whens : goal.decreases-loop-whens
decreases-loop-whens g l = length l.parser.rest.now
