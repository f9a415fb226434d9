use Rattle.std.proofs.Common.{length}
use Rattle.token_lookahead.specs.Lookaheads.{do_owner_of}
use Rattle.tree_builder.specs.Subtrees.{HoldsPairs}
use Rattle.parse_parts.proofs.Turning.{Goes}
use Rattle.parse_parts.proofs.Gathering.{pairs_rest}
use Rattle.parse_parts.proofs.pairs.pair_list.Given as goal

abbrev pub invariant-loop-pairs : goal.invariant-loop-pairs
invariant-loop-pairs g l = Goes HoldsPairs (pairs_rest l.context.source.now (g.N.Nested.readers l.nested l.context.source.now) (do_owner_of l.do_owner)) l.initial.parser l.initial.pairs l.parser l.pairs

abbrev pub decreases-loop-pairs : goal.decreases-loop-pairs
decreases-loop-pairs g l = length l.parser.rest.now
