use Rattle.std.proofs.Common.{length}
use Rattle.token_lookahead.specs.Lookaheads.{do_owner_of}
use Rattle.tree_builder.specs.Subtrees.{HoldsRescues}
use Rattle.parse_parts.proofs.Turning.{Goes}
use Rattle.parse_parts.proofs.Loops.{clauses_rest}
use Rattle.parse_parts.proofs.clauses.clauses.Given as goal

abbrev pub invariant-loop-saved : goal.invariant-loop-saved
invariant-loop-saved g l = Goes HoldsRescues (clauses_rest l.context.source.now (g.N.Nested.readers l.nested l.context.source.now) (do_owner_of l.do_owner)) l.initial.parser l.initial.saved l.parser l.saved

abbrev pub decreases-loop-saved : goal.decreases-loop-saved
decreases-loop-saved g l = length l.parser.rest.now
