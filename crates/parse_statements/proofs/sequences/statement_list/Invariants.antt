use Rattle.std.proofs.Common.{length}
use Rattle.token_lookahead.specs.Lookaheads.{do_owner_of}
use Rattle.tree_builder.specs.Subtrees.{HoldsAll}
use Rattle.parse_parts.proofs.Turning.{Goes}
use Rattle.parse_statements.proofs.StatementLoops.{statements_rest}
use Rattle.parse_statements.proofs.sequences.statement_list.Given as goal

abbrev pub invariant-loop-parts : goal.invariant-loop-parts
invariant-loop-parts g l = Goes HoldsAll (statements_rest l.context.source.now (g.N.Nested.readers l.nested l.context.source.now) (do_owner_of l.do_owner)) l.initial.parser l.initial.parts l.parser l.parts

abbrev pub decreases-loop-parts : goal.decreases-loop-parts
decreases-loop-parts g l = length l.parser.rest.now
