use Rattle.std.proofs.Common.{length}
use Rattle.token_lookahead.specs.Lookaheads.{do_owner_of}
use Rattle.parse_parts.proofs.Turning.{Goes}
use Rattle.parse_parts.specs.Parts.{HoldsRow}
use Rattle.parse_parts.proofs.Loops.{params_rest}
use Rattle.parse_parts.proofs.params.method_params.Given as goal

abbrev pub invariant-loop-row : goal.invariant-loop-row
invariant-loop-row g l = Goes HoldsRow (params_rest l.context.source.now (g.N.Nested.readers l.nested l.context.source.now) (do_owner_of l.do_owner)) l.initial.parser l.initial.row l.parser l.row

abbrev pub decreases-loop-row : goal.decreases-loop-row
decreases-loop-row g l = length l.parser.rest.now
