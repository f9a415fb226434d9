use Rattle.std.proofs.Common.{length}
use Rattle.token_lookahead.specs.Lookaheads.{do_owner_of}
use Rattle.parse_parts.specs.Items.{HoldsGiven}
use Rattle.parse_parts.proofs.Turning.{Goes}
use Rattle.parse_parts.proofs.Gathering.{items_rest}
use Rattle.parse_parts.proofs.calls.items.Given as goal

abbrev pub invariant-loop-given : goal.invariant-loop-given
invariant-loop-given g l = Goes HoldsGiven (items_rest l.context.source.now (g.N.Nested.readers l.nested l.context.source.now) (do_owner_of l.do_owner)) l.initial.parser l.initial.given l.parser l.given

abbrev pub decreases-loop-given : goal.decreases-loop-given
decreases-loop-given g l = length l.parser.rest.now
