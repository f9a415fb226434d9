use Rattle.std.proofs.Common.{length}
use Rattle.parse_program.proofs.Moving.{WalksFrom}
use Rattle.parse_program.proofs.walk.stop_line.Given as goal

abbrev pub invariant-loop-failure : goal.invariant-loop-failure
invariant-loop-failure g l = WalksFrom l.context.source.now (g.N.Nested.readers l.nested l.context.source.now) l.end l.initial.parser l.parser

abbrev pub decreases-loop-failure : goal.decreases-loop-failure
decreases-loop-failure g l = length l.parser.rest.now
