use Rattle.std.proofs.Common.{length}
use Rattle.token_lookahead.specs.Lookaheads.{do_owner_of}
use Rattle.reference_parser.specs.ReadOperands.{postfixes}
use Rattle.parse_operands.proofs.Turning.{Goes}
use Rattle.parse_operands.proofs.postfixes.postfixes.Given as goal

abbrev pub invariant-loop-longer : goal.invariant-loop-longer
invariant-loop-longer g l = Goes (λ m o a. postfixes l.context.source.now (g.N.Nested.readers l.nested l.context.source.now) m (do_owner_of l.do_owner) o a) l.here l.initial.parser l.parser l.initial.part l.part

abbrev pub decreases-loop-longer : goal.decreases-loop-longer
decreases-loop-longer g l = length l.parser.rest.now
