use Rattle.std.proofs.Common.{length}
use Rattle.parse_state.proofs.Newlines.{Skips}
use Rattle.parse_state.proofs.standing.Parser.skip_newlines.Given as goal

abbrev pub invariant-loop-self : goal.invariant-loop-self
invariant-loop-self l = Skips l.context.source.now l.initial.self l.self

abbrev pub decreases-loop-self : goal.decreases-loop-self
decreases-loop-self l = length l.self.rest.now
