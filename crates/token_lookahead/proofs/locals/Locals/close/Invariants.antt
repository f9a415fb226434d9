use Rattle.std.proofs.Common.{length}
use Rattle.token_lookahead.proofs.LocalClosing.{Closing}
use Rattle.token_lookahead.proofs.locals.Locals.close.Given as goal

abbrev pub invariant-loop-self : goal.invariant-loop-self
invariant-loop-self l = Closing l.len l.initial.self-inside l.self-inside

abbrev pub decreases-loop-self : goal.decreases-loop-self
decreases-loop-self l = length l.self-inside.declared.items
