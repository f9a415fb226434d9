use Rattle.token_lookahead.proofs.LocalIndex.{nothing}
use Rattle.token_lookahead.proofs.locals.Locals.new.Goals as goal

pub invariant_of-result : goal.invariant_of-result
invariant_of-result c = rw (c.new.ensures.empty, c.new-2.ensures.items, c.new-3.ensures.items) nothing
