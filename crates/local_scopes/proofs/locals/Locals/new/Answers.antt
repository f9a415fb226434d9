use Rattle.std.proofs.Common.{ap}
use Rattle.local_scopes.proofs.KnownSteps.{lent}
use Rattle.local_scopes.proofs.LocalSteps.{indexed-none}
use Rattle.local_scopes.proofs.locals.Locals.new.Goals as goal

pub invariant_of-result : goal.invariant_of-result
invariant_of-result c name = indexed-none _ _ name (ap lent c.new.ensures.items) c.new-2.ensures.empty
