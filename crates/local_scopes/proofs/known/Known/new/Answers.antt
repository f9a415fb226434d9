use Rattle.std.proofs.Common.{ap}
use Rattle.local_scopes.proofs.KnownSteps.{lent, gathered-none}
use Rattle.local_scopes.proofs.known.Known.new.Goals as goal

pub returns : goal.returns
returns c place = gathered-none _ _ place (ap lent c.new.ensures.empty) c.new-2.ensures.empty
