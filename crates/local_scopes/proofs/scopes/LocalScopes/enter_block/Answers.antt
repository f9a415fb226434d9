use Rattle.std.proofs.Common.{ap}
use Rattle.local_scopes.specs.Opened.{sights}
use Rattle.local_scopes.proofs.EnvironmentSteps.{opened-push}
use Rattle.local_scopes.proofs.scopes.LocalScopes.enter_block.Goals as goal

pub returns-clause-sight : goal.returns-clause-sight
returns-clause-sight c = ap sights (opened-push c.self.inside.open.items c.push.new.self.items c.in_ok-environment.environment _ c.args.self.now c.in_ok-push.ensures.items c.in_ok-environment.ensures.open c.self.view_is)
