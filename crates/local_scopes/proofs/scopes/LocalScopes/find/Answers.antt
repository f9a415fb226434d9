use Rattle.local_scopes.proofs.EnvironmentSteps.{slot-told, level-told}
use Rattle.local_scopes.proofs.scopes.LocalScopes.find.Goals as goal

pub returns-clause-slot : goal.returns-clause-slot
returns-clause-slot c = slot-told c.args.name.now c.self.inside.open.items c.deref.result.now c.args.self.now _ c.self.invariant c.deref.ensures.value c.self.view_is c.find_in.ensures.slot

pub returns-clause-level : goal.returns-clause-level
returns-clause-level c = level-told c.args.name.now c.self.inside.open.items c.deref.result.now c.args.self.now _ c.self.invariant c.deref.ensures.value c.self.view_is c.find_in.ensures.level
