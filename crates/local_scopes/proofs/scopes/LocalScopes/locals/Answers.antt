use Rattle.local_scopes.proofs.EnvironmentSteps.{names-told}
use Rattle.local_scopes.proofs.scopes.LocalScopes.locals.Goals as goal

pub returns : goal.returns
returns c = names-told c.self.inside.open.items c.deref.result.now c.args.self.now _ c.self.invariant c.deref.ensures.value c.self.view_is c.innermost_names.ensures
