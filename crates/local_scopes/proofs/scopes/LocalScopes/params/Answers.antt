use Rattle.local_scopes.proofs.EnvironmentSteps.{parameters-told}
use Rattle.local_scopes.proofs.scopes.LocalScopes.params.Goals as goal

pub returns : goal.returns
returns c = parameters-told c.self.inside.open.items c.deref.result.now c.args.self.now _ c.deref.ensures.value c.self.view_is c.innermost_params.ensures
