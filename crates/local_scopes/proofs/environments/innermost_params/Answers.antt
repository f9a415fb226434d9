use Rattle.std.proofs.Common.{refl}
use Rattle.local_scopes.proofs.EnvironmentSteps.{params-told}
use Rattle.local_scopes.proofs.environments.innermost_params.Goals as goal

pub returns-in-Some : goal.returns-in-Some
returns-in-Some c = params-told c.args.around.now c.args.around.now _ _ _ _ refl refl c.in-Some.ensures.cases.0 c.params_within.ensures
