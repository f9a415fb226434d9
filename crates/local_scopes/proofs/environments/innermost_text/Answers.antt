use Rattle.local_scopes.proofs.EnvironmentSteps.{text-told}
use Rattle.local_scopes.proofs.environments.innermost_text.Goals as goal

pub returns-in-Some : goal.returns-in-Some
returns-in-Some c = text-told c.args.around.now _ _ c.args.name _ c.in-Some.ensures.cases.0 c.text.ensures
