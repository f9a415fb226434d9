use Rattle.local_scopes.proofs.EnvironmentSteps.{text-viewed}
use Rattle.local_scopes.proofs.scopes.LocalScopes.text.Goals as goal

pub returns : goal.returns
returns c = text-viewed c.self.inside.open.items c.deref.result.now c.args.self.now c.args.name _ c.deref.ensures.value c.self.view_is c.innermost_text.ensures
