use Rattle.local_scopes.proofs.KnownSteps.{is_among-Some, is_among-None}
use Rattle.local_scopes.proofs.known.Known.is_among.Goals as goal

pub returns-in-Some : goal.returns-in-Some
returns-in-Some c = is_among-Some c.self.inside.names.keys c.self.inside.marks.entries c.args.name.now c.args.count _ c.args.self.now c.in-Some.ensures.index c.self.view_is

pub returns-in-None : goal.returns-in-None
returns-in-None c = is_among-None c.self.inside.names.keys c.self.inside.marks.entries c.args.name.now c.args.count c.args.self.now c.in-None.ensures.found c.self.view_is
