use Rattle.local_scopes.proofs.KnownSteps.{counted, counted_all}
use Rattle.local_scopes.proofs.known.Known.known_at.Goals as goal

pub returns-in-Some : goal.returns-in-Some
returns-in-Some c = counted c.self.inside.names.keys c.self.inside.marks.entries c.args.place _ c.args.self.now c.in-Some.ensures.value c.self.view_is

pub returns-in-None : goal.returns-in-None
returns-in-None c = counted_all c.self.inside.names.keys c.self.inside.marks.entries c.args.place _ c.args.self.now c.in-None.ensures.value c.len.ensures.len c.self.view_is
