use Rattle.std.proofs.Common.{sym, ◌∙◌}
use Rattle.local_scopes.proofs.LocalSteps.{noted, noted_before}
use Rattle.local_scopes.proofs.locals.note.Goals as goal

pub returns-then-contains_key-clause-ok : goal.returns-then-contains_key-clause-ok
returns-then-contains_key-clause-ok c other = noted_before c.args.slots.now.entries c.args.name.now c.args.slot other (sym c.contains_key.ensures ∙ c.if-contains_key.true)

pub returns-clause-ok : goal.returns-clause-ok
returns-clause-ok c other = noted c.args.slots.now.entries c.insert.new.self.entries c.args.name.now c.args.slot other (sym c.contains_key.ensures ∙ c.if-contains_key.false) (c.in_ok-insert.ensures.updates.0 (record c.args.name { now = other }))
