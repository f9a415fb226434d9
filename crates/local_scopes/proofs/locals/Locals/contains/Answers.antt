use Rattle.std.proofs.Common.{is_some, ap, ◌∙◌}
use Rattle.ruby_lexer.specs.Bytes.{is_in}
use Rattle.local_scopes.proofs.LocalSteps.{is_in-slot}
use Rattle.local_scopes.proofs.locals.Locals.contains.Goals as goal

pub returns : goal.returns
returns c = c.contains_key.ensures ∙ ap is_some (c.self.invariant c.args.name.now) ∙ is_in-slot c.args.name.now _ ∙ ap (is_in c.args.name.now) c.self.view_is
