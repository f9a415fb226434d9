use Rattle.std.proofs.Common.{sym, ap, ◌∙◌, arith}
use Rattle.std.specs.List.{position}
use Rattle.ruby_lexer.specs.Bytes.{same}
use Rattle.local_scopes.proofs.KnownSteps.{lent}
use Rattle.local_scopes.proofs.LocalSteps.{indexed-push}
use Rattle.local_scopes.proofs.locals.Locals.push.Goals as goal

pub invariant_of-self-2 : goal.invariant_of-self-2
invariant_of-self-2 c =
    indexed-push c.reserve.new.self.items c.push.new.self.items c.self.inside.slots.entries c.note.new.slots.entries c.args.name c.len-slot.result
    (λ x. c.self.invariant x ∙ ap (λ names. position (same x) (lent names)) (sym c.reserve.ensures.items))
    c.in_ok-note.ensures.ok (omega (arith, c.len-slot.ensures, c.reserve.new.self.ok.0)) c.in_ok-push.ensures.items
