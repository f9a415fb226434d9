use Rattle.std.proofs.Common.{sym, ◌∙◌, arith}
use Rattle.local_scopes.proofs.KnownSteps.{blocked, blocked_before, put-mark}
use Rattle.local_scopes.proofs.known.Known.mark.Goals as goal

pub returns-then-contains_key : goal.returns-then-contains_key
returns-then-contains_key c place = blocked_before c.self.inside.names.keys c.self.inside.marks.entries c.args.at c.args.self.now place (sym c.contains_key.ensures ∙ c.if-contains_key.true) c.self.view_is

pub invariant_of-self-2 : goal.invariant_of-self-2
invariant_of-self-2 c = rw c.in_ok-insert.ensures.entries (put-mark _ c.args.at c.len.result _ (omega arith) (omega (arith, c.len.ensures.len)) c.self.invariant)

pub returns : goal.returns
returns c place =
    blocked c.self.inside.names.keys c.self.inside.marks.entries c.insert.new.self.entries c.args.at c.len.result c.args.self.now place
    (sym c.contains_key.ensures ∙ c.if-contains_key.false) (c.in_ok-insert.ensures.updates.0 place) c.len.ensures.len c.self.view_is
