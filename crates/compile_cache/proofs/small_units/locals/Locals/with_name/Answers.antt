use Rattle.std.proofs.Common.{◌∙◌, sym}
use Rattle.compile_cache.proofs.SmallLocals.{name_kept, name_more, slots_more}
use Rattle.compile_cache.proofs.small_units.locals.Locals.with_name.Goals as goal

pub returns-then-is_some : goal.returns-then-is_some
returns-then-is_some c =
    let kept = name_kept c.self.inside.names c.self.inside.slots c.args.name.now c.get.result c.self.invariant c.get.ensures (sym c.is_some.ensures ∙ c.if-is_some.true) in
    rw (← c.self.view_is) (sym kept)

pub invariant_of-result : goal.invariant_of-result
invariant_of-result c =
    slots_more c.self.inside.names c.push.new.self c.self.inside.slots c.insert.new.self c.args.name.now c.in_ok-copy.field-0 c.in_ok-copy-2.field-0 c.get.result c.len.result c.self.invariant c.get.ensures
    (sym c.is_some.ensures ∙ c.if-is_some.false) c.len.ensures c.in_ok-copy.ensures c.in_ok-copy-2.ensures c.in_ok-insert.ensures.ok c.in_ok-push.ensures.ok

pub returns : goal.returns
returns c =
    let more =
    name_more c.self.inside.names c.push.new.self c.self.inside.slots c.args.name.now c.in_ok-copy-2.field-0 c.get.result c.self.invariant c.get.ensures (sym c.is_some.ensures ∙ c.if-is_some.false) c.in_ok-copy-2.ensures
    c.in_ok-push.ensures.ok in
    rw (← c.self.view_is) more
