use Rattle.std.proofs.Common.{◌≡◌, ◌∙◌, sym, ap}
use Rattle.code_writer.specs.Writing.{Writing}
use Rattle.code_writer.proofs.Leading.{got_as, led, led_plain, led_on}
use Rattle.code_writer.proofs.writer.CodeWriter.lead_back.Goals as goal

pub returns-in-Some-Back : goal.returns-in-Some-Back
returns-in-Some-Back c = ap (λ xs. record { steps = xs; rows = c.args.self.now.rows.items }) (led c.args.self.now.written.items c.args.number c.len-len.result c.in-Some-Back.line c.in-Some-Back.field-0-2 c.in-Some-Back.branch (c.len-len.ensures ∙ c.args.self.now.written.ok.0) (got_as c.args.self.now.written.items c.deref.result.now c.args.number _ _ c.deref.ensures.value c.in-Some-Back.ensures.lookup.3.0 c.in-Some-Back.ensures.lookup.1 c.in-Some-Back.field-0-is))

pub returns-in-Some-Plain : goal.returns-in-Some-Plain
returns-in-Some-Plain c = ap (λ xs. record { steps = xs; rows = c.args.self.now.rows.items }) (led_plain c.args.self.now.written.items c.args.number _ c.in-Some-Plain.field-0-0 (got_as c.args.self.now.written.items c.deref.result.now c.args.number _ _ c.deref.ensures.value c.in-Some-Plain.ensures.lookup.3.0 c.in-Some-Plain.ensures.lookup.1 c.in-Some-Plain.field-0-is))

pub returns-in-Some-On : goal.returns-in-Some-On
returns-in-Some-On c = ap (λ xs. record { steps = xs; rows = c.args.self.now.rows.items }) (led_on c.args.self.now.written.items c.args.number _ c.in-Some-On.field-0-0 c.in-Some-On.field-0-2 c.in-Some-On.field-0-1 (got_as c.args.self.now.written.items c.deref.result.now c.args.number _ _ c.deref.ensures.value c.in-Some-On.ensures.lookup.3.0 c.in-Some-On.ensures.lookup.1 c.in-Some-On.field-0-is))
