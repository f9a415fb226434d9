use Rattle.std.proofs.Common.{sym, length, refl}
use Rattle.data_text.proofs.Spaces.{no_bytes}
use Rattle.data_text.proofs.Digits.{zero_found, zero_bad, ends_none, ends_at}
use Rattle.data_text.proofs.numbers.zero.Goals as goal

pub returns-in_default : goal.returns-in_default
returns-in_default c = zero_found c.args.limit c.args.bytes.now c.args.rest.now c.requires (ends_none c.args.rest.now (no_bytes c.args.rest.now c.in_default.ensures.cases))

pub returns-then-is_digit : goal.returns-then-is_digit
returns-then-is_digit c =
    zero_bad c.args.limit c.in-Some.next.now (length c.args.rest.now) c.args.bytes.now c.args.rest.now _ c.requires c.in-Some.ensures.cases.0 (sym c.if-is_digit.ensures) refl

pub returns : goal.returns
returns c =
    zero_found c.args.limit c.args.bytes.now c.args.rest.now c.requires
    (ends_at c.in-Some.next.now c.args.rest.now _ c.in-Some.ensures.cases.0 (sym c.if-is_digit.ensures))
