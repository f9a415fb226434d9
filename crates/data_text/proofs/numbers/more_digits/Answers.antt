use Rattle.std.proofs.Common.{◌+◌, ◌*◌, ◌-◌, sym, length, refl, arith}
use Rattle.data_text.proofs.Spaces.{no_bytes}
use Rattle.data_text.proofs.Digits.{digits_found, digits_bad, digit_more, ends_none, ends_at, digit_low, digit_high}
use Rattle.data_text.proofs.numbers.more_digits.Goals as goal

pub returns-then-not-is_digit : goal.returns-then-not-is_digit
returns-then-not-is_digit c =
    digits_found c.args.limit c.args.first c.loop-next.size c.args.bytes.now c.loop-next.rest.now c.requires.digit c.requires.some c.loop-next.invariant
    (ends_at c.in-Some.next.now c.loop-next.rest.now c.in-Some.after.now c.in-Some.ensures.cases.0 (sym c.if-not-is_digit.ensures))

pub returns-then-size-limit : goal.returns-then-size-limit
returns-then-size-limit c =
    let low = digit_low c.in-Some.next.now (sym c.if-not-is_digit.ensures) in
    let high = digit_high c.in-Some.next.now (sym c.if-not-is_digit.ensures) in
    digits_bad c.args.limit c.args.first c.loop-next.size c.in-Some.next.now (length c.loop-next.rest.now) c.args.bytes.now c.loop-next.rest.now c.in-Some.after.now c.requires.digit c.requires.some c.loop-next.invariant
    c.in-Some.ensures.cases.0 refl (sym c.if-not-is_digit.ensures) (omega (arith, low, high))

pub loop-next-preserved : goal.loop-next-preserved
loop-next-preserved c =
    let low = digit_low c.in-Some.next.now (sym c.if-not-is_digit.ensures) in
    let high = digit_high c.in-Some.next.now (sym c.if-not-is_digit.ensures) in
    digit_more c.args.limit c.args.first c.loop-next.size c.in-Some.next.now (c.loop-next.size * 10 + (c.in-Some.next.now - 48)) c.args.bytes.now c.loop-next.rest.now c.in-Some.after.now c.loop-next.invariant
    c.in-Some.ensures.cases.0 (sym c.if-not-is_digit.ensures) refl (omega (arith, low, high))

pub returns : goal.returns
returns c =
    digits_found c.args.limit c.args.first c.loop-next.size c.args.bytes.now c.loop-next.rest.now c.requires.digit c.requires.some c.loop-next.invariant
    (ends_none c.loop-next.rest.now (no_bytes c.loop-next.rest.now c.in_default.ensures.cases))
