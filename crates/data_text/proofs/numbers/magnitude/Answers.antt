use Rattle.std.proofs.Common.{sym, length, refl}
use Rattle.data_text.specs.Json.{MagnitudeAt, BeginsNoDigit}
use Rattle.data_text.proofs.Spaces.{no_bytes}
use Rattle.data_text.proofs.Chains.{bad_byte, no_byte}
use Rattle.data_text.proofs.Digits.{some_number, no_magnitude, magnitude_some}
use Rattle.data_text.proofs.numbers.magnitude.Goals as goal

pub returns-in_default : goal.returns-in_default
returns-in_default c = no_byte BeginsNoDigit (MagnitudeAt c.args.limit) c.args.bytes.now (no_bytes c.args.bytes.now c.in_default.ensures.cases) (some_number c.args.limit) (λ y t h. magnitude_some c.args.limit y t h)

pub returns-then-not-is_digit : goal.returns-then-not-is_digit
returns-then-not-is_digit c =
    bad_byte BeginsNoDigit (MagnitudeAt c.args.limit) c.in-Some.first.now (length c.args.bytes.now) c.args.bytes.now c.in-Some.rest.now c.in-Some.ensures.cases.0 refl (some_number c.args.limit)
    (λ y u t h. no_magnitude c.in-Some.first.now (sym c.if-not-is_digit.ensures) y c.args.limit u t h)
