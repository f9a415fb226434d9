use Rattle.std.proofs.Common.{length, refl}
use Rattle.data_text.specs.Json.{DigitAt}
use Rattle.data_text.specs.Reading.{Anything}
use Rattle.data_text.proofs.Spaces.{no_bytes}
use Rattle.data_text.proofs.Chains.{no_byte}
use Rattle.data_text.proofs.Halves.{digit_some, digit_begins, digit_found, digit_bad}
use Rattle.data_text.proofs.units.digit.Goals as goal

pub returns-in_default : goal.returns-in_default
returns-in_default c =
    no_byte Anything (DigitAt c.args.low c.args.high) c.args.bytes.now (no_bytes c.args.bytes.now c.in_default.ensures.cases) (digit_begins c.args.low c.args.high c.requires.some c.requires.few) (λ y t h. digit_some c.args.low c.args.high y t h)

pub returns-then-value-low : goal.returns-then-value-low
returns-then-value-low c =
    digit_bad c.args.low c.args.high c.in-Some.first.now c.hex_value-value.result (length c.args.bytes.now) c.hex_value-value.ensures c.requires.some c.requires.few c.then-value-low.either
    c.args.bytes.now c.in-Some.rest.now c.in-Some.ensures.cases.0 refl

pub returns : goal.returns
returns c =
    digit_found c.args.low c.args.high c.in-Some.first.now c.hex_value-value.result c.hex_value-value.ensures c.requires.few c.if-value-low.false c.if-value-high.false c.args.bytes.now c.in-Some.rest.now c.in-Some.ensures.cases.0
