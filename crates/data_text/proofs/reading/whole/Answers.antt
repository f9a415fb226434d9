use Rattle.std.proofs.Common.{rules, ◌≡◌, ◌∙◌, sym, Err}
use Rattle.msgpack_codec.specs.declared.value.Value.{Value}
use Rattle.data_text.specs.Json.{Spells}
use Rattle.data_text.specs.Reading.{StoppedText}
use Rattle.data_text.proofs.Tops.{whole_found, whole_only, whole_stop, whole_rest, no_rest, stopped_whole}
use Rattle.data_text.proofs.reading.whole.Goals as goal

pub returns-in_err-value : goal.returns-in_err-value
returns-in_err-value c =
    let e = c.in_err-value.field-0.0 in
    let is : c.from_residual.result ≡ Err e = search rules in
    stopped_whole (λ v. Spells v c.args.bytes.now × ((y : Value) → Spells y c.args.bytes.now → y ≡ v)) (λ e. StoppedText c.args.bytes.now e) c.from_residual.result e is
    (whole_stop c.args.bytes.now c.skip_blanks.result.now e c.skip_blanks.ensures c.in_err-value.ensures)

pub returns-then-is_empty : goal.returns-then-is_empty
returns-then-is_empty c = (
  whole_found c.in_ok-value.value c.args.bytes.now c.skip_blanks.result.now c.in_ok-value.rest.now c.skip_blanks.ensures c.in_ok-value.ensures (sym c.skip_blanks-rest.ensures ∙ no_rest c.skip_blanks-rest.result.now c.if-is_empty.ensures),
  whole_only c.in_ok-value.value c.args.bytes.now c.skip_blanks.result.now c.in_ok-value.rest.now c.skip_blanks.ensures c.in_ok-value.ensures,
)

pub returns : goal.returns
returns c =
    whole_rest c.in_ok-value.value c.args.bytes.now c.skip_blanks.result.now c.in_ok-value.rest.now c.skip_blanks-rest.result.now c.skip_blanks.ensures c.in_ok-value.ensures c.skip_blanks-rest.ensures c.if-is_empty.ensures
