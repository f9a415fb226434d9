use Rattle.std.proofs.Common.{rules, ◌≡◌, ◌∙◌, ◌∷◌, Err, ap, sym, refl}
use Rattle.std.proofs.Common.{◌==◌, subst, w64, SFits}
use Rattle.std.proofs.lemmas.Int.{to_z-of_z}
use Rattle.msgpack_codec.specs.declared.value.Value.TheVariants as value
use Rattle.data_text.specs.Json.{ScalarAt, BeginsNoDigit}
use Rattle.data_text.specs.Reading.{FoundValue, StoppedBy}
use Rattle.data_text.proofs.Spaces.{no_bytes}
use Rattle.data_text.proofs.Chains.{stopped_result, no_byte}
use Rattle.data_text.proofs.Scalars.{scalar_begins, scalar_some, string_found, string_stop, number_found, number_stop, number_test, no_minus, no_digit, other_of, found_value, stop_value, begins_value, value_result}
use Rattle.data_text.proofs.values.scalar.Goals as goal

pub returns-in_default : goal.returns-in_default
returns-in_default c = no_byte BeginsNoDigit ScalarAt c.args.bytes.now (no_bytes c.args.bytes.now c.in_default.ensures.cases) (begins_value ScalarAt _ scalar_begins) scalar_some

pub returns-in_err-text : goal.returns-in_err-text
returns-in_err-text c =
    let e = c.in_err-text.field-0.0 in
    let is : c.from_residual.result ≡ Err e = search rules in
    stopped_result (λ found. FoundValue ScalarAt found.0 c.args.bytes.now found.1.now) (λ e. StoppedBy BeginsNoDigit ScalarAt c.args.bytes.now e) c.from_residual.result e is
    (stop_value ScalarAt c.args.bytes.now e (string_stop c.args.bytes.now c.in-Some.rest.now e (c.in-Some.ensures.cases.0 ∙ ap (λ b. b ∷ c.in-Some.rest.now) c.if-first-eq34.true) c.in_err-text.ensures))

pub returns-then-first-eq34 : goal.returns-then-first-eq34
returns-then-first-eq34 c =
    found_value ScalarAt (value.Str c.in_ok-text.text) c.args.bytes.now c.in_ok-text.rest.now
    (string_found c.in_ok-text.text c.args.bytes.now c.in-Some.rest.now c.in_ok-text.rest.now (c.in-Some.ensures.cases.0 ∙ ap (λ b. b ∷ c.in-Some.rest.now) c.if-first-eq34.true) c.in_ok-text.ensures)

pub returns-in_err-number : goal.returns-in_err-number
returns-in_err-number c =
    let e = c.in_err-number.field-0.0 in
    let is : c.from_residual-in_err-number.result ≡ Err e = search rules in
    stopped_result (λ found. FoundValue ScalarAt found.0 c.args.bytes.now found.1.now) (λ e. StoppedBy BeginsNoDigit ScalarAt c.args.bytes.now e) c.from_residual-in_err-number.result e is
    (number_stop c.in-Some.first.now c.args.bytes.now c.in-Some.rest.now e c.in-Some.ensures.cases.0 (number_test c.in-Some.first.now (c.in-Some.first.now == 45) refl (sym c.if-begins_number.ensures)) c.in_err-number.ensures)

pub returns-then-begins_number : goal.returns-then-begins_number
returns-then-begins_number c =
    let fits : SFits w64 c.in_ok-number.number = search rules in
    let same = to_z-of_z w64 c.in_ok-number.number fits in
    subst (λ z. FoundValue ScalarAt (value.Int z) c.args.bytes.now c.in_ok-number.rest.now) (sym same) (number_found c.in_ok-number.number c.args.bytes.now c.in_ok-number.rest.now c.in_ok-number.ensures)

pub constant-requires : goal.constant-requires
constant-requires c =
    other_of c.in-Some.first.now c.args.bytes.now c.in-Some.rest.now c.in-Some.ensures.cases.0 c.if-first-eq34.false (no_minus c.in-Some.first.now (sym c.if-begins_number.ensures)) (no_digit c.in-Some.first.now (sym c.if-begins_number.ensures))

pub returns : goal.returns
returns c = value_result ScalarAt c.args.bytes.now c.constant.result c.constant.ensures
