use Rattle.std.proofs.Common.{rules, ◌≡◌, ◌∙◌, ◌∷◌, [], sym, subst, ap, arith, Err, w64, SFits, inl}
use Rattle.std.proofs.lemmas.Int.{to_z-of_z, to_z_pos}
use Rattle.data_text.specs.Json.{NumberAt, BeginsNoDigit}
use Rattle.data_text.specs.Reading.{FoundValue, StoppedBy}
use Rattle.data_text.proofs.Spaces.{no_bytes}
use Rattle.data_text.proofs.Chains.{stopped_result, no_byte}
use Rattle.data_text.proofs.Digits.{begins_number, number_some, negative_found, negative_stop, natural_found, natural_stop}
use Rattle.data_text.proofs.numbers.number.Goals as goal

pub returns-in_default : goal.returns-in_default
returns-in_default c = no_byte BeginsNoDigit NumberAt c.args.bytes.now (no_bytes c.args.bytes.now c.in_default.ensures.cases) begins_number number_some

pub returns-in_err-size : goal.returns-in_err-size
returns-in_err-size c =
    let e = c.in_err-size.field-0.0 in
    let is : c.from_residual.result ≡ Err e = search rules in
    stopped_result (λ found. FoundValue NumberAt found.0 c.args.bytes.now found.1.now) (λ e. StoppedBy BeginsNoDigit NumberAt c.args.bytes.now e) c.from_residual.result e is
    (negative_stop c.args.bytes.now c.in-Some.rest.now e (c.in-Some.ensures.cases.0 ∙ ap (λ b. b ∷ c.in-Some.rest.now) c.if-first-eq45.true) c.in_err-size.ensures)

pub returns-then-first-eq45 : goal.returns-then-first-eq45
returns-then-first-eq45 c =
    let fits : SFits w64 c.minus.result = search rules in
    let same = to_z-of_z w64 c.minus.result fits in
    subst (λ z. FoundValue NumberAt z c.args.bytes.now c.in_ok-size.rest.now) (sym (same ∙ c.minus.ensures))
    (negative_found c.in_ok-size.size c.args.bytes.now c.in-Some.rest.now c.in_ok-size.rest.now (c.in-Some.ensures.cases.0 ∙ ap (λ b. b ∷ c.in-Some.rest.now) c.if-first-eq45.true) c.in_ok-size.ensures)

pub returns-in_err-size-2 : goal.returns-in_err-size-2
returns-in_err-size-2 c =
    let e = c.in_err-size-2.field-0.0 in
    let is : c.from_residual-in_err-size-2.result ≡ Err e = search rules in
    stopped_result (λ found. FoundValue NumberAt found.0 c.args.bytes.now found.1.now) (λ e. StoppedBy BeginsNoDigit NumberAt c.args.bytes.now e) c.from_residual-in_err-size-2.result e is
    (natural_stop c.in-Some.first.now c.args.bytes.now c.in-Some.rest.now e c.in-Some.ensures.cases.0 c.if-first-eq45.false c.in_err-size-2.ensures)

pub returns : goal.returns
returns c =
    let found = c.in_ok-size-2.ensures in
    let small = (found.reads [] (inl tt)).within in
    let same = to_z_pos w64 c.in_ok-size-2.size (omega (arith, small)) in
    subst (λ z. FoundValue NumberAt z c.args.bytes.now c.in_ok-size-2.rest.now) (sym same)
    (natural_found c.in-Some.first.now c.in_ok-size-2.size c.args.bytes.now c.in-Some.rest.now c.in_ok-size-2.rest.now c.in-Some.ensures.cases.0 c.if-first-eq45.false found)
