use Rattle.std.proofs.Common.{rules, ◌≡◌, ◌∙◌, ◌∷◌, Err, ap, length, refl}
use Rattle.data_text.specs.Json.{ScalarAt}
use Rattle.data_text.specs.Reading.{Found, Stopped, Anything}
use Rattle.data_text.proofs.Spaces.{no_bytes}
use Rattle.data_text.proofs.Chains.{stopped_result, no_byte}
use Rattle.data_text.proofs.Scalars.{scalar_begins, scalar_some, null_found, null_stop, truth_found, truth_stop, falsity_found, falsity_stop, other_bad}
use Rattle.data_text.proofs.values.constant.Goals as goal

pub returns-in_default : goal.returns-in_default
returns-in_default c = no_byte Anything ScalarAt c.args.bytes.now (no_bytes c.args.bytes.now c.in_default.ensures.cases) scalar_begins scalar_some

pub returns-in_err-rest : goal.returns-in_err-rest
returns-in_err-rest c =
    let e = c.in_err-rest.field-0.0 in
    let is : c.from_residual.result ≡ Err e = search rules in
    stopped_result (λ found. Found ScalarAt found.0 c.args.bytes.now found.1.now) (λ e. Stopped ScalarAt c.args.bytes.now e) c.from_residual.result e is
    (null_stop c.args.bytes.now c.in-Some.rest.now e (c.in-Some.ensures.cases.0 ∙ ap (λ b. b ∷ c.in-Some.rest.now) c.if-first-eq110.true) c.in_err-rest.ensures)

pub returns-then-first-eq110 : goal.returns-then-first-eq110
returns-then-first-eq110 c = null_found c.args.bytes.now c.in-Some.rest.now c.in_ok-rest.rest.now (c.in-Some.ensures.cases.0 ∙ ap (λ b. b ∷ c.in-Some.rest.now) c.if-first-eq110.true) c.in_ok-rest.ensures

pub returns-in_err-rest-2 : goal.returns-in_err-rest-2
returns-in_err-rest-2 c =
    let e = c.in_err-rest-2.field-0.0 in
    let is : c.from_residual-in_err-rest-2.result ≡ Err e = search rules in
    stopped_result (λ found. Found ScalarAt found.0 c.args.bytes.now found.1.now) (λ e. Stopped ScalarAt c.args.bytes.now e) c.from_residual-in_err-rest-2.result e is
    (truth_stop c.args.bytes.now c.in-Some.rest.now e (c.in-Some.ensures.cases.0 ∙ ap (λ b. b ∷ c.in-Some.rest.now) c.if-first-eq116.true) c.in_err-rest-2.ensures)

pub returns-then-first-eq116 : goal.returns-then-first-eq116
returns-then-first-eq116 c = truth_found c.args.bytes.now c.in-Some.rest.now c.in_ok-rest-2.rest.now (c.in-Some.ensures.cases.0 ∙ ap (λ b. b ∷ c.in-Some.rest.now) c.if-first-eq116.true) c.in_ok-rest-2.ensures

pub returns-in_err-rest-3 : goal.returns-in_err-rest-3
returns-in_err-rest-3 c =
    let e = c.in_err-rest-3.field-0.0 in
    let is : c.from_residual-in_err-rest-3.result ≡ Err e = search rules in
    stopped_result (λ found. Found ScalarAt found.0 c.args.bytes.now found.1.now) (λ e. Stopped ScalarAt c.args.bytes.now e) c.from_residual-in_err-rest-3.result e is
    (falsity_stop c.args.bytes.now c.in-Some.rest.now e (c.in-Some.ensures.cases.0 ∙ ap (λ b. b ∷ c.in-Some.rest.now) c.if-first-eq102.true) c.in_err-rest-3.ensures)

pub returns-then-first-eq102 : goal.returns-then-first-eq102
returns-then-first-eq102 c = falsity_found c.args.bytes.now c.in-Some.rest.now c.in_ok-rest-3.rest.now (c.in-Some.ensures.cases.0 ∙ ap (λ b. b ∷ c.in-Some.rest.now) c.if-first-eq102.true) c.in_ok-rest-3.ensures

pub returns : goal.returns
returns c =
    other_bad c.in-Some.first.now (length c.args.bytes.now) c.args.bytes.now c.in-Some.rest.now c.in-Some.ensures.cases.0 refl c.requires c.if-first-eq110.false c.if-first-eq116.false c.if-first-eq102.false
