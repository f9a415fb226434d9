use Rattle.std.proofs.Common.{rules, ◌≡◌, Err}
use Rattle.data_text.specs.Json.{DigitAt}
use Rattle.data_text.specs.Reading.{Found, Stopped, HalfAt}
use Rattle.data_text.proofs.Chains.{stopped_result}
use Rattle.data_text.proofs.Halves.{move2, half_stop1, half_stop2, half_stop3, half_stop4, half_found}
use Rattle.data_text.proofs.units.unit.Goals as goal

pub returns-in_err-first : goal.returns-in_err-first
returns-in_err-first c =
    let e = c.in_err-first.field-0.0 in
    let is : c.from_residual.result ≡ Err e = search rules in
    stopped_result (λ found. Found (HalfAt c.args.low) found.0 c.args.bytes.now found.1.now) (λ e. Stopped (HalfAt c.args.low) c.args.bytes.now e) c.from_residual.result e is
    (half_stop1 c.args.low c.args.bytes.now e (move2 (λ l h. Stopped (DigitAt l h) c.args.bytes.now e) _ _ _ _ c.least_first.ensures c.most_first.ensures c.in_err-first.ensures))

pub returns-in_err-second : goal.returns-in_err-second
returns-in_err-second c =
    let e = c.in_err-second.field-0.0 in
    let r = c.in_ok-first.rest.now in
    let is : c.from_residual-in_err-second.result ≡ Err e = search rules in
    stopped_result (λ found. Found (HalfAt c.args.low) found.0 c.args.bytes.now found.1.now) (λ e. Stopped (HalfAt c.args.low) c.args.bytes.now e) c.from_residual-in_err-second.result e is
    (half_stop2 c.args.low c.in_ok-first.first c.args.bytes.now r e
    (move2 (λ l h. Found (DigitAt l h) c.in_ok-first.first c.args.bytes.now r) _ _ _ _ c.least_first.ensures c.most_first.ensures c.in_ok-first.ensures)
    (move2 (λ l h. Stopped (DigitAt l h) r e) _ _ _ _ c.least_second.ensures c.most_second.ensures c.in_err-second.ensures))

pub returns-in_err-third : goal.returns-in_err-third
returns-in_err-third c =
    let e = c.in_err-third.field-0.0 in
    let r = c.in_ok-first.rest.now in
    let s = c.in_ok-second.rest.now in
    let is : c.from_residual-in_err-third.result ≡ Err e = search rules in
    stopped_result (λ found. Found (HalfAt c.args.low) found.0 c.args.bytes.now found.1.now) (λ e. Stopped (HalfAt c.args.low) c.args.bytes.now e) c.from_residual-in_err-third.result e is
    (half_stop3 c.args.low c.in_ok-first.first c.in_ok-second.second c.args.bytes.now r s e
    (move2 (λ l h. Found (DigitAt l h) c.in_ok-first.first c.args.bytes.now r) _ _ _ _ c.least_first.ensures c.most_first.ensures c.in_ok-first.ensures)
    (move2 (λ l h. Found (DigitAt l h) c.in_ok-second.second r s) _ _ _ _ c.least_second.ensures c.most_second.ensures c.in_ok-second.ensures)
    c.in_err-third.ensures)

pub returns-in_err-fourth : goal.returns-in_err-fourth
returns-in_err-fourth c =
    let e = c.in_err-fourth.field-0.0 in
    let r = c.in_ok-first.rest.now in
    let s = c.in_ok-second.rest.now in
    let is : c.from_residual-in_err-fourth.result ≡ Err e = search rules in
    stopped_result (λ found. Found (HalfAt c.args.low) found.0 c.args.bytes.now found.1.now) (λ e. Stopped (HalfAt c.args.low) c.args.bytes.now e) c.from_residual-in_err-fourth.result e is
    (half_stop4 c.args.low c.in_ok-first.first c.in_ok-second.second c.in_ok-third.third c.args.bytes.now r s c.in_ok-third.rest.now e
    (move2 (λ l h. Found (DigitAt l h) c.in_ok-first.first c.args.bytes.now r) _ _ _ _ c.least_first.ensures c.most_first.ensures c.in_ok-first.ensures)
    (move2 (λ l h. Found (DigitAt l h) c.in_ok-second.second r s) _ _ _ _ c.least_second.ensures c.most_second.ensures c.in_ok-second.ensures)
    c.in_ok-third.ensures c.in_err-fourth.ensures)

pub returns : goal.returns
returns c =
    let r = c.in_ok-first.rest.now in
    let s = c.in_ok-second.rest.now in
    half_found c.args.low c.in_ok-first.first c.in_ok-second.second c.in_ok-third.third c.in_ok-fourth.fourth c.args.bytes.now r s c.in_ok-third.rest.now c.in_ok-fourth.rest.now
    (move2 (λ l h. Found (DigitAt l h) c.in_ok-first.first c.args.bytes.now r) _ _ _ _ c.least_first.ensures c.most_first.ensures c.in_ok-first.ensures)
    (move2 (λ l h. Found (DigitAt l h) c.in_ok-second.second r s) _ _ _ _ c.least_second.ensures c.most_second.ensures c.in_ok-second.ensures)
    c.in_ok-third.ensures c.in_ok-fourth.ensures
