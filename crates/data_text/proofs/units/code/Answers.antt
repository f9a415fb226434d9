use Rattle.std.proofs.Common.{rules, ◌≡◌, Err, sym}
use Rattle.data_text.specs.Json.{CodeAt}
use Rattle.data_text.specs.Reading.{Found, Stopped}
use Rattle.data_text.proofs.Chains.{stopped_result}
use Rattle.data_text.proofs.Halves.{code_stop1, code_single, code_stop2, code_stop3, code_found}
use Rattle.data_text.proofs.units.code.Goals as goal

pub returns-in_err-high : goal.returns-in_err-high
returns-in_err-high c =
    let e = c.in_err-high.field-0.0 in
    let is : c.from_residual.result ≡ Err e = search rules in
    stopped_result (λ found. Found CodeAt found.0 c.args.bytes.now found.1.now) (λ e. Stopped CodeAt c.args.bytes.now e) c.from_residual.result e is (code_stop1 c.args.bytes.now e c.in_err-high.ensures)

pub returns-then-not-is_high : goal.returns-then-not-is_high
returns-then-not-is_high c = code_single c.in_ok-high.high c.args.bytes.now c.in_ok-high.rest.now (sym c.if-not-is_high.ensures) c.in_ok-high.ensures

pub returns-in_err-rest : goal.returns-in_err-rest
returns-in_err-rest c =
    let e = c.in_err-rest.field-0.0 in
    let is : c.from_residual-in_err-rest.result ≡ Err e = search rules in
    stopped_result (λ found. Found CodeAt found.0 c.args.bytes.now found.1.now) (λ e. Stopped CodeAt c.args.bytes.now e) c.from_residual-in_err-rest.result e is
    (code_stop2 c.in_ok-high.high c.args.bytes.now c.in_ok-high.rest.now e (sym c.if-not-is_high.ensures) c.in_ok-high.ensures c.in_err-rest.ensures)

pub returns-in_err-low : goal.returns-in_err-low
returns-in_err-low c =
    let e = c.in_err-low.field-0.0 in
    let is : c.from_residual-in_err-low.result ≡ Err e = search rules in
    stopped_result (λ found. Found CodeAt found.0 c.args.bytes.now found.1.now) (λ e. Stopped CodeAt c.args.bytes.now e) c.from_residual-in_err-low.result e is
    (code_stop3 c.in_ok-high.high c.args.bytes.now c.in_ok-high.rest.now c.in_ok-rest.rest.now e (sym c.if-not-is_high.ensures) c.in_ok-high.ensures c.in_ok-rest.ensures c.in_err-low.ensures)

pub returns : goal.returns
returns c =
    code_found c.in_ok-high.high c.in_ok-low.low c.args.bytes.now c.in_ok-high.rest.now c.in_ok-rest.rest.now c.in_ok-low.rest.now (sym c.if-not-is_high.ensures) c.in_ok-high.ensures c.in_ok-rest.ensures c.in_ok-low.ensures
