use Rattle.std.proofs.Common.{rules, ◌≡◌, Err}
use Rattle.data_text.specs.Json.{KeyAt}
use Rattle.data_text.specs.Reading.{Found, Stopped}
use Rattle.data_text.proofs.Chains.{stopped_result}
use Rattle.data_text.proofs.Letters.{key_stop1, key_stop2, key_stop3, key_found}
use Rattle.data_text.proofs.strings.key.Goals as goal

pub returns-in_err-rest : goal.returns-in_err-rest
returns-in_err-rest c =
    let e = c.in_err-rest.field-0.0 in
    let is : c.from_residual.result ≡ Err e = search rules in
    stopped_result (λ found. Found KeyAt found.0 c.args.bytes.now found.1.now) (λ e. Stopped KeyAt c.args.bytes.now e) c.from_residual.result e is (key_stop1 c.args.bytes.now e c.in_err-rest.ensures)

pub returns-in_err-text : goal.returns-in_err-text
returns-in_err-text c =
    let e = c.in_err-text.field-0.0 in
    let is : c.from_residual-in_err-text.result ≡ Err e = search rules in
    stopped_result (λ found. Found KeyAt found.0 c.args.bytes.now found.1.now) (λ e. Stopped KeyAt c.args.bytes.now e) c.from_residual-in_err-text.result e is
    (key_stop2 c.args.bytes.now c.in_ok-rest.rest.now e c.in_ok-rest.ensures c.in_err-text.ensures)

pub returns-in_err-rest-2 : goal.returns-in_err-rest-2
returns-in_err-rest-2 c =
    let e = c.in_err-rest-2.field-0.0 in
    let is : c.from_residual-in_err-rest-2.result ≡ Err e = search rules in
    stopped_result (λ found. Found KeyAt found.0 c.args.bytes.now found.1.now) (λ e. Stopped KeyAt c.args.bytes.now e) c.from_residual-in_err-rest-2.result e is
    (key_stop3 c.in_ok-text.text c.args.bytes.now c.in_ok-rest.rest.now c.in_ok-text.rest.now e c.in_ok-rest.ensures c.in_ok-text.ensures c.in_err-rest-2.ensures)

pub returns : goal.returns
returns c =
    key_found c.in_ok-text.text c.args.bytes.now c.in_ok-rest.rest.now c.in_ok-text.rest.now c.in_ok-rest-2.rest.now c.in_ok-rest.ensures c.in_ok-text.ensures c.in_ok-rest-2.ensures
