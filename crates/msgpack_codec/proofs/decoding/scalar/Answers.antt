use Rattle.std.proofs.Common.{rules, ◌≡◌, Err, false}
use Rattle.msgpack_codec.specs.Heads.{HeadAt}
use Rattle.msgpack_codec.specs.Values.{ScalarAt, IsSpelledScalar}
use Rattle.msgpack_codec.proofs.Chains.{stopped_result, stop_first, chain_result}
use Rattle.msgpack_codec.proofs.Bodies.{scalar_chain}
use Rattle.msgpack_codec.proofs.decoding.scalar.Goals as goal

pub returns-in_err-head : goal.returns-in_err-head
returns-in_err-head c =
    let e = c.in_err-head.field-0.0 in
    let is : c.from_residual.result ≡ Err e = search rules in
    stopped_result IsSpelledScalar c.args.bytes.now c.from_residual.result e is
    (stop_first (HeadAt false) ScalarAt IsSpelledScalar (λ h v. v) scalar_chain c.args.bytes.now e c.in_err-head.ensures)

pub returns : goal.returns
returns c = chain_result (HeadAt false) ScalarAt IsSpelledScalar scalar_chain c.in_ok-head.head c.args.bytes.now c.in_ok-head.rest.now c.in_ok-head.ensures c.scalar_body.result c.scalar_body.ensures
