use Rattle.std.proofs.Common.{rules, ◌≡◌, Err, subst, sym}
use Rattle.msgpack_codec.specs.Reading.{Stopped}
use Rattle.msgpack_codec.specs.Values.{ScalarAt}
use Rattle.msgpack_codec.proofs.Chains.{stopped_result}
use Rattle.msgpack_codec.proofs.Texts.{str_stop}
use Rattle.msgpack_codec.proofs.decoding.scalar_body.Goals as goal

pub returns-in_err-text-in-Str : goal.returns-in_err-text-in-Str
returns-in_err-text-in-Str c =
    let e = c.in_err-text-in-Str.field-0.0 in
    let is : c.from_residual.result ≡ Err e = search rules in
    stopped_result (ScalarAt c.args.head) c.args.bytes.now c.from_residual.result e is
    (subst (λ h. Stopped (ScalarAt h) c.args.bytes.now e) (sym c.in-Str.is) (str_stop c.in-Str.length c.args.bytes.now e c.in_err-text-in-Str.ensures))
