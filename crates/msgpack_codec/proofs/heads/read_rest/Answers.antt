use Rattle.std.proofs.Common.{rules, ◌≡◌, ℕ, List, Result, Err, Bor, MatchResult, subst, sym}
use Rattle.msgpack_codec.specs.declared.stop.Stop.{Stop}
use Rattle.msgpack_codec.specs.declared.heads.Head.{Head}
use Rattle.msgpack_codec.specs.Reading.{Found, Stopped}
use Rattle.msgpack_codec.specs.Heads.{Follows}
use Rattle.msgpack_codec.proofs.Firsts.{counted_stop}
use Rattle.msgpack_codec.proofs.heads.read_rest.Goals as goal

pub returns-in_err-number-in-Counted : goal.returns-in_err-number-in-Counted
returns-in_err-number-in-Counted c =
    let n = c.in-Counted in
    let e = c.in_err-number-in-Counted.field-0.0 in
    let is : c.from_residual.result ≡ Err e = search rules in
    let stop : Stopped (Follows c.args.form) c.args.bytes.now e =
    subst (λ f. Stopped (Follows f) c.args.bytes.now e) (sym n.is) (counted_stop n.kind n.size n.low n.high c.args.bytes.now e c.in_err-number-in-Counted.ensures) in
    subst (λ (r : Result (Head × Bor (List ℕ)) Stop). MatchResult r (λ found. Found (Follows c.args.form) found.0 c.args.bytes.now found.1.now) (λ e. Stopped (Follows c.args.form) c.args.bytes.now e)) (sym is) stop
