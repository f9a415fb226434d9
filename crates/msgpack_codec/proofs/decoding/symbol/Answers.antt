use Rattle.std.proofs.Common.{rules, ◌≡◌, ◌∙◌, Err, ap, ◌∷◌}
use Rattle.msgpack_codec.specs.declared.heads.Head.TheVariants as head
use Rattle.msgpack_codec.specs.Values.{ScalarAt}
use Rattle.msgpack_codec.proofs.Chains.{stopped_result}
use Rattle.msgpack_codec.proofs.Texts.{short_sym, bad_sym, sym_stop, sym_found}
use Rattle.msgpack_codec.proofs.decoding.symbol.Goals as goal

pub returns-in_default : goal.returns-in_default
returns-in_default c = short_sym c.args.length c.args.bytes.now c.in_default.ensures.cases

pub returns-then-first-ne0 : goal.returns-then-first-ne0
returns-then-first-ne0 c = bad_sym c.args.length c.in-Some.first.now c.in-Some.rest.now c.args.bytes.now c.in-Some.ensures.cases.0 c.if-first-ne0.true

pub returns-in_err-name : goal.returns-in_err-name
returns-in_err-name c =
    let is : c.from_residual.result ≡ Err c.in_err-name.field-0.0 = search rules in
    stopped_result (ScalarAt (head.Sym c.args.length)) c.args.bytes.now c.from_residual.result c.in_err-name.field-0.0 is
    (sym_stop c.args.length c.args.bytes.now c.in-Some.rest.now (c.in-Some.ensures.cases.0 ∙ ap (λ b. b ∷ c.in-Some.rest.now) c.if-first-ne0.false) c.in_err-name.field-0.0 c.in_err-name.ensures)

pub returns : goal.returns
returns c = sym_found c.args.length c.in_ok-name.name c.args.bytes.now c.in-Some.rest.now c.in_ok-name.rest.now (c.in-Some.ensures.cases.0 ∙ ap (λ b. b ∷ c.in-Some.rest.now) c.if-first-ne0.false) c.in_ok-name.ensures
