use Rattle.std.proofs.Common.{◌∙◌, ◌∷◌, ap, subst, sym}
use Rattle.msgpack_codec.specs.declared.heads.Head.TheVariants as head
use Rattle.msgpack_codec.specs.Message.{IsBytes}
use Rattle.msgpack_codec.specs.Values.{IsMissing}
use Rattle.msgpack_codec.proofs.Keys.{type_missing, name_missing}
use Rattle.msgpack_codec.proofs.Texts.{bytes_from}
use Rattle.msgpack_codec.proofs.live.missing_name.Goals as goal

pub returns-in_default : goal.returns-in_default
returns-in_default c = type_missing c.args.length c.args.rest.now c.in_default.ensures.cases

pub returns : goal.returns
returns c =
    let is = c.in-Some.ensures.cases.0 ∙ ap (λ b. b ∷ c.in-Some.name.now) c.if-first-ne0.false in
    let small = subst IsBytes is (bytes_from c.args.rest.now c.type_inv.rest) in
    subst (IsMissing (head.Sym c.args.length) c.args.rest.now) (sym c.missing_bytes.ensures) (name_missing c.args.length c.in-Some.name.now c.args.rest.now is small.1)
