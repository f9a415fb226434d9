use Rattle.std.proofs.Common.{subst, sym, length, inl, inr}
use Rattle.msgpack_codec.specs.declared.heads.Head.{Head}
use Rattle.msgpack_codec.specs.declared.heads.Head.TheVariants as head
use Rattle.msgpack_codec.specs.Values.{IsMissing, missing_of}
use Rattle.msgpack_codec.proofs.Keys.{str_missing, nil_missing, bool_missing, int_missing}
use Rattle.msgpack_codec.proofs.Texts.{bytes_from}
use Rattle.msgpack_codec.proofs.live.missing_behind.Goals as goal

pub returns-in-Nil : goal.returns-in-Nil
returns-in-Nil c =
    let rest = c.args.rest.now in
    subst (IsMissing c.args.head rest) (sym c.missing_bytes.ensures)
    (elim c.in-Nil.is [
      | inl e ↦ subst (λ (h : Head). IsMissing h rest (missing_of 0 (length rest))) (sym e) (nil_missing rest)
      | inr (inl (b, e)) ↦ subst (λ (h : Head). IsMissing h rest (missing_of 0 (length rest))) (sym e) (bool_missing b rest)
      | inr (inr (n, e)) ↦ subst (λ (h : Head). IsMissing h rest (missing_of 0 (length rest))) (sym e) (int_missing n rest)
    ])

pub returns-in-Str : goal.returns-in-Str
returns-in-Str c =
    subst (λ h. IsMissing h c.args.rest.now c.missing_bytes-in-Str.result) (sym c.in-Str.is)
    (subst (IsMissing (head.Str c.in-Str.length) c.args.rest.now) (sym c.missing_bytes-in-Str.ensures) (str_missing c.in-Str.length c.args.rest.now (bytes_from c.args.rest.now c.type_inv.rest)))
