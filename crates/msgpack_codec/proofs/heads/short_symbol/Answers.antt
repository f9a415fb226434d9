use Rattle.msgpack_codec.proofs.Firsts.{short_short, bad_short}
use Rattle.std.proofs.Common.{◌<◌, ◌∙◌, sym, refl, arith, ◌∷◌, []}
use Rattle.msgpack_codec.proofs.heads.short_symbol.Goals as goal

pub returns-in_default : goal.returns-in_default
returns-in_default c = short_short c.args.bytes.now c.in_default.ensures.cases

pub returns-then-is_fixed : goal.returns-then-is_fixed
returns-then-is_fixed c = bad_short c.in-Some.first.now c.in-Some.rest.now c.args.bytes.now c.in-Some.ensures.cases.0 (sym c.is_fixed.ensures ∙ c.if-is_fixed.true)

pub returns : goal.returns
returns c =
    let small : c.in-Some.first.now < 256 = omega arith in
    record {
      spelling = c.in-Some.first.now ∷ [];
      spelled = (c.in-Some.first.now, small, sym c.is_fixed.ensures ∙ c.if-is_fixed.false, refl, refl);
      parts = c.in-Some.ensures.cases.0;
    }
