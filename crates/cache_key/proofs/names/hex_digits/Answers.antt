use Rattle.std.proofs.Common.{◌∙◌, sym, arith, length-set, refl}
use Rattle.std.proofs.lemmas.List.{take_all}
use Rattle.cache_key.specs.Key.{hex_of}
use Rattle.cache_key.proofs.NameLemmas.{digit_more, length-hex_of}
use Rattle.cache_key.proofs.names.hex_digits.Goals as goal

pub loop-place-preserved : goal.loop-place-preserved
loop-place-preserved c = record {
  long = length-set c.loop-place.digits c.loop-place.place c.hex_digit.result ∙ c.loop-place.invariant.long;
  so_far = digit_more c.loop-place.digits c.loop-place.place c.args.hash _ _ c.loop-place.invariant.long c.loop-place-test.true c.loop-place.invariant.so_far refl c.hex_digit.ensures;
}

pub returns : goal.returns
returns c =
    sym (take_all c.loop-place.place c.loop-place.digits (omega (arith, c.loop-place.invariant.long)))
    ∙ c.loop-place.invariant.so_far ∙ take_all c.loop-place.place (hex_of 16 c.args.hash) (omega (arith, length-hex_of 16 c.args.hash))
