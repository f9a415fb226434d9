use Rattle.std.proofs.Common.{◌<◌, length, List, ap, refl, arith}
use Rattle.std.proofs.lemmas.Option.{slice_get_within}
use Rattle.iseq_types.specs.declared.sequences.Line.{Line}
use Rattle.iseq_types.proofs.Throwing.{same_furthest, furthest_here, throws_more, throw_is_right}
use Rattle.iseq_types.proofs.throws.throws_are_right.Goals as goal

pub returns-then-not-is_right_throw : goal.returns-then-not-is_right_throw
returns-then-not-is_right_throw c =
    let seq = c.args.seq.now in
    let i = c.loop-place.place in
    let same = c.as_slice-code.ensures in
    let within : i < length seq.code = omega (arith, c.loop-place-test.true, ap (λ (l : List Line). length l) same) in
    let ends = same_furthest seq.rows c.as_slice.result.now seq.code c.as_slice-code.result.now c.in_ok-ends.ends.items c.as_slice.ensures same c.in_ok-ends.ensures in
    let far = furthest_here seq c.in_ok-ends.ends.items i c.loop-place.furthest c.max-furthest.result c.index.result.now within ends c.loop-place.invariant.furthest c.index.ensures c.max-furthest.ensures in
    (λ f. absurd (cc f), λ each. c.if-not-is_right_throw.ensures.1 (throw_is_right seq c.args.kind c.as_slice-code.result.now i c.max-furthest.result c.index-code-place.result same within far each))

pub loop-place-preserved : goal.loop-place-preserved
loop-place-preserved c =
    let seq = c.args.seq.now in
    let i = c.loop-place.place in
    let same = c.as_slice-code.ensures in
    let within : i < length seq.code = omega (arith, c.loop-place-test.true, ap (λ (l : List Line). length l) same) in
    let ends = same_furthest seq.rows c.as_slice.result.now seq.code c.as_slice-code.result.now c.in_ok-ends.ends.items c.as_slice.ensures same c.in_ok-ends.ensures in
    let far = furthest_here seq c.in_ok-ends.ends.items i c.loop-place.furthest c.max-furthest.result c.index.result.now within ends c.loop-place.invariant.furthest c.index.ensures c.max-furthest.ensures in
    record {
      furthest = far;
      right = throws_more seq c.args.kind c.as_slice-code.result.now i c.max-furthest.result c.index-code-place.result same within far (c.if-not-is_right_throw.ensures.0 refl) c.loop-place.invariant.right;
    }

pub returns : goal.returns
returns c =
    (λ yes place n line at is. c.loop-place.invariant.right place n line (let l = slice_get_within c.args.seq.now.code place line at in omega (arith, l, ap (λ (l : List Line). length l) c.as_slice-code.ensures, c.loop-place-test.false)) at is, λ each. refl)
