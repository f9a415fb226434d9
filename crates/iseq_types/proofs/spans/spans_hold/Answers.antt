use Rattle.std.proofs.Common.{◌<◌, length, arith}
use Rattle.std.proofs.lemmas.Grind.{common_steps}
use Rattle.iseq_types.specs.Spans.{Narrows}
use Rattle.iseq_types.proofs.Narrowing.{turn_from}
use Rattle.iseq_types.proofs.spans.spans_hold.Goals as goal

pub halving-smaller : goal.halving-smaller
halving-smaller c =
    let n : Narrows c.deref.result.now c.deref-in-halving.result.now c.in-Some.inner.items = rw c.in-Some.is at c.in_ok-inner.ensures.narrows in
    let t = turn_from c.halving.rooms.items c.deref.result.now c.deref-in-halving-2.result.now c.in_ok-rooms.rooms.items c.halving.spans.items c.deref-in-halving.result.now c.in-Some.inner.items c.deref.ensures.value c.deref-in-halving.ensures.value c.deref-in-halving-2.ensures.value n c.in_ok-rooms.ensures in
    let some : 0 < length c.halving.spans.items = grind (arith, common_steps) in
    t.fewer some c.halving.invariant.within

pub halving-preserved : goal.halving-preserved
halving-preserved c =
    let n : Narrows c.deref.result.now c.deref-in-halving.result.now c.in-Some.inner.items = rw c.in-Some.is at c.in_ok-inner.ensures.narrows in
    let t = turn_from c.halving.rooms.items c.deref.result.now c.deref-in-halving-2.result.now c.in_ok-rooms.rooms.items c.halving.spans.items c.deref-in-halving.result.now c.in-Some.inner.items c.deref.ensures.value c.deref-in-halving.ensures.value c.deref-in-halving-2.ensures.value n c.in_ok-rooms.ensures in
    record {
      within = t.within;
      same = (λ all. t.same.0 (c.halving.invariant.same.0 all), λ all. c.halving.invariant.same.1 (t.same.1 all));
    }
