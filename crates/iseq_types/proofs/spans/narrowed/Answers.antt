use Rattle.std.proofs.Common.{◌+◌, Vec, Global, take, List, ap, sym, subst, refl}
use Rattle.iseq_types.specs.declared.spans.Span.{Span}
use Rattle.iseq_types.specs.Spans.{Narrows}
use Rattle.iseq_types.proofs.Narrowing.{Narrows-more, Narrows-same}
use Rattle.iseq_types.proofs.spans.narrowed.Goals as goal
use Rattle.iseq_types.proofs.spans.narrowed.Goals.{then-next+in_ok-push, else-next}

pub loop-span-preserved : goal.loop-span-preserved
loop-span-preserved c =
    let d : Span = record { from = 0; to = 0; floor = 0 } in
    let rooms = c.args.rooms.now in
    let spans = c.args.spans.now in
    let i = c.loop-span.span-index in
    let within = c.requires i d c.loop-span-test.true in
    let ends = c.if-not-ends_hold.ensures.0 refl in
    let Goal : List Span → Type 0 = λ inner. Narrows rooms (take (i + 1) spans) inner in
    elim c.if-next.branch [
      | then-next+in_ok-push w ↦
          subst Goal (sym (ap (λ (v : Vec Span Global). v.items) w.inner-is)) (Narrows-more rooms spans c.loop-span.inner.items w.push.new.self.items i d c.whole_pairs-next.result c.loop-span-test.true within ends c.whole_pairs-next.ensures w.if-next.true w.in_ok-push.ensures.items c.loop-span.invariant)
      | else-next w ↦
          subst Goal (sym (ap (λ (v : Vec Span Global). v.items) w.inner-is)) (Narrows-same rooms spans c.loop-span.inner.items i d c.whole_pairs-next.result c.loop-span-test.true within ends c.whole_pairs-next.ensures w.if-next.false c.loop-span.invariant)
    ]
