use Rattle.std.proofs.Common.{take}
use Rattle.iseq_types.specs.Spans.{Narrows}
use Rattle.iseq_types.proofs.spans.narrowed.Given as goal

abbrev pub invariant-loop-span : goal.invariant-loop-span
invariant-loop-span l = Narrows l.rooms (take l.span-index l.spans) l.inner.items
