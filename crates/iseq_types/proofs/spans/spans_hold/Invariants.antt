use Rattle.std.proofs.Common.{All, length}
use Rattle.std.specs.Prelude.{◌↔◌}
use Rattle.iseq_types.specs.Spans.{IsWithin, HoldsOver}
use Rattle.iseq_types.proofs.spans.spans_hold.Given as goal

abbrev pub invariant-halving : goal.invariant-halving
invariant-halving l = record {
  within : All (IsWithin (length l.rooms.items)) l.spans.items;
  same : All (HoldsOver l.fn.rooms.items) l.fn.spans.items ↔ All (HoldsOver l.rooms.items) l.spans.items;
}

abbrev pub decreases-halving : goal.decreases-halving
decreases-halving l = length l.rooms.items
