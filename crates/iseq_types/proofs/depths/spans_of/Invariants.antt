use Rattle.std.proofs.Common.{◌≡◌, ◌<◌, ◌^◌, All, map, take}
use Rattle.iseq_types.specs.Depths.{span_of}
use Rattle.iseq_types.proofs.depths.spans_of.Given as goal

abbrev pub invariant-loop-row : goal.invariant-loop-row
invariant-loop-row l = record {
  spans : l.spans.items ≡ map span_of (take l.row-index l.rows);
  small : All (λ row. row.sp < 2 ^ 64) (take l.row-index l.rows);
}
