use Rattle.std.proofs.Common.{take}
use Rattle.iseq_types.specs.Depths.{FindsRows}
use Rattle.iseq_types.proofs.depths.reach_rows.Given as goal

abbrev pub invariant-loop-row : goal.invariant-loop-row
invariant-loop-row l = FindsRows l.seq (take l.row-index l.row-items) l.fn.depths l.depths
