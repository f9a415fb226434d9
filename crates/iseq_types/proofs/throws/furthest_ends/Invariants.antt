use Rattle.std.proofs.Common.{take}
use Rattle.iseq_types.specs.Furthest.{AreFurthest}
use Rattle.iseq_types.proofs.throws.furthest_ends.Given as goal

abbrev pub invariant-loop-row : goal.invariant-loop-row
invariant-loop-row l = AreFurthest (take l.row-index l.rows) l.places l.ends.items
