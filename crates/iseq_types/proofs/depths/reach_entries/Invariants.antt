use Rattle.std.proofs.Common.{take}
use Rattle.iseq_types.specs.Depths.{FindsEntries}
use Rattle.iseq_types.proofs.depths.reach_entries.Given as goal

abbrev pub invariant-loop-entry : goal.invariant-loop-entry
invariant-loop-entry l = FindsEntries l.seq (take l.entry-index l.entry-items) l.fn.depths l.depths
