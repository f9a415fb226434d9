use Rattle.std.proofs.Common.{◌+◌, ◌*◌, length}
use Rattle.iseq_types.specs.Depths.{open_of}
use Rattle.iseq_types.proofs.Searching.{IsSearch}
use Rattle.iseq_types.proofs.depths.depths_of.Given as goal

abbrev pub invariant-waiting : goal.invariant-waiting
invariant-waiting l = IsSearch l.seq l.fn.kind l.depths

abbrev pub decreases-waiting : goal.decreases-waiting
decreases-waiting l = 2 * open_of l.depths.found + length l.depths.waiting
