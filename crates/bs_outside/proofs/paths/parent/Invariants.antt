use Rattle.std.proofs.Common.{◌≤◌, length}
use Rattle.bs_outside.proofs.Segments.{NoSlashFrom}
use Rattle.bs_outside.proofs.paths.parent.Given as goal

abbrev pub invariant-loop-end : goal.invariant-loop-end
invariant-loop-end l = record { within : l.end ≤ length l.path; none : NoSlashFrom l.path l.end }

abbrev pub decreases-loop-end : goal.decreases-loop-end
decreases-loop-end l = l.end
