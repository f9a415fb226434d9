use Rattle.std.proofs.Common.{◌++◌}
use Rattle.iseq_dump.specs.Dump.{number_bytes}
use Rattle.iseq_dump.proofs.Numbers.{Continues}
use Rattle.iseq_dump.proofs.number.put_number.Given as goal

abbrev pub invariant-loop-left : goal.invariant-loop-left
invariant-loop-left l = Continues l.out.items l.left (l.fn.out.items ++ number_bytes l.fn.number)

abbrev pub decreases-loop-left : goal.decreases-loop-left
decreases-loop-left l = l.left
