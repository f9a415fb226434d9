use Rattle.std.proofs.Common.{◌+◌}
use Rattle.parse_program.proofs.reading.+fn-read-below+read.Given as goal

abbrev pub decreases-below : goal.decreases-below
decreases-below l = l.less + l.less + 1

abbrev pub decreases-read : goal.decreases-read
decreases-read l = l.depth + l.depth
