use Rattle.std.proofs.Common.{◌+◌}
use Rattle.emit_sequence.proofs.below.+fn-write-writing_by+write.Given as goal

abbrev pub decreases-writing_by : goal.decreases-writing_by
decreases-writing_by l = l.less + l.less + 1

abbrev pub decreases-write : goal.decreases-write
decreases-write l = l.nested + l.nested
