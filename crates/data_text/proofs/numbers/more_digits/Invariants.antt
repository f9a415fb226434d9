use Rattle.std.proofs.Common.{length}
use Rattle.data_text.proofs.Digits.{Digits}
use Rattle.data_text.proofs.numbers.more_digits.Given as goal

abbrev pub invariant-loop-next : goal.invariant-loop-next
invariant-loop-next l = Digits l.limit l.first l.size l.bytes l.rest

abbrev pub decreases-loop-next : goal.decreases-loop-next
decreases-loop-next l = length l.rest
