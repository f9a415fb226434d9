use Rattle.std.proofs.Common.{◌≡◌, ◌<◌, ◌^◌, length}
use Rattle.ruby_lexer.specs.Numbers.{digits}
use Rattle.ruby_lexer.proofs.numbers.digits.Given as goal

abbrev pub invariant-loop-left : goal.invariant-loop-left
invariant-loop-left l = (digits l.base l.fn.had l.fn.value l.text ≡ digits l.base l.had l.value l.left) × (l.value < 2 ^ 63)

abbrev pub decreases-loop-left : goal.decreases-loop-left
decreases-loop-left l = length l.left
