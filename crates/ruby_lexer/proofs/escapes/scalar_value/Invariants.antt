use Rattle.std.proofs.Common.{◌≡◌, ◌<◌, length}
use Rattle.ruby_lexer.specs.Texts.{scalar_value}
use Rattle.ruby_lexer.proofs.escapes.scalar_value.Given as goal

abbrev pub invariant-loop-left : goal.invariant-loop-left
invariant-loop-left l = (scalar_value 0 l.digits ≡ scalar_value l.value l.left) × (l.value < 1114112)

abbrev pub decreases-loop-left : goal.decreases-loop-left
decreases-loop-left l = length l.left
