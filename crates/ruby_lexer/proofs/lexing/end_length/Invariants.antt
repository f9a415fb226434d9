use Rattle.std.proofs.Common.{◌≡◌, ◌+◌, true, length}
use Rattle.ruby_lexer.specs.Tokens.{end_length}
use Rattle.ruby_lexer.proofs.lexing.end_length.Given as goal

abbrev pub invariant-loop-left : goal.invariant-loop-left
invariant-loop-left l = (l.count + end_length l.fresh l.left ≡ end_length true l.text) × (l.count + length l.left ≡ length l.text)

abbrev pub decreases-loop-left : goal.decreases-loop-left
decreases-loop-left l = length l.left
