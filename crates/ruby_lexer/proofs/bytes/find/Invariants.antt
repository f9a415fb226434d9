use Rattle.std.proofs.Common.{◌≡◌, ◌+◌, drop, length}
use Rattle.ruby_lexer.specs.Bytes.{from_first}
use Rattle.ruby_lexer.proofs.bytes.find.Given as goal

abbrev pub invariant-loop-left : goal.invariant-loop-left
invariant-loop-left l = (from_first l.part l.left ≡ from_first l.part l.text) × (drop l.place l.text ≡ l.left) × (l.place + length l.left ≡ length l.text)

abbrev pub decreases-loop-left : goal.decreases-loop-left
decreases-loop-left l = length l.left
