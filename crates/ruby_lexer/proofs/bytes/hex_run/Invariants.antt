use Rattle.std.proofs.Common.{◌≡◌, ◌+◌, length}
use Rattle.ruby_lexer.specs.Bytes.{run}
use Rattle.ruby_lexer.specs.Numbers.{is_hex}
use Rattle.ruby_lexer.proofs.bytes.hex_run.Given as goal

abbrev pub invariant-loop-left : goal.invariant-loop-left
invariant-loop-left l = (l.count + run is_hex l.left ≡ run is_hex l.text) × (l.count + length l.left ≡ length l.text)

abbrev pub decreases-loop-left : goal.decreases-loop-left
decreases-loop-left l = length l.left
