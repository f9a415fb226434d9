use Rattle.std.proofs.Common.{◌≡◌, ◌+◌, length}
use Rattle.ruby_lexer.specs.Bytes.{is_word, run}
use Rattle.ruby_lexer.proofs.bytes.word_run.Given as goal

abbrev pub invariant-loop-left : goal.invariant-loop-left
invariant-loop-left l = (l.count + run is_word l.left ≡ run is_word l.text) × (l.count + length l.left ≡ length l.text)

abbrev pub decreases-loop-left : goal.decreases-loop-left
decreases-loop-left l = length l.left
