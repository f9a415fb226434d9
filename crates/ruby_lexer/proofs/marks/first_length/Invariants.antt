use Rattle.std.proofs.Common.{◌≡◌, length, map}
use Rattle.ruby_lexer.specs.Marks.{first_length}
use Rattle.ruby_lexer.proofs.marks.first_length.Given as goal

abbrev pub invariant-loop-left : goal.invariant-loop-left
invariant-loop-left l = first_length l.text (map (λ m. m.now) l.table) ≡ first_length l.text (map (λ m. m.now) l.left)

abbrev pub decreases-loop-left : goal.decreases-loop-left
decreases-loop-left l = length l.left
