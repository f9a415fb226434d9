use Rattle.std.proofs.Common.{◌≡◌, length, map}
use Rattle.ruby_lexer.specs.Bytes.{is_in}
use Rattle.token_lookahead.proofs.lookahead.marks.is_in.Given as goal

abbrev pub invariant-loop-left : goal.invariant-loop-left
invariant-loop-left l = is_in l.word (map (λ m. m.now) l.left) ≡ is_in l.word (map (λ m. m.now) l.table)

abbrev pub decreases-loop-left : goal.decreases-loop-left
decreases-loop-left l = length l.left
