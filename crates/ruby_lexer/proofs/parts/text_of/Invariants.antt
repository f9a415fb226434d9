use Rattle.std.proofs.Common.{◌≡◌, length}
use Rattle.ruby_lexer.specs.Pieces.{seen_parts}
use Rattle.ruby_lexer.specs.Forms.{text_of, front_text}
use Rattle.ruby_lexer.proofs.parts.text_of.Given as goal

abbrev pub invariant-loop-left : goal.invariant-loop-left
invariant-loop-left l = text_of (seen_parts l.parts) ≡ front_text l.bytes.items (text_of (seen_parts l.left))

abbrev pub decreases-loop-left : goal.decreases-loop-left
decreases-loop-left l = length l.left
