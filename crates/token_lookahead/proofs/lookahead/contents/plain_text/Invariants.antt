use Rattle.std.proofs.Common.{◌≡◌, length}
use Rattle.ruby_lexer.specs.Forms.{text_of, front_text}
use Rattle.ruby_lexer.specs.Pieces.{seen_parts}
use Rattle.token_lookahead.proofs.lookahead.contents.plain_text.Given as goal

abbrev pub invariant-loop-left : goal.invariant-loop-left
invariant-loop-left l = front_text l.text.items (text_of (seen_parts l.left)) ≡ text_of (seen_parts l.parts)

abbrev pub decreases-loop-left : goal.decreases-loop-left
decreases-loop-left l = length l.left
