use Rattle.std.proofs.Common.{◌≡◌, length}
use Rattle.ruby_lexer.specs.Texts.{single_text, with_front}
use Rattle.ruby_lexer.proofs.cursor.Cursor.single_text.Given as goal

abbrev pub invariant-loop-self : goal.invariant-loop-self
invariant-loop-self l = (single_text l.fn.self.rest.now ≡ with_front l.bytes.items (single_text l.self.rest.now)) × (l.self.text.now ≡ l.fn.self.text.now)

abbrev pub decreases-loop-self : goal.decreases-loop-self
decreases-loop-self l = length l.self.rest.now
