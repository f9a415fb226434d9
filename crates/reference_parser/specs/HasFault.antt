-- The line of the fault of a text that has no tree.
use Rattle.std.specs.Prelude.{◌≡◌, ℕ, ◌≤◌, ◌<◌, Option, Some, None}
use Rattle.ruby_lexer.specs.Bytes.{Bytes}
use Rattle.ruby_lexer.specs.Pieces.{Toks}
use Rattle.ruby_lexer.specs.Tokens.{IsText, AreTokens, FaultLine, IsFront, before_end}
use Rattle.ruby_tree.specs.Tree.{SourcePosition, Tree}
use Rattle.ruby_tree.specs.Rules.{fresh, own}
use Rattle.ruby_tree.specs.Grammar.{Derives}
use Rattle.ruby_tree.specs.Depth.{depth}
use Rattle.ruby_tree.specs.Placement.{faults, at_home, file}
use Rattle.ruby_tree.specs.FaultLine.{StopsAt, IsFirst, last_line}
use Rattle.reference_parser.specs.Answers as answer
use Rattle.reference_parser.specs.ReadStatements.{readers}

-- the last line of the text, of which a line `__END__` and what follows are no part
abbrev pub text_end : Bytes → ℕ
text_end bytes = last_line (before_end bytes)

-- the line behind the last token: that of a place at which no token begins, or the last line
abbrev pub end_line : Bytes → Option ℕ → ℕ
end_line bytes None = text_end bytes
end_line bytes (Some line) = line

-- what a reader takes of the tokens that nests at most 200 constructs
abbrev pub read_open : Bytes → Toks → answer.Answer Tree
read_open bytes ts = (readers (before_end bytes) 200).stmts own ts fresh

-- The line of the fault of a text: what is no text, more than 200 open constructs, the grammar, the depth of the tree, and what stands where it
-- may not, in this order.
pub data HasFault (bytes : Bytes) : ℕ → Type 0 where
  no_text : {line : ℕ} → (IsText bytes → ⊥) → FaultLine bytes line → HasFault bytes line
  -- More than 200 constructs are open at one place, and the grammar behind it is not judged.
  deep_open : {ts : Toks} {stop : Option ℕ} → IsFront bytes ts stop → read_open bytes ts ≡ answer.deep → HasFault bytes (text_end bytes)
  -- Else the tokens end where no token begins, or they are not derived as statements.
  grammar : {ts : Toks} {stop : Option ℕ} {line : ℕ} → IsFront bytes ts stop → (read_open bytes ts ≡ answer.deep → ⊥) → (stop ≡ None → (t : Tree) → Derives (before_end bytes) ts t → ⊥) →
      StopsAt (before_end bytes) (end_line bytes stop) fresh ts line → HasFault bytes line
  deep : {ts : Toks} {t : Tree} → AreTokens bytes ts → Derives (before_end bytes) ts t → 200 < depth t → HasFault bytes (text_end bytes)
  placement : {ts : Toks} {t : Tree} {o : SourcePosition} → AreTokens bytes ts → Derives (before_end bytes) ts t → depth t ≤ 200 → IsFirst (faults (at_home file) t) o → HasFault bytes o.first
