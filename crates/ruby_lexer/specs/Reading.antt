-- What the calls that read a text gave.
use Rattle.std.specs.Prelude.{◌≡◌, ◌≢◌, ℕ, suc, [], length, Option, MatchOption}
use Rattle.ruby_lexer.specs.declared.lexing.LexError.{LexError}
use Rattle.ruby_lexer.specs.declared.lexing.LexError.TheVariants.{Fault, NoMemory}
use Rattle.ruby_lexer.specs.Bytes.{Bytes}
use Rattle.ruby_lexer.specs.Pieces.{Toks}
use Rattle.ruby_lexer.specs.Forms.{line_of}
use Rattle.ruby_lexer.specs.Cut.{at_start}
use Rattle.ruby_lexer.specs.Scan.{coder, scan_all}
use Rattle.ruby_lexer.specs.Tokens.{IsText, HasNoTokens}

-- the reader's tokens, and the line of the place where it ends
pub record AllRead (text : Bytes) (ts : Toks) (fault : Option ℕ) : Type 0 where
  pub rest : Bytes
  pub is : scan_all text (coder text 200) (suc (length text)) at_start text ≡ (ts, rest)
  pub ends_at : MatchOption fault (rest ≡ []) (λ line. (rest ≢ []) × (line ≡ line_of text rest))

-- the text has no tokens, with the line; or memory ran out
abbrev pub FaultsWith : Bytes → LexError → Type 0
FaultsWith bytes (Fault fault) = HasNoTokens bytes fault.line
FaultsWith bytes NoMemory = Unit {0}

-- the bytes are a text; or they are none, with the line of the fault
abbrev pub TextFaults : Bytes → Option ℕ → Type 0
TextFaults bytes fault = MatchOption fault (IsText bytes) (λ line. (IsText bytes → ⊥) × HasNoTokens bytes line)
