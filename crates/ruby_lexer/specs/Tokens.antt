-- The tokens of a text, and the line of its fault where it has none.
use Rattle.std.specs.Prelude.{◌≡◌, ◌≢◌, ℕ, suc, ◌≤◌, ◌<◌, [], ◌∷◌, length, take, drop, Bool, true, nat_eq, ◌&&◌, ◌||◌, if◌then◌else◌, codes, Option, MatchOption}
use Rattle.std.specs.Str.{IsUtf8, IsValidUpTo}
use Rattle.ruby_lexer.specs.declared.state.State.{State}
use Rattle.ruby_lexer.specs.Bytes.{Bytes, starts, begins_with}
use Rattle.ruby_lexer.specs.Forms.{newlines, line_of}
use Rattle.ruby_lexer.specs.Pieces.{Toks}
use Rattle.ruby_lexer.specs.Cut.{Cuts, at_start, cutter, TokenPrefix}

-- a line of exactly these seven bytes begins here
abbrev pub is_end_line : Bytes → Bool
is_end_line w = starts (codes "__END__") w && (nat_eq (length w) 7 || begins_with 10 (drop 7 w))

-- How many bytes stand before the first line `__END__`; whether a line begins at the first of them comes first.
abbrev pub end_length : Bool → Bytes → ℕ
end_length fresh [] = 0
end_length fresh (b ∷ w) = if fresh && is_end_line (b ∷ w) then 0 else suc (end_length (nat_eq b 10) w)

-- the text up to that line
unfoldable pub before_end : Bytes → Bytes
before_end w = take (end_length true w) w

-- a text is UTF-8 of at most 4,194,304 bytes
pub record IsText (bytes : Bytes) : Type 0 where
  pub short : length bytes ≤ 4194304
  pub utf8 : IsUtf8 bytes

-- code in literals nests at most 200 deep
abbrev pub ReadTokenPrefix : Bytes → Type 0
ReadTokenPrefix bytes = TokenPrefix (before_end bytes) (cutter (before_end bytes) 200)

-- the tokens of the text
pub record AreTokens (bytes : Bytes) (ts : Toks) : Type 0 where
  pub is_text : IsText bytes
  pub state : State
  pub cuts : Cuts (before_end bytes) (cutter (before_end bytes) 200) at_start (before_end bytes) ts state []

-- The line of the fault of a text that has no tokens.
pub data FaultLine (bytes : Bytes) : ℕ → Type 0 where
  long : 4194304 < length bytes → FaultLine bytes 1
  -- the line of the first byte that belongs to no character
  no_utf8 : {n : ℕ} → length bytes ≤ 4194304 → (IsUtf8 bytes → ⊥) → IsValidUpTo bytes n → FaultLine bytes (suc (newlines (take n bytes)))
  -- the line of the first place at which no blank, comment or token begins
  stops : IsText bytes → (f : ReadTokenPrefix bytes) → f.rest ≢ [] → FaultLine bytes (line_of (before_end bytes) f.rest)

-- A front of the text and where it ends: its line, if it does not end at the end of the text.
pub record IsFront (bytes : Bytes) (ts : Toks) (fault : Option ℕ) : Type 0 where
  pub is_text : IsText bytes
  pub front : ReadTokenPrefix bytes
  pub tokens_are : ts ≡ front.tokens
  pub ends_at : MatchOption fault (front.rest ≡ []) (λ line. (front.rest ≢ []) × (line ≡ line_of (before_end bytes) front.rest))

-- it has no tokens, and that is the line of its fault
pub record HasNoTokens (bytes : Bytes) (line : ℕ) : Type 0 where
  pub none : (ts : Toks) → AreTokens bytes ts → ⊥
  pub fault : FaultLine bytes line
