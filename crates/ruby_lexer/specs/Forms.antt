-- The forms of pieces, and the longest one at a place.
use Rattle.std.specs.Prelude.{◌≡◌, ℕ, ◌-◌, ◌≤◌, suc, List, [], ◌∷◌, ◌++◌, length, drop, Bool, true, false, nat_eq, ◌&&◌, ◌||◌, if◌then◌else◌, Option, Some, None, ◌⊎◌, slice_index}
use Rattle.std.specs.Prelude.{count_by}
use Rattle.ruby_lexer.specs.declared.class.Class.{Class}
use Rattle.ruby_lexer.specs.declared.class.Class.TheVariants.{Digit, Letter, At, Dollar, SingleQuote, DoubleQuote, Colon, Percent, Equals, Sign, Operator, Single, Semicolon, LineEnd, Space, Return, Backslash, Hash, Other}
use Rattle.ruby_lexer.specs.declared.state.State.{State}
use Rattle.ruby_lexer.specs.Bytes.{Bytes, is_inline, begins_with, run}
use Rattle.ruby_lexer.specs.Classes.{class_of}
use Rattle.ruby_lexer.specs.Pieces.{mark, newline, label, literal, symbol, Parts, ends, plain, code, Toks, Piece, blank, comment, line_end, token}
use Rattle.ruby_lexer.specs.Words.{word_at, label_at, variable_at, global_at, one_colon}
use Rattle.ruby_lexer.specs.Numbers.{number_at}
use Rattle.ruby_lexer.specs.Marks.{marks_at, with_second, unary_name_at, colon_forms}
use Rattle.ruby_lexer.specs.Texts.{single_at, escape, list_at, block_comment_at}

-- the place in the text at which w is left
abbrev pub place : Bytes → Bytes → ℕ
place text w = length text - length w

-- whether a line begins there
abbrev pub is_fresh : Bytes → Bytes → Bool
is_fresh text w = nat_eq (place text w) 0 || nat_eq (slice_index text (place text w - 1)) 10

abbrev pub newlines : Bytes → ℕ
newlines w = count_by (λ b. nat_eq b 10) w

-- the line of the place at which w is left: one more than the newlines before it
abbrev pub line_of : Bytes → Bytes → ℕ
line_of text w = suc (newlines text) - newlines w

-- What cuts the code in a literal: the bytes behind `#{`, the tokens of the code, and the bytes from its `}` on.
abbrev pub Cutter : Type 1
Cutter = Bytes → Toks → Bytes → Type 0

-- a byte before the parts
abbrev pub add_byte : ℕ → Parts → Parts
add_byte b ends = plain (b ∷ []) ends
add_byte b (plain f ps) = plain (b ∷ f) ps
add_byte b (code ts ps) = plain (b ∷ []) (code ts ps)

abbrev pub add_bytes : Bytes → Parts → Parts
add_bytes [] ps = ps
add_bytes (b ∷ f) ps = add_byte b (add_bytes f ps)

-- `#{` stands at b, before w
abbrev pub opens_code : ℕ → Bytes → Bool
opens_code b w = nat_eq b 35 && begins_with 123 w

-- What stands in double quotes, up to the quote that ends it.
pub data Inside (C : Cutter) : Bytes → Parts → Bytes → Type 0 where
  closed : {b : ℕ} {w : Bytes} → nat_eq b 34 ≡ true → Inside C (b ∷ w) ends w
  escaped : {b : ℕ} {f w q r : Bytes} {ps : Parts} → nat_eq b 34 ≡ false → nat_eq b 92 ≡ true → escape w ≡ Some (f, q) → Inside C q ps r → Inside C (b ∷ w) (add_bytes f ps) r
  nested : {b : ℕ} {w q r : Bytes} {ts : Toks} {ps : Parts} → nat_eq b 34 ≡ false → nat_eq b 92 ≡ false → opens_code b w ≡ true → C (drop 1 w) ts q → Inside C (drop 1 q) ps r → Inside C (b ∷ w) (code ts ps) r
  byte : {b : ℕ} {w r : Bytes} {ps : Parts} → nat_eq b 34 ≡ false → nat_eq b 92 ≡ false → opens_code b w ≡ false → Inside C w ps r → Inside C (b ∷ w) (add_byte b ps) r

-- Behind a double quote: a literal, or a label where one `:` follows.
abbrev pub IsQuoted : Cutter → Bytes → Piece → Bytes → Type 0
IsQuoted C w k r = (ps : Parts) × (q : Bytes) × Inside C w ps q × (((k ≡ token (literal ps)) × (r ≡ q)) ⊎ ((one_colon q ≡ true) × (k ≡ token (label ps)) × (r ≡ drop 1 q)))

-- no code in a literal
abbrev pub NoCode : Cutter
NoCode w ts q = ⊥

abbrev pub front_text : Bytes → Option Bytes → Option Bytes
front_text f None = None
front_text f (Some g) = Some (f ++ g)

-- the bytes of a literal without code
abbrev pub text_of : Parts → Option Bytes
text_of ends = Some []
text_of (plain f ps) = front_text f (text_of ps)
text_of (code ts ps) = None

-- Behind `:"`: a text without code.
abbrev pub IsQuotedSymbol : Bytes → Piece → Bytes → Type 0
IsQuotedSymbol w k r = (begins_with 34 w ≡ true) × (ps : Parts) × (f : Bytes) × Inside NoCode (drop 1 w) ps r × (text_of ps ≡ Some f) × (k ≡ token (symbol f))

-- The forms that begin with a byte b of the class, before w; those with double quotes are the two above.
abbrev pub forms : Bytes → State → Class → ℕ → Bytes → List (Option (Piece × Bytes))
forms text s Digit b w = number_at b w ∷ []
forms text s Letter b w = label_at (b ∷ w) ∷ word_at s.before (b ∷ w) ∷ []
forms text s At b w = variable_at w ∷ []
forms text s Dollar b w = global_at w ∷ []
forms text s SingleQuote b w = single_at w ∷ []
forms text s DoubleQuote b w = []
forms text s Colon b w = colon_forms w
forms text s Percent b w = list_at w ∷ with_second 61 w
forms text s Equals b w = block_comment_at (is_fresh text (b ∷ w)) (b ∷ w) ∷ marks_at (b ∷ w)
forms text s Sign b w = unary_name_at s.before w ∷ with_second 61 w
forms text s Operator b w = marks_at (b ∷ w)
forms text s Single b w = Some (token mark, w) ∷ []
forms text s Semicolon b w = Some (token newline, w) ∷ []
forms text s LineEnd b w = Some (line_end, w) ∷ []
forms text s Space b w = Some (blank, w) ∷ []
forms text s Return b w = (if begins_with 10 w then Some (blank, w) else None) ∷ []
forms text s Backslash b w = (if begins_with 10 w then Some (blank, drop 1 w) else None) ∷ []
forms text s Hash b w = Some (comment, drop (run is_inline w) w) ∷ []
forms text s Other b w = []

abbrev pub OneOf : List (Option (Piece × Bytes)) → Piece → Bytes → Type 0
OneOf [] k r = ⊥
OneOf (x ∷ xs) k r = (x ≡ Some (k, r)) ⊎ OneOf xs k r

abbrev pub Quoted : Cutter → Class → Bytes → Piece → Bytes → Type 0
Quoted C DoubleQuote w k r = IsQuoted C w k r
Quoted C Colon w k r = IsQuotedSymbol w k r
Quoted C _ w k r = ⊥

-- a piece begins here, and leaves r
abbrev pub Begins : Bytes → Cutter → State → Bytes → Piece → Bytes → Type 0
Begins text C s [] k r = ⊥
Begins text C s (b ∷ w) k r = Quoted C (class_of b) w k r ⊎ OneOf (forms text s (class_of b) b w) k r

-- no longer piece of any form begins here
abbrev pub Longest : Bytes → Cutter → State → Bytes → Bytes → Type 0
Longest text C s w r = (k : Piece) (q : Bytes) → Begins text C s w k q → length r ≤ length q
