-- The reader of tokens, as functions on lists.
use Rattle.std.specs.Prelude.{ℕ, zero, suc, List, [], ◌∷◌, length, drop, Bool, nat_eq, ◌&&◌, if◌then◌else◌, Option, Some, None}
use Rattle.ruby_lexer.specs.declared.class.Class.{Class}
use Rattle.ruby_lexer.specs.declared.class.Class.TheVariants.{DoubleQuote, Colon}
use Rattle.ruby_lexer.specs.declared.state.State.{State}
use Rattle.ruby_lexer.specs.Bytes.{Bytes, begins_with, taken}
use Rattle.ruby_lexer.specs.Classes.{class_of}
use Rattle.ruby_lexer.specs.Pieces.{label, literal, symbol, Parts, ends, code, Toks, none, Piece, token}
use Rattle.ruby_lexer.specs.Words.{one_colon}
use Rattle.ruby_lexer.specs.Texts.{escape}
use Rattle.ruby_lexer.specs.Forms.{add_byte, add_bytes, opens_code, text_of, forms}
use Rattle.ruby_lexer.specs.Cut.{after, put, in_code}

infixl 10 ◌>>=◌
unfoldable pub ◌>>=◌ : {A B : Type 0} → Option A → (A → Option B) → Option B
(Some x) >>= f = f x
None >>= f = None

-- reads the code in a literal, up to the brace that ends it
abbrev pub Coder : Type 0
Coder = Bytes → Option (Toks × Bytes)

abbrev pub no_coder : Coder
no_coder w = None

-- what stands in double quotes
unfoldable pub scan_inside : Coder → ℕ → Bytes → Option (Parts × Bytes)
scan_inside Q zero w = None
scan_inside Q (suc m) [] = None
scan_inside Q (suc m) (b ∷ w) =
    if nat_eq b 34 then Some (ends, w)
    else if nat_eq b 92 then (escape w >>= λ e. scan_inside Q m e.1 >>= λ p. Some (add_bytes e.0 p.0, p.1))
    else if opens_code b w then (Q (drop 1 w) >>= λ c. scan_inside Q m (drop 1 c.1) >>= λ p. Some (code c.0 p.0, p.1))
    else (scan_inside Q m w >>= λ p. Some (add_byte b p.0, p.1))

abbrev pub quoted_end : Parts → Bytes → Option (Piece × Bytes)
quoted_end ps q = if one_colon q then Some (token (label ps), drop 1 q) else Some (token (literal ps), q)

unfoldable pub scan_quoted : Coder → Bytes → Option (Piece × Bytes)
scan_quoted Q w = scan_inside Q (suc (length w)) w >>= λ p. quoted_end p.0 p.1

abbrev pub symbol_end : Bytes → Option Bytes → Option (Piece × Bytes)
symbol_end q None = None
symbol_end q (Some f) = Some (token (symbol f), q)

unfoldable pub scan_symbol : Bytes → Option (Piece × Bytes)
scan_symbol w = if begins_with 34 w then (scan_inside no_coder (suc (length (drop 1 w))) (drop 1 w) >>= λ p. symbol_end p.1 (text_of p.0)) else None

abbrev pub scan_special : Coder → Class → Bytes → Option (Piece × Bytes)
scan_special Q DoubleQuote w = scan_quoted Q w
scan_special Q Colon w = scan_symbol w
scan_special Q _ w = None

abbrev pub or_else : Option (Piece × Bytes) → Option (Piece × Bytes) → Option (Piece × Bytes)
or_else None y = y
or_else (Some x) y = Some x

abbrev pub first_some : List (Option (Piece × Bytes)) → Option (Piece × Bytes)
first_some [] = None
first_some (x ∷ xs) = or_else x (first_some xs)

-- the longest of the forms of a class
abbrev pub first_of : Bytes → State → Class → Bytes → Option (Piece × Bytes)
first_of text s c [] = None
first_of text s c (b ∷ w) = first_some (forms text s c b w)

-- a form that is its first byte alone
abbrev pub first_byte : Piece → Bytes → Option (Piece × Bytes)
first_byte k [] = None
first_byte k (b ∷ w) = Some (k, w)

unfoldable pub scan_form : Bytes → Coder → State → Class → ℕ → Bytes → Option (Piece × Bytes)
scan_form text Q s c b w = or_else (scan_special Q c w) (first_some (forms text s c b w))

unfoldable pub scan_piece : Bytes → Coder → State → Bytes → Option (Piece × Bytes)
scan_piece text Q s [] = None
scan_piece text Q s (b ∷ w) = scan_form text Q s (class_of b) b w

-- whether the `}` that ends the code stands here
abbrev pub ends_code : State → Bytes → Bool
ends_code s w = begins_with 125 w && nat_eq s.braces 1

unfoldable pub scan_code : Bytes → Coder → ℕ → State → Bytes → Option (Toks × Bytes)
scan_code text Q zero s w = None
scan_code text Q (suc m) s w =
    if ends_code s w then Some (none, w)
    else (scan_piece text Q s w >>= λ k. scan_code text Q m (after s k.0 (taken w k.1)) k.1 >>= λ ts. Some (put text s k.0 w k.1 ts.0, ts.1))

unfoldable pub coder : Bytes → ℕ → Coder
coder text zero = λ w. None
coder text (suc n) = λ w. scan_code text (coder text n) (suc (length w)) in_code w

abbrev pub all_with : Option (Piece × Bytes) → Toks × Bytes → (Piece → Bytes → Toks × Bytes) → Toks × Bytes
all_with None end go = end
all_with (Some k) end go = go k.0 k.1

-- the tokens up to the end, or up to the first place where no piece begins
unfoldable pub scan_all : Bytes → Coder → ℕ → State → Bytes → Toks × Bytes
scan_all text Q zero s w = (none, w)
scan_all text Q (suc m) s w = all_with (scan_piece text Q s w) (none, w) (λ k q. (put text s k w q (scan_all text Q m (after s k (taken w q)) q).0, (scan_all text Q m (after s k (taken w q)) q).1))
