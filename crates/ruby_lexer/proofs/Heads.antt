-- The reader at the first byte.
use Rattle.std.proofs.Common.{◌≡◌, suc, ◌<◌, List, [], ◌∷◌, length, drop, get_or, true, false, refl, ◌∙◌, arith, Option, Some, None}
use Rattle.std.specs.Prelude.{option_map, is_some}
use Rattle.ruby_lexer.specs.declared.token.Part.{Part}
use Rattle.ruby_lexer.specs.Views.{Reads}
use Rattle.ruby_lexer.specs.Words.{with_rest}
use Rattle.ruby_lexer.specs.Settle.{symbol_with, symbol_of}
use Rattle.ruby_lexer.specs.declared.class.Class.{Class}
use Rattle.ruby_lexer.specs.declared.class.Class.TheVariants.{DoubleQuote, Colon, Single, Semicolon, LineEnd, Space}
use Rattle.ruby_lexer.specs.declared.state.State.{State}
use Rattle.ruby_lexer.specs.Bytes.{Bytes, begins_with}
use Rattle.ruby_lexer.specs.Classes.{class_of}
use Rattle.ruby_lexer.specs.Pieces.{Kind, mark, newline, Parts, Piece, blank, line_end, token, seen_parts}
use Rattle.ruby_lexer.specs.Forms.{text_of}
use Rattle.ruby_lexer.specs.Scan.{Coder, no_coder, ◌>>=◌, coder, first_of, first_byte, or_else, scan_inside, quoted_end, scan_quoted, symbol_end, scan_symbol, scan_special, scan_form, scan_piece}
use Rattle.ruby_lexer.proofs.Lists.{false_true}
use Rattle.ruby_lexer.proofs.Order.{Found}

or_none : (x : Found) → or_else x None ≡ x
or_none None = refl
or_none (Some x) = refl

pub piece_empty : (text : Bytes) (Q : Coder) (s : State) (w : Bytes) → length w ≡ 0 → scan_piece text Q s w ≡ None
unfolding scan_piece
piece_empty text Q s [] h = refl
piece_empty text Q s (b ∷ w) h = absurd (omega arith)

pub piece_quoted : (text : Bytes) (Q : Coder) (s : State) (w : Bytes) → 0 < length w → class_of (get_or w 0 0) ≡ DoubleQuote → scan_piece text Q s w ≡ scan_quoted Q (drop 1 w)
unfolding scan_piece scan_form
piece_quoted text Q s [] some h = absurd (omega arith)
piece_quoted text Q s (b ∷ w) some h = rw h (or_none (scan_quoted Q w))

pub piece_colon : (text : Bytes) (Q : Coder) (s : State) (w : Bytes) → 0 < length w → class_of (get_or w 0 0) ≡ Colon → scan_piece text Q s w ≡ or_else (scan_symbol (drop 1 w)) (first_of text s Colon w)
unfolding scan_piece scan_form
piece_colon text Q s [] some h = absurd (omega arith)
piece_colon text Q s (b ∷ w) some h = rw h

not_special : (Q : Coder) (c : Class) (w : Bytes) → (c ≡ DoubleQuote → ⊥) → (c ≡ Colon → ⊥) → scan_special Q c w ≡ None
not_special Q DoubleQuote w h g = absurd (h refl)
not_special Q Colon w h g = absurd (g refl)
not_special Q _ w h g = refl

pub piece_plain : (text : Bytes) (Q : Coder) (s : State) (c : Class) (w : Bytes) → 0 < length w → class_of (get_or w 0 0) ≡ c → (c ≡ DoubleQuote → ⊥) → (c ≡ Colon → ⊥) → scan_piece text Q s w ≡ first_of text s c w
unfolding scan_piece scan_form
piece_plain text Q s c [] some is h g = absurd (omega arith)
piece_plain text Q s c (b ∷ w) some is h g = rw (is, not_special Q c w h g)

pub quoted_found : (Q : Coder) (w : Bytes) (ps : Parts) (q : Bytes) → scan_inside Q (suc (length w)) w ≡ Some (ps, q) → scan_quoted Q w ≡ quoted_end ps q
unfolding scan_quoted ◌>>=◌
quoted_found Q w ps q e = rw e

pub quoted_none : (Q : Coder) (w : Bytes) → scan_inside Q (suc (length w)) w ≡ None → scan_quoted Q w ≡ None
unfolding scan_quoted ◌>>=◌
quoted_none Q w e = rw e

pub none_coder : (text : Bytes) → coder text 0 ≡ no_coder
unfolding coder
none_coder text = refl

pub symbol_found : (text w : Bytes) (ps : Parts) (q : Bytes) → begins_with 34 w ≡ true → scan_inside (coder text 0) (suc (length (drop 1 w))) (drop 1 w) ≡ Some (ps, q) → scan_symbol w ≡ symbol_end q (text_of ps)
unfolding scan_symbol ◌>>=◌ coder
symbol_found text w ps q h e = rw (h, e)

pub symbol_none : (text w : Bytes) → begins_with 34 w ≡ true → scan_inside (coder text 0) (suc (length (drop 1 w))) (drop 1 w) ≡ None → scan_symbol w ≡ None
unfolding scan_symbol ◌>>=◌ coder
symbol_none text w h e = rw (h, e)

pub symbol_no : (w : Bytes) → begins_with 34 w ≡ false → scan_symbol w ≡ None
unfolding scan_symbol
symbol_no w h = rw h

pub not_some : {A : Type 0} (o : Option A) → is_some o ≡ false → o ≡ None
not_some None h = refl
not_some (Some x) h = let e : true ≡ false = h in cc

pub else_some : {R : Type 0} (see : R → Piece) (x : Option R) (r : Bytes) (o y : Found) → is_some x ≡ true → Reads see x r o → Reads see x r (or_else o y)
else_some see None r o y h e = false_true h
else_some see (Some x) r o y h e = rw e

end_is : (r : Bytes) (o : Option Bytes) → symbol_end r o ≡ with_rest r (symbol_with o)
end_is r None = refl
end_is r (Some f) = refl

pub symbol_is : (text w : Bytes) (x : Option (List Part)) (r : Bytes) (k : Option Kind) → begins_with 34 w ≡ true → Reads seen_parts x r (scan_inside (coder text 0) (suc (length (drop 1 w))) (drop 1 w)) → k ≡ symbol_of (option_map seen_parts x) → scan_symbol w ≡ with_rest r k
symbol_is text w None r k h e is = rw is (symbol_none text w h e)
symbol_is text w (Some ps) r k h e is = rw is (symbol_found text w (seen_parts ps) r h e ∙ end_is r (text_of (seen_parts ps)))

-- the classes whose bytes are pieces by themselves
pub single_first : (text : Bytes) (s : State) (w : Bytes) → first_of text s Single w ≡ first_byte (token mark) w
single_first text s [] = refl
single_first text s (b ∷ w) = refl

pub semicolon_first : (text : Bytes) (s : State) (w : Bytes) → first_of text s Semicolon w ≡ first_byte (token newline) w
semicolon_first text s [] = refl
semicolon_first text s (b ∷ w) = refl

pub line_first : (text : Bytes) (s : State) (w : Bytes) → first_of text s LineEnd w ≡ first_byte line_end w
line_first text s [] = refl
line_first text s (b ∷ w) = refl

pub space_first : (text : Bytes) (s : State) (w : Bytes) → first_of text s Space w ≡ first_byte blank w
space_first text s [] = refl
space_first text s (b ∷ w) = refl
