-- Literals without code, escapes, and lists of words.
use Rattle.std.specs.Prelude.{ℕ, ◌+◌, ◌*◌, List, [], ◌∷◌, ◌++◌, take, drop, Bool, false, nat_eq, nat_le, nat_lt, ◌&&◌, ◌||◌, not, if◌then◌else◌, Option, Some, None, codes, encode_utf8, slice_index}
use Rattle.ruby_lexer.specs.Bytes.{Bytes, is_digit, is_small, is_capital, is_inline, begins_with, run, starts, from_first, taken}
use Rattle.ruby_lexer.specs.Numbers.{digit_value, is_hex}
use Rattle.ruby_lexer.specs.Pieces.{Kind, Parts, ends, plain, literal, words, symbols, Piece, comment, token}

abbrev pub with_byte : ℕ → Option (Bytes × Bytes) → Option (Bytes × Bytes)
with_byte b None = None
with_byte b (Some p) = Some (b ∷ p.0, p.1)

-- the bytes f before a text
abbrev pub with_front : Bytes → Option (Bytes × Bytes) → Option (Bytes × Bytes)
with_front f None = None
with_front f (Some p) = Some (f ++ p.0, p.1)

-- a backslash before a backslash or a single quote
abbrev pub escapes_quote : ℕ → ℕ → Bool
escapes_quote b c = nat_eq b 92 && (nat_eq c 92 || nat_eq c 39)

-- The text up to the single quote that ends it, and what follows: a backslash before a backslash or a single quote makes that byte plain.
unfoldable pub single_text : Bytes → Option (Bytes × Bytes)
single_text [] = None
single_text (b ∷ []) = if nat_eq b 39 then Some ([], []) else None
single_text (b ∷ c ∷ w) =
    if nat_eq b 39 then Some ([], c ∷ w)
    else if escapes_quote b c then with_byte c (single_text w)
    else with_byte b (single_text (c ∷ w))

-- a part of the bytes, where there are any
abbrev pub plain_parts : Bytes → Parts → Parts
plain_parts [] ps = ps
plain_parts (b ∷ f) ps = plain (b ∷ f) ps

abbrev pub single_with_rest : Option (Bytes × Bytes) → Option (Piece × Bytes)
single_with_rest None = None
single_with_rest (Some p) = Some (token (literal (plain_parts p.0 ends)), p.1)

unfoldable pub single_at : Bytes → Option (Piece × Bytes)
single_at w = single_with_rest (single_text w)

-- the byte that a letter or a digit behind a backslash gives
abbrev pub escaped_byte : ℕ → Option ℕ
escaped_byte b =
    if nat_eq b 110 then Some 10
    else if nat_eq b 116 then Some 9
    else if nat_eq b 114 then Some 13
    else if nat_eq b 48 then Some 0
    else if nat_eq b 101 then Some 27
    else if nat_eq b 115 then Some 32
    else if nat_eq b 97 then Some 7
    else if nat_eq b 98 then Some 8
    else if nat_eq b 118 then Some 11
    else if nat_eq b 102 then Some 12
    else None

-- the number that hexadecimal digits spell, where it is below 1114112, the end of Unicode
abbrev pub scalar_value : ℕ → Bytes → Option ℕ
scalar_value v [] = Some v
scalar_value v (b ∷ p) = if nat_lt (v * 16 + digit_value b) 1114112 then scalar_value (v * 16 + digit_value b) p else None

abbrev pub encoded : Bytes → Option ℕ → Option (Bytes × Bytes)
encoded r None = None
encoded r (Some v) = if nat_le 55296 v && nat_le v 57343 then None else Some (encode_utf8 v, r)

-- behind `\u{`: hexadecimal digits and `}`
abbrev pub digits_to_brace : Bytes → Option (Bytes × Bytes)
digits_to_brace w =
    if nat_lt 0 (run is_hex w) && begins_with 125 (drop (run is_hex w) w)
    then encoded (drop 1 (drop (run is_hex w) w)) (scalar_value 0 (take (run is_hex w) w))
    else None

-- behind `\u`: four hexadecimal digits, or some in braces, of one scalar value
unfoldable pub unicode_escape : Bytes → Option (Bytes × Bytes)
unicode_escape w =
    if begins_with 123 w then digits_to_brace (drop 1 w)
    else if nat_le 4 (run is_hex w) then encoded (drop 4 w) (scalar_value 0 (take 4 w))
    else None

-- a letter or a digit
abbrev pub is_alphanumeric : ℕ → Bool
is_alphanumeric b = is_digit b || (is_small b && not (nat_eq b 95)) || is_capital b

abbrev pub byte_with_rest : Bytes → Option ℕ → Option (Bytes × Bytes)
byte_with_rest w None = None
byte_with_rest w (Some b) = Some (b ∷ [], w)

-- What a backslash gives, before w, and what follows. WordContext the end of a line it gives nothing, before what is no letter and no digit that byte.
unfoldable pub escape : Bytes → Option (Bytes × Bytes)
escape [] = None
escape (b ∷ w) =
    if nat_eq b 117 then unicode_escape w
    else if is_alphanumeric b then byte_with_rest w (escaped_byte b)
    else if nat_eq b 10 then Some ([], w)
    else Some (b ∷ [], w)

-- a blank or a newline between words: a carriage return or a backslash stands before the end of a line
abbrev pub is_gap : ℕ → Bytes → Bool
is_gap b w = nat_eq b 32 || nat_eq b 9 || nat_eq b 10 || ((nat_eq b 13 || nat_eq b 92) && begins_with 10 w)

abbrev pub word_list : Bytes × List Bytes → List Bytes
word_list ([], fs) = fs
word_list ((b ∷ f), fs) = (b ∷ f) ∷ fs

-- the word that goes on here, which may be empty, and the words behind it
abbrev pub cells : Bytes → Bytes × List Bytes
cells [] = ([], [])
cells (b ∷ w) = if is_gap b w then ([], word_list (cells w)) else (b ∷ (cells w).0, (cells w).1)

-- the kind of a list of words, by the letter behind `%`
abbrev pub list_kind : ℕ → List Bytes → Kind
list_kind b fs = if nat_eq b 119 then words fs else symbols fs

abbrev pub list_with_rest : ℕ → Bytes → Option Bytes → Option (Piece × Bytes)
list_with_rest b w None = None
list_with_rest b w (Some r) = Some (token (list_kind b (word_list (cells (taken w r)))), drop 1 r)

-- `w[` or `i[` stands here
abbrev pub opens_list : Bytes → Bool
opens_list [] = false
opens_list (b ∷ w) = (nat_eq b 119 || nat_eq b 105) && begins_with 91 w

-- behind `%`: `w[` or `i[`, and all up to the first `]`
unfoldable pub list_at : Bytes → Option (Piece × Bytes)
list_at w =
    if opens_list w then list_with_rest (slice_index w 0) (drop 2 w) (from_first (93 ∷ []) (drop 2 w))
    else None

-- what follows the line that begins here
abbrev pub after_line : Bytes → Bytes
after_line w = drop 1 (drop (run is_inline w) w)

abbrev pub comment_with_rest : Option Bytes → Option (Piece × Bytes)
comment_with_rest None = None
comment_with_rest (Some r) = Some (comment, after_line (drop 1 r))

-- At a line's first byte: `=begin`, up to the end of the next line whose first bytes are `=end`.
unfoldable pub block_comment_at : Bool → Bytes → Option (Piece × Bytes)
block_comment_at fresh w =
    if fresh && starts (codes "=begin") w then comment_with_rest (from_first (10 ∷ codes "=end") w) else None
