-- Names, keywords, labels and variables.
use Rattle.std.specs.Prelude.{ℕ, suc, ◌+◌, List, [], ◌∷◌, drop, take, Bool, false, nat_eq, ◌&&◌, ◌||◌, not, if◌then◌else◌, Option, Some, None, codes}
use Rattle.ruby_lexer.specs.declared.state.WordContext.{WordContext}
use Rattle.ruby_lexer.specs.declared.state.WordContext.TheVariants.{Plain, Dot, Def}
use Rattle.ruby_lexer.specs.Bytes.{Bytes, is_small, is_capital, is_letter, is_word, begins, begins_with, run, same, is_in}
use Rattle.ruby_lexer.specs.Pieces.{Kind, name, constant, variable, global, keyword, label, ends, plain, Piece, token}

-- `?` or `!` stands here, and no `=` behind it
abbrev pub ends_name : Bytes → Bool
ends_name [] = false
ends_name (b ∷ w) = (nat_eq b 63 || nat_eq b 33) && not (begins_with 61 w)

-- how many bytes of a name follow its first letter: letters, digits and `_`, then one `?` or `!` that stands before no `=`
abbrev pub tail_length : Bytes → ℕ
tail_length w = run is_word w + (if ends_name (drop (run is_word w) w) then 1 else 0)

-- the name whose first letter stands here, and what follows it
abbrev pub name_of : Bytes → Bytes
name_of w = take (suc (tail_length (drop 1 w))) w

abbrev pub after_name : Bytes → Bytes
after_name w = drop (tail_length (drop 1 w)) (drop 1 w)

-- the reserved words
abbrev pub keywords : List Bytes
keywords =
    codes "and" ∷ codes "begin" ∷ codes "break" ∷ codes "case" ∷ codes "class" ∷ codes "def" ∷ codes "do" ∷ codes "else" ∷ codes "elsif" ∷ codes "end" ∷ codes "ensure" ∷ codes "false" ∷ codes "if" ∷ codes "module" ∷ codes "next" ∷ codes "nil" ∷ codes "not" ∷ codes "or" ∷ codes "rescue" ∷ codes "retry" ∷ codes "return" ∷ codes "self" ∷ codes "super" ∷ codes "then" ∷ codes "true" ∷ codes "unless" ∷ codes "until" ∷ codes "when" ∷ codes "while" ∷ codes "yield" ∷ codes "__FILE__" ∷ codes "__LINE__" ∷ codes "__dir__" ∷ []

-- the reserved words that stand for nothing here, so that no token begins where one would be a keyword
abbrev pub forbidden : List Bytes
forbidden =
    codes "for" ∷ codes "in" ∷ codes "alias" ∷ codes "undef" ∷ codes "redo" ∷ codes "BEGIN" ∷ codes "END" ∷ codes "defined?" ∷ codes "__ENCODING__" ∷ []

unfoldable pub is_forbidden : Bytes → Bool
is_forbidden f = is_in f forbidden

unfoldable pub is_reserved : Bytes → Bool
is_reserved f = is_in f keywords || is_in f forbidden

-- What the word f is before r. Behind `.`, `&.` or `def` a reserved word is a name, but `self` between `def` and `.`.
abbrev pub reserved_kind : WordContext → Bytes → Bytes → Option Kind
reserved_kind Plain f r = if is_forbidden f then None else Some keyword
reserved_kind Dot f r = Some name
reserved_kind Def f r = if same f (codes "self") && begins_with 46 r then Some keyword else Some name

abbrev pub word_kind : WordContext → Bytes → Bytes → Option Kind
word_kind before f r =
    if is_reserved f then reserved_kind before f r
    else if begins is_capital f then Some constant
    else Some name

abbrev pub with_rest : Bytes → Option Kind → Option (Piece × Bytes)
with_rest r None = None
with_rest r (Some k) = Some (token k, r)

-- a name, a constant or a keyword, whose first letter stands here
unfoldable pub word_at : WordContext → Bytes → Option (Piece × Bytes)
word_at before w = with_rest (after_name w) (word_kind before (name_of w) (after_name w))

-- one `:` stands here, and no second one
abbrev pub one_colon : Bytes → Bool
one_colon w = begins_with 58 w && not (begins_with 58 (drop 1 w))

-- a name and the `:` behind it
unfoldable pub label_at : Bytes → Option (Piece × Bytes)
label_at w = if one_colon (after_name w) then Some (token (label (plain (name_of w) ends)), drop 1 (after_name w)) else None

-- behind `@`: a name that begins with a small letter or `_`
unfoldable pub variable_at : Bytes → Option (Piece × Bytes)
variable_at w = if begins is_small w then Some (token variable, after_name w) else None

-- `0`, `:` and `"` make a global name with `$`
abbrev pub is_special : ℕ → Bool
is_special b = nat_eq b 48 || nat_eq b 58 || nat_eq b 34

-- behind `$`: a name, a constant, or one of the three
unfoldable pub global_at : Bytes → Option (Piece × Bytes)
global_at w =
    if begins is_letter w then Some (token global, after_name w)
    else if begins is_special w then Some (token global, drop 1 w)
    else None
