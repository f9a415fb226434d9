-- Operators, marks and symbols.
use Rattle.std.specs.Prelude.{ℕ, List, [], ◌∷◌, ◌++◌, length, take, drop, map, Bool, true, false, ◌&&◌, if◌then◌else◌, Option, Some, None, codes}
use Rattle.ruby_lexer.specs.declared.state.WordContext.{WordContext}
use Rattle.ruby_lexer.specs.declared.state.WordContext.TheVariants.{Plain, Dot, Def}
use Rattle.ruby_lexer.specs.Bytes.{Bytes, is_small, is_letter, begins, begins_with, starts, is_in}
use Rattle.ruby_lexer.specs.Words.{name_of, after_name}
use Rattle.ruby_lexer.specs.Pieces.{Kind, mark, symbol, Piece, token}

-- The operators and marks that another one may begin with or that begin with another one, the longer ones first:
-- each binary operator, each with `=`, and `! = => . &. :: ? :`.
abbrev pub marks : List Bytes
marks =
    codes "<=>=" ∷ codes "====" ∷ codes "...=" ∷
    codes "**=" ∷ codes "<<=" ∷ codes ">>=" ∷ codes "<==" ∷ codes ">==" ∷ codes "<=>" ∷ codes "===" ∷ codes "!==" ∷ codes "&&=" ∷ codes "||=" ∷ codes "..=" ∷ codes "..." ∷
    codes "**" ∷ codes "*=" ∷ codes "/=" ∷ codes "%=" ∷ codes "+=" ∷ codes "-=" ∷ codes "<<" ∷ codes ">>" ∷ codes "&=" ∷ codes "|=" ∷ codes "^=" ∷ codes "<=" ∷ codes ">=" ∷ codes "==" ∷ codes "!=" ∷ codes "&&" ∷ codes "||" ∷ codes ".." ∷ codes "=>" ∷ codes "&." ∷ codes "::" ∷
    codes "*" ∷ codes "/" ∷ codes "%" ∷ codes "+" ∷ codes "-" ∷ codes "&" ∷ codes "|" ∷ codes "^" ∷ codes "<" ∷ codes ">" ∷ codes "!" ∷ codes "." ∷ codes "?" ∷ codes ":" ∷ codes "=" ∷ []

-- the operators that are names of methods, the longer ones first
abbrev pub method_operators : List Bytes
method_operators =
    codes "<=>" ∷ codes "===" ∷ codes "[]=" ∷
    codes "**" ∷ codes "<<" ∷ codes ">>" ∷ codes "<=" ∷ codes ">=" ∷ codes "==" ∷ codes "-@" ∷ codes "+@" ∷ codes "[]" ∷
    codes "+" ∷ codes "-" ∷ codes "*" ∷ codes "/" ∷ codes "%" ∷ codes "&" ∷ codes "|" ∷ codes "^" ∷ codes "<" ∷ codes ">" ∷ codes "!" ∷ codes "~" ∷ []

-- the marks behind which a newline is a token: behind all others, the operators among them, it is none
abbrev pub closing_marks : List Bytes
closing_marks = codes ")" ∷ codes "]" ∷ codes "}" ∷ codes "?" ∷ codes ":" ∷ codes "=>" ∷ codes "~" ∷ codes "-@" ∷ codes "+@" ∷ []

unfoldable pub is_closing_mark : Bytes → Bool
is_closing_mark f = is_in f closing_marks

-- how long the first of the lists is with which the bytes begin
abbrev pub first_length : Bytes → List Bytes → Option ℕ
first_length w [] = None
first_length w (f ∷ fs) = if starts f w then Some (length f) else first_length w fs

unfoldable pub mark_length : Bytes → Option ℕ
mark_length w = first_length w marks

unfoldable pub operator_length : Bytes → Option ℕ
operator_length w = first_length w method_operators

-- a piece made of the bytes f, where they stand here
abbrev pub match_at : (Bytes → Kind) → Bytes → Bytes → Option (Piece × Bytes)
match_at kind w f = if starts f w then Some (token (kind (take (length f) w)), drop (length f) w) else None

unfoldable pub marks_at : Bytes → List (Option (Piece × Bytes))
marks_at w = map (match_at (λ f. mark) w) marks

-- a mark of one byte, before w, and the same with the byte c
abbrev pub with_second : ℕ → Bytes → List (Option (Piece × Bytes))
with_second c w = (if begins_with c w then Some (token mark, drop 1 w) else None) ∷ Some (token mark, w) ∷ []

-- whether a name of a method stands behind it
abbrev pub is_method_name : WordContext → Bool
is_method_name Plain = false
is_method_name Dot = true
is_method_name Def = true

-- behind `+` or `-`: `@`, where a name of a method stands
abbrev pub unary_name_at : WordContext → Bytes → Option (Piece × Bytes)
unary_name_at before w = if is_method_name before && begins_with 64 w then Some (token mark, drop 1 w) else None

-- behind `:`: a name with `=`, and a name or a constant
abbrev pub setter_at : Bytes → Option (Piece × Bytes)
setter_at w =
    if begins is_small w && begins_with 61 (after_name w) then Some (token (symbol (name_of w ++ 61 ∷ [])), drop 1 (after_name w)) else None

abbrev pub name_forms : Bytes → List (Option (Piece × Bytes))
name_forms w = setter_at w ∷ Some (token (symbol (name_of w)), after_name w) ∷ []

-- behind `:`: an operator that is the name of a method, and nothing
unfoldable pub operator_forms : Bytes → List (Option (Piece × Bytes))
operator_forms w = map (match_at symbol w) method_operators ++ Some (token mark, w) ∷ []

-- What may begin with `:`, before w. What begins with `"` is left out here.
unfoldable pub colon_forms : Bytes → List (Option (Piece × Bytes))
colon_forms w =
    if begins_with 58 w then with_second 58 w
    else if begins_with 34 w then Some (token mark, w) ∷ []
    else if begins is_letter w then name_forms w
    else operator_forms w
