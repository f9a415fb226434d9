-- How a text is cut into pieces, and which tokens they are.
use Rattle.std.specs.Prelude.{◌≡◌, ℕ, zero, suc, ◌+◌, Bool, true, false, nat_eq, ◌&&◌, ◌||◌, not, if◌then◌else◌, slice_index, codes}
use Rattle.ruby_lexer.specs.declared.state.State.{State}
use Rattle.ruby_lexer.specs.declared.state.WordContext.{WordContext}
use Rattle.ruby_lexer.specs.declared.state.WordContext.TheVariants.{Plain, Dot, Def}
use Rattle.ruby_lexer.specs.Bytes.{Bytes, begins_with, same, taken}
use Rattle.ruby_lexer.specs.Pieces.{Kind, name, keyword, mark, newline, Tok, tok, Toks, none, more, Piece, blank, comment, line_end, token}
use Rattle.ruby_lexer.specs.Marks.{is_closing_mark}
use Rattle.ruby_lexer.specs.Forms.{place, line_of, Cutter, Begins, Longest}

-- what a token of the bytes f makes of the word behind it
abbrev pub before_of : Kind → Bytes → WordContext
before_of mark f = if same f (codes ".") || same f (codes "&.") then Dot else Plain
before_of keyword f = if same f (codes "def") then Def else Plain
before_of _ f = Plain

-- Whether a newline behind a token of the bytes f is no token: behind operators and marks but some, and behind `and`, `or` and `not`.
abbrev pub joins_of : Kind → Bytes → Bool
joins_of mark f = not (is_closing_mark f)
joins_of keyword f = same f (codes "and") || same f (codes "or") || same f (codes "not")
joins_of _ f = false

-- In the code of a literal, where n is above 0: one more than the braces that are open, and 0 for good where one closes that none opened.
abbrev pub braces_of : Kind → Bytes → ℕ → ℕ
braces_of mark f zero = 0
braces_of mark f (suc n) = if same f (codes "{") then suc (suc n) else if same f (codes "}") then n else suc n
braces_of _ f n = n

abbrev pub state_after_token : State → Kind → Bytes → State
state_after_token s k f = record { before = before_of k f; joins = joins_of k f; blank = false; braces = braces_of k f s.braces }

abbrev pub state_after_line : State → State
state_after_line s = if s.joins then s else record { before = Plain; joins = false; blank = false; braces = s.braces }

-- what counts behind a piece of the bytes f
abbrev pub after : State → Piece → Bytes → State
after s blank f = record s { blank = true }
after s comment f = s
after s line_end f = state_after_line s
after s (token k) f = state_after_token s k f

abbrev pub is_mark : Kind → Bool
is_mark mark = true
is_mark _ = false

abbrev pub is_name : Kind → Bool
is_name name = true
is_name _ = false

-- the token is `)`, `]` or `&.`
abbrev pub is_closer : Bytes → Tok → Bool
is_closer text (tok k from to line b) = is_mark k && (nat_eq (slice_index text from) 41 || nat_eq (slice_index text from) 93 || (nat_eq (slice_index text from) 38 && nat_eq (slice_index text (from + 1)) 46))

-- the token is `.`
abbrev pub is_point : Bytes → Tok → Bool
is_point text (tok k from to line b) = is_mark k && nat_eq (slice_index text from) 46 && nat_eq to (from + 1)

abbrev pub begins_with_name : Toks → Bool
begins_with_name none = false
begins_with_name (more (tok k from to line b) ts) = is_name k

-- A newline before these tokens is none: they begin with `)`, `]`, `&.`, or `.` and a name.
abbrev pub closes : Bytes → Toks → Bool
closes text none = false
closes text (more t ts) = is_closer text t || (is_point text t && begins_with_name ts)

-- the tokens, with a blank before the first of them where b is true
abbrev pub with_blank : Bool → Toks → Toks
with_blank b none = none
with_blank b (more (tok k from to line c) ts) = more (tok k from to line (b || c)) ts

abbrev pub has_blank : Tok → Bool
has_blank (tok k from to line b) = b

-- a newline, which may be none, before the tokens that follow it
abbrev pub put_line : Bytes → Tok → Toks → Toks
put_line text t ts = if closes text ts then with_blank (has_blank t) ts else more t ts

-- a piece between two places, on a line, before the tokens that follow it
abbrev pub put_at : Bytes → State → Piece → ℕ → ℕ → ℕ → Toks → Toks
put_at text s blank from to line ts = ts
put_at text s comment from to line ts = ts
put_at text s line_end from to line ts = if s.joins then ts else put_line text (tok newline from to line s.blank) ts
put_at text s (token k) from to line ts = more (tok k from to line s.blank) ts

-- a piece from w to q before the tokens that follow it
abbrev pub put : Bytes → State → Piece → Bytes → Bytes → Toks → Toks
put text s k w q ts = put_at text s k (place text w) (place text q) (line_of text w) ts

-- The bytes are cut into the tokens, up to what is left, from one state to another.
pub data Cuts (text : Bytes) (C : Cutter) : State → Bytes → Toks → State → Bytes → Type 0 where
  done : {s : State} {w : Bytes} → Cuts text C s w none s w
  piece : {s z : State} {w q r : Bytes} {ts : Toks} (k : Piece) → Begins text C s w k q → Longest text C s w q → Cuts text C (after s k (taken w q)) q ts z r → Cuts text C s w (put text s k w q ts) z r

-- where a text begins, and where the code of a literal does
abbrev pub at_start : State
at_start = record { before = Plain; joins = false; blank = false; braces = 0 }

abbrev pub in_code : State
in_code = record { before = Plain; joins = false; blank = false; braces = 1 }

-- The code of a literal: up to the first `}` that closes none of its braces.
abbrev pub Codes : Bytes → Cutter → Cutter
Codes text C w ts q = (z : State) × Cuts text C in_code w ts z q × (z.braces ≡ 1) × (begins_with 125 q ≡ true)

-- code in literals, nested at most n deep
unfoldable pub cutter : Bytes → ℕ → Cutter
cutter text zero = λ w ts q. ⊥
cutter text (suc n) = Codes text (cutter text n)

-- A front of the text that is cut into tokens, up to a place where no piece begins: its end, or its first fault.
pub record TokenPrefix (text : Bytes) (C : Cutter) : Type 0 where
  pub tokens : Toks
  pub state : State
  pub rest : Bytes
  pub cuts : Cuts text C at_start text tokens state rest
  pub nothing : (k : Piece) (q : Bytes) → Begins text C state rest k q → ⊥
