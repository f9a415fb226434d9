-- Where the grammar stops in a list of tokens, and which of several positions comes first.
use Rattle.std.specs.Prelude.{◌≡◌, ℕ, suc, ◌-◌, ◌≤◌, Bool, true, List, length, take, Some, codes, Contains}
use Rattle.ruby_lexer.specs.Bytes.{Bytes}
use Rattle.ruby_lexer.specs.Forms.{newlines}
use Rattle.ruby_lexer.specs.Pieces.{Tok, Toks, none, more, constant}
use Rattle.ruby_tree.specs.Tree.{SourcePosition, Tree, Other, Params}
use Rattle.ruby_tree.specs.Rules.{Scope, fresh, next, front, line_at, is_kind_newline, own}
use Rattle.ruby_tree.specs.Grammar.{derives, Word, Newline, MethodName, OnSelf, ParameterList, Superclass}

-- the first tokens, and then the others
abbrev pub toks_then : Toks → Toks → Toks
toks_then none v = v
toks_then (more t u) v = more t (toks_then u v)

abbrev pub count_of : Toks → ℕ
count_of none = 0
count_of (more t ts) = suc (count_of ts)

-- there are no tokens, or the last of them is a newline
abbrev pub ends_lines : Toks → Bool
ends_lines none = true
ends_lines (more t none) = is_kind_newline (front (more t none))
ends_lines (more t (more x ts)) = ends_lines (more x ts)

-- the line of the last byte, and 1 where there is none
abbrev pub last_line : Bytes → ℕ
last_line w = suc (newlines (take (length w - 1) w))

module _ (source : Bytes) where
  -- A front of the tokens that is whole lines, is derived as statements, and leaves v with these locals.
  pub record IsFrontOf (s : Scope) (w u v : Toks) (y : Scope) : Type 0 where
    pub parts : toks_then u v ≡ w
    pub lines : ends_lines u ≡ true
    pub tree : Tree
    pub depth : ℕ
    pub derived : (derives source depth).stmts own u s tree none y

  -- and the longest one
  pub record IsLongestFront (s : Scope) (w u v : Toks) (y : Scope) : Type 0 where
    pub is : IsFrontOf s w u v y
    pub longest : (u1 v1 : Toks) (y1 : Scope) → IsFrontOf s w u1 v1 y1 → count_of v ≤ count_of v1

  -- What begins a class, a module or a method, up to its body, and the locals with which the body begins. A `def` is a header only with its
  -- parameters, in brackets or up to a newline, which may be a newline alone: where the body of a method stands right behind its name, the `def`
  -- begins no header, and the line of a fault in it is that of the `def`.
  pub data Header : Scope → Toks → Toks → Scope → Type 0 where
    of_class : {s y : Scope} {w q : Toks} {c : Other} (n : ℕ) → Word source (codes "class") w → front (next w) ≡ Some constant → Superclass source (derives source n) own (next (next w)) s c q y → Newline source q → Header s w (next q) fresh
    of_module : {s : Scope} {w : Toks} → Word source (codes "module") w → front (next w) ≡ Some constant → Newline source (next (next w)) → Header s w (next (next (next w))) fresh
    of_method : {s z : Scope} {w q v r : Toks} {b : Bool} {m : Bytes} {ps : Params} (n : ℕ) → Word source (codes "def") w → OnSelf source (derives source n) (next w) b q → MethodName source true q m v → ParameterList source (derives source n) own v fresh ps r z → Header s w r z

  pub record IsLongestHeader (s : Scope) (w r : Toks) (z : Scope) : Type 0 where
    pub is : Header s w r z
    pub longest : (r1 : Toks) (z1 : Scope) → Header s w r1 z1 → count_of r ≤ count_of r1

  -- The line at which the grammar stops, with these locals before the tokens: the longest front of lines that are statements is taken away.
  -- Where the header of a body stands next, the body is looked through in the same way. Else it is the line of the next token, and behind the
  -- last token the line given.
  pub data StopsAt (end : ℕ) : Scope → Toks → ℕ → Type 0 where
    inside : {s y z : Scope} {w u v r : Toks} {line : ℕ} → IsLongestFront s w u v y → IsLongestHeader y v r z → StopsAt end z r line → StopsAt end s w line
    token : {s y : Scope} {w u ts : Toks} {t : Tok} → IsLongestFront s w u (more t ts) y → ((r : Toks) (z : Scope) → Header y (more t ts) r z → ⊥) → StopsAt end s w (line_at (more t ts))
    ends : {s y : Scope} {w u : Toks} → IsLongestFront s w u none y → StopsAt end s w end

-- One of these positions comes first in the text.
pub record IsFirst (os : List SourcePosition) (o : SourcePosition) : Type 0 where
  pub among : Contains os o
  pub first : (p : SourcePosition) → Contains os p → o.place ≤ p.place
