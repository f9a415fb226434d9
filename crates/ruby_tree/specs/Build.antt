-- The trees that the grammar makes of the trees of its parts.
use Rattle.std.specs.Prelude.{ℕ, Bool, true, false, ◌&&◌, List, [], ◌∷◌, ◌++◌, if◌then◌else◌, Option, Some, None, codes}
use Rattle.ruby_lexer.specs.Bytes.{Bytes, same}
use Rattle.ruby_lexer.specs.Pieces.{Toks}
use Rattle.ruby_tree.specs.Tree.{SourcePosition, Goal, to_local, to_instance, to_global, to_constant, Tree, at, Form, symbol, text, local, instance, global, constant_path, send, safe_send, bare_raise, statements, both, either, rescue, ensure, rescue_sequence, body, Trees, no_more, more, Other, without, with, no_clause, clause, no_param, required}
use Rattle.ruby_tree.specs.Rules.{Scope, position, position_with, nowhere, word, next}

-- What a call is given: its arguments, the places of those that are spread, the block value, and the block that stands for `&:name`.
pub record Given : Type 0 where
  pub trees : Trees
  pub spread : List ℕ
  pub value : Other
  pub block : Other

abbrev pub nothing : Given
nothing = record { trees = no_more; spread = []; value = without; block = without }

abbrev pub is_there : Other → Bool
is_there without = false
is_there (with t) = true

-- whether it has an argument with `&`
abbrev pub has_block : Given → Bool
has_block g = if is_there g.value then true else is_there g.block

-- one more place, where an argument is spread
abbrev pub spread_at : Bool → ℕ → List ℕ → List ℕ
spread_at true k ks = k ∷ ks
spread_at false k ks = ks

-- the name of a symbol
abbrev pub symbol_of : Tree → Option Bytes
symbol_of (at o (symbol f)) = Some f
symbol_of _ = None

-- statements, or those with clauses
abbrev pub is_body : Tree → Bool
is_body (at o (statements ts)) = true
is_body (at o (rescue a b c)) = true
is_body (at o (ensure a b)) = true
is_body _ = false

abbrev pub one : Tree → Trees
one t = more t no_more

-- a statement as the statements of a block form, beginning with the first token of w
abbrev pub alone : Toks → Tree → Tree
alone w t = at (position w) (statements (one t))

-- a part that may be missing, as statements
abbrev pub or_empty : Other → Tree
or_empty without = at nowhere (statements no_more)
or_empty (with t) = t

abbrev pub read_form : Goal → Form
read_form (to_local x) = local x
read_form (to_instance x) = instance x
read_form (to_global x) = global x
read_form (to_constant x) = constant_path without false (x ∷ [])

-- `a.m` with these parts, or `a&.m`
abbrev pub call_form : Bool → Tree → Given → Bytes → Other → Form
call_form false a g m b = send (with a) g.trees g.spread g.value m false b
call_form true a g m b = safe_send a g.trees g.spread g.value m b

-- an operator is sent
abbrev pub sent : SourcePosition → Tree → Bytes → Trees → Tree
sent o a m ts = at o (send (with a) ts [] without m false without)

-- A name alone: a call of it, or the exception of a rescue clause again.
abbrev pub bare_form : Scope → Bytes → Form
bare_form s x = if s.clause && same x (codes "raise") then bare_raise else send without no_more [] without x true without

-- `a::x`, where a path goes on
abbrev pub path_with : Toks → Tree → Bytes → Tree
path_with w (at o (constant_path v b xs)) x = at o (constant_path v b (xs ++ x ∷ []))
path_with w a x = at (position w) (constant_path (with a) false (x ∷ []))

-- `&:m`, at the `&`: the block `{ |x| x.m }`
abbrev pub symbol_block : Toks → Bytes → Tree
symbol_block w m =
    at (position w) (body (required (codes "x") no_param) (alone w (at (position_with w (next w)) (send (with (at (position w) (local (codes "x")))) no_more [] without m false without))))

-- `a rescue b`: a begins at w, `rescue` stands at v
abbrev pub rescued : Toks → Toks → Tree → Tree → Tree
rescued w v a b = at (position w) (rescue (alone w a) without (at (position v) (rescue_sequence (clause no_more None (alone (next v) b) no_clause))))

-- texts and symbols, as the elements of a list of words
abbrev pub texts_at : SourcePosition → List Bytes → Trees
texts_at o [] = no_more
texts_at o (f ∷ fs) = more (at o (text f)) (texts_at o fs)

abbrev pub symbols_at : SourcePosition → List Bytes → Trees
symbols_at o [] = no_more
symbols_at o (f ∷ fs) = more (at o (symbol f)) (symbols_at o fs)

-- Two operands, of which the first begins at w, and the operator between them, at v: the operator is sent.
abbrev pub binary : Bytes → Toks → Toks → Tree → Tree → Tree
binary source w v a b = sent (position_with w v) a (word source v) (one b)

abbrev pub conjunction : Toks → Toks → Tree → Tree → Tree
conjunction w v a b = at (position w) (both a b)

abbrev pub disjunction : Toks → Toks → Tree → Tree → Tree
disjunction w v a b = at (position w) (either a b)
