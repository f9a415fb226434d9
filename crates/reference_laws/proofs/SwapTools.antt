-- What is derived up to a newline stays derived where other tokens stand behind that newline. What the rules see of the tokens is the same.
use Rattle.std.proofs.Common.{◌≡◌, ℕ, ◌+◌, ◌≤◌, Bool, true, false, not, nat_eq, ◌&&◌, List, codes, refl, Some, None, arith}
use Rattle.ruby_lexer.specs.Bytes.{Bytes}
use Rattle.ruby_lexer.specs.Pieces.{Tok, tok, newline, Toks, none, more}
use Rattle.ruby_tree.specs.Tree.{Tree, Other}
use Rattle.ruby_tree.specs.Rules.{Scope, DoBlockOwner, front, is_kind_newline, mark_in, word_in, is_mark, is_word, begins_arguments, begins_arg, begins_value, begins_statement, is_command, goes_on, opens, opens_block, opens_do, is_negative, assigns, begins_params, sets, begins_targets}
use Rattle.ruby_tree.specs.Grammar.{Rel, Rels}
use Rattle.ruby_tree.specs.FaultLine.{count_of}
use Rattle.reference_laws.proofs.Moves.{Moves}

-- The same tokens up to a newline, and then xs or ys.
pub data Alike (xs ys : Toks) : Toks → Toks → Type 0 where
  at_line : {from to line : ℕ} {b : Bool} → Alike xs ys (more (tok newline from to line b) xs) (more (tok newline from to line b) ys)
  before : {t : Tok} {w p : Toks} → Alike xs ys w p → Alike xs ys (more t w) (more t p)

-- nothing is taken of no tokens
pub takes_none : {b : Bool} {r : Toks} {s z : Scope} → Moves b 1 none s r z → ⊥
takes_none {r = r} h = let all : 1 + count_of r ≤ 0 = h.tokens in omega arith

-- no token is of no kind
pub no_kind : {A : Type 0} {x : A} → None ≡ Some x → ⊥
no_kind h = grind arith

-- where the second token is no integer
no_integer : (a b c d : Bool) → (((a && false) && b) && c) ≡ (((a && false) && b) && d)
no_integer true b c d = refl
no_integer false b c d = refl

module _ (xs ys : Toks) where
  pub none_alike : {p : Toks} → Alike xs ys none p → ⊥
  none_alike h = elim h [ ]

  -- P of tokens that are like w
  pub record Swapped (P : Toks → Type 0) (w : Toks) : Type 0 where
    pub other : Toks
    pub alike : Alike xs ys w other
    pub holds : P other

  -- and of those whose first token is known
  pub record Opened (P : Toks → Type 0) (t : Tok) (ts : Toks) : Type 0 where
    pub rest : Toks
    pub alike : Alike xs ys (more t ts) (more t rest)
    pub holds : P (more t rest)

  pub swapped : {P : Toks → Type 0} {w p : Toks} → Alike xs ys w p → P p → Swapped P w
  swapped {p = p} a h = record { other = p; alike = a; holds = h }

  open_by : {P : Toks → Type 0} {t : Tok} {ts p : Toks} → Alike xs ys (more t ts) p → P p → Opened P t ts
  open_by at_line h = record { rest = ys; alike = at_line; holds = h }
  open_by (before {p = p} a) h = record { rest = p; alike = before a; holds = h }

  pub opened : {P : Toks → Type 0} {t : Tok} {ts : Toks} → Swapped P (more t ts) → Opened P t ts
  opened s = open_by s.alike s.holds

  module _ (source : Bytes) where
    pub alike_line : {w p : Toks} → Alike xs ys w p → is_kind_newline (front p) ≡ is_kind_newline (front w)
    alike_line at_line = refl
    alike_line (before {t = tok _ _ _ _ _} a) = refl

    pub alike_mark : (f : Bytes) → {w p : Toks} → Alike xs ys w p → is_mark source f p ≡ is_mark source f w
    alike_mark f at_line = refl
    alike_mark f (before {t = tok _ _ _ _ _} a) = refl

    pub alike_word : (f : Bytes) → {w p : Toks} → Alike xs ys w p → is_word source f p ≡ is_word source f w
    alike_word f at_line = refl
    alike_word f (before {t = tok _ _ _ _ _} a) = refl

    pub alike_words : (fs : List Bytes) → {w p : Toks} → Alike xs ys w p → word_in source fs p ≡ word_in source fs w
    alike_words fs at_line = refl
    alike_words fs (before {t = tok _ _ _ _ _} a) = refl

    pub alike_marks : (fs : List Bytes) → {w p : Toks} → Alike xs ys w p → mark_in source fs p ≡ mark_in source fs w
    alike_marks fs at_line = refl
    alike_marks fs (before {t = tok _ _ _ _ _} a) = refl

    pub alike_begins_arg : {w p : Toks} → Alike xs ys w p → begins_arg source p ≡ begins_arg source w
    alike_begins_arg at_line = refl
    alike_begins_arg (before {t = tok _ _ _ _ _} a) = refl

    pub alike_begins_value : {w p : Toks} → Alike xs ys w p → begins_value source p ≡ begins_value source w
    alike_begins_value at_line = refl
    alike_begins_value (before {t = tok _ _ _ _ _} a) = refl

    pub alike_begins_statement : {w p : Toks} → Alike xs ys w p → begins_statement source p ≡ begins_statement source w
    alike_begins_statement at_line = refl
    alike_begins_statement (before {t = tok _ _ _ _ _} a) = refl

    pub alike_goes_on : {w p : Toks} → Alike xs ys w p → goes_on source p ≡ goes_on source w
    alike_goes_on at_line = refl
    alike_goes_on (before {t = tok _ _ _ _ _} a) = refl

    pub alike_opens : {w p : Toks} → Alike xs ys w p → opens source p ≡ opens source w
    alike_opens at_line = refl
    alike_opens (before {t = tok _ _ _ _ _} a) = refl

    pub alike_assigns : {w p : Toks} → Alike xs ys w p → assigns source p ≡ assigns source w
    alike_assigns at_line = refl
    alike_assigns (before {t = tok _ _ _ _ _} a) = refl

    pub alike_begins_params : {w p : Toks} → Alike xs ys w p → begins_params source p ≡ begins_params source w
    alike_begins_params at_line = refl
    alike_begins_params (before {t = tok _ _ _ _ _} a) = refl

    pub alike_opens_block : (d : DoBlockOwner) → {w p : Toks} → Alike xs ys w p → opens_block source d p ≡ opens_block source d w
    alike_opens_block d at_line = refl
    alike_opens_block d (before {t = tok _ _ _ _ _} a) = refl

    pub alike_opens_do : (d : DoBlockOwner) → {w p : Toks} → Alike xs ys w p → opens_do source d p ≡ opens_do source d w
    alike_opens_do d at_line = refl
    alike_opens_do d (before {t = tok _ _ _ _ _} a) = refl

    -- what two tokens decide
    pub alike_begins_arguments : {w p : Toks} → Alike xs ys w p → begins_arguments source p ≡ begins_arguments source w
    alike_begins_arguments at_line = refl
    alike_begins_arguments (before {t = tok _ _ _ _ _} at_line) = refl
    alike_begins_arguments (before {t = tok _ _ _ _ _} (before {t = tok _ _ _ _ _} a)) = refl

    pub alike_sets : {w p : Toks} → Alike xs ys w p → sets source p ≡ sets source w
    alike_sets at_line = refl
    alike_sets (before {t = tok _ _ _ _ _} at_line) = refl
    alike_sets (before {t = tok _ _ _ _ _} (before {t = tok _ _ _ _ _} a)) = refl

    pub alike_begins_targets : {w p : Toks} → Alike xs ys w p → begins_targets source p ≡ begins_targets source w
    alike_begins_targets at_line = refl
    alike_begins_targets (before {t = tok _ _ _ _ _} at_line) = refl
    alike_begins_targets (before {t = tok _ _ _ _ _} (before {t = tok _ _ _ _ _} a)) = refl

    pub alike_is_command : (s : Scope) → (x : Bytes) → {w p : Toks} → Alike xs ys w p → is_command source s x p ≡ is_command source s x w
    alike_is_command s x at_line = refl
    alike_is_command s x (before {t = tok _ _ _ _ _} at_line) = refl
    alike_is_command s x (before {t = tok _ _ _ _ _} (before {t = tok _ _ _ _ _} a)) = refl

    -- and three
    pub alike_is_negative : {w p : Toks} → Alike xs ys w p → is_negative source p ≡ is_negative source w
    alike_is_negative at_line = refl
    alike_is_negative (before {t = tok k from to line b} (at_line {from = place})) = no_integer (is_mark source (codes "-") (more (tok k from to line b) none)) (nat_eq to place) (not (is_mark source (codes "**") ys)) (not (is_mark source (codes "**") xs))
    alike_is_negative (before {t = tok _ _ _ _ _} (before {t = tok _ _ _ _ _} at_line)) = refl
    alike_is_negative (before {t = tok _ _ _ _ _} (before {t = tok _ _ _ _ _} (before {t = tok _ _ _ _ _} a))) = refl

    -- what is derived of tokens is derived of those that are like them
    pub record Swaps (R : Rels) : Type 0 where
      pub stmts : {d : DoBlockOwner} {w r q : Toks} {s z : Scope} {t : Tree} → R.stmts d w s t r z → Alike xs ys r q → Swapped (λ (p : Toks). R.stmts d p s t q z) w
      pub expr : {d : DoBlockOwner} {w r q : Toks} {s z : Scope} {t : Tree} → R.expr d w s t r z → Alike xs ys r q → Swapped (λ (p : Toks). R.expr d p s t q z) w
      pub test : {d : DoBlockOwner} {w r q : Toks} {s z : Scope} {t : Tree} → R.test d w s t r z → Alike xs ys r q → Swapped (λ (p : Toks). R.test d p s t q z) w
      pub assigned_value : {d : DoBlockOwner} {w r q : Toks} {s z : Scope} {t : Tree} → R.assigned_value d w s t r z → Alike xs ys r q → Swapped (λ (p : Toks). R.assigned_value d p s t q z) w
      pub arg : {d : DoBlockOwner} {w r q : Toks} {s z : Scope} {t : Tree} → R.arg d w s t r z → Alike xs ys r q → Swapped (λ (p : Toks). R.arg d p s t q z) w
      pub minus : {d : DoBlockOwner} {w r q : Toks} {s z : Scope} {t : Tree} → R.minus d w s t r z → Alike xs ys r q → Swapped (λ (p : Toks). R.minus d p s t q z) w
      pub power : {d : DoBlockOwner} {w r q : Toks} {s z : Scope} {t : Tree} → R.power d w s t r z → Alike xs ys r q → Swapped (λ (p : Toks). R.power d p s t q z) w
      pub unary_operand : {d : DoBlockOwner} {w r q : Toks} {s z : Scope} {t : Tree} → R.unary_operand d w s t r z → Alike xs ys r q → Swapped (λ (p : Toks). R.unary_operand d p s t q z) w
      pub else_branches : {d : DoBlockOwner} {w r q : Toks} {s z : Scope} {t : Other} → R.else_branches d w s t r z → Alike xs ys r q → Swapped (λ (p : Toks). R.else_branches d p s t q z) w

    abbrev pub Swapping : {A : Type 0} → Rel A → Type 0
    Swapping {A} O = (w : Toks) (s : Scope) (t : A) (r : Toks) (z : Scope) → O w s t r z → (q : Toks) → Alike xs ys r q → Swapped (λ (p : Toks). O p s t q z) w
