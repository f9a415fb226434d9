-- How what is derived goes from one place to another: it takes tokens, and it keeps the locals. Both are shown at once; or the tokens alone.
use Rattle.std.proofs.Common.{◌≡◌, ℕ, ◌+◌, ◌≤◌, Bool, true, false, List, [], ◌∷◌, ◌++◌, append_assoc, refl, sym, ◌∙◌, ap, arith, Some}
use Rattle.ruby_lexer.specs.Bytes.{Bytes}
use Rattle.ruby_lexer.specs.Pieces.{Kind, Toks, none, more}
use Rattle.ruby_tree.specs.Tree.{Goal, to_local, to_instance, to_global, to_constant}
use Rattle.ruby_tree.specs.Rules.{Scope, DoBlockOwner, declare, declared, next, front, mark_in, is_mark, is_word, is_kind_newline, is_negative, goal_at}
use Rattle.ruby_tree.specs.Grammar.{Rel, Rels}
use Rattle.ruby_tree.specs.FaultLine.{count_of}
use Rattle.reference_laws.proofs.Promises.{Keeps}

-- the locals are kept, if that is asked
abbrev pub KeptIf : Bool → Scope → Scope → Type 0
KeptIf true s z = Keeps s z
KeptIf false s z = Unit {0}

-- From w to r at least n tokens are taken.
pub record Moves (b : Bool) (n : ℕ) (w : Toks) (s : Scope) (r : Toks) (z : Scope) : Type 0 where
  pub tokens : n + count_of r ≤ count_of w
  pub locals : KeptIf b s z

keeps_all : (s z : Scope) → z.locals ≡ s.locals → Keeps s z
keeps_all s z e = record { newer = []; locals = e }

kept_all : (b : Bool) (s z : Scope) → z.locals ≡ s.locals → KeptIf b s z
kept_all true s z e = keeps_all s z e
kept_all false s z e = tt

keeps_then : {s y z : Scope} → Keeps s y → Keeps y z → Keeps s z
keeps_then {s = s} k l = record { newer = l.newer ++ k.newer; locals = l.locals ∙ (ap (λ (xs : List Bytes). l.newer ++ xs) k.locals ∙ sym (append_assoc l.newer k.newer s.locals)) }

kept_then : (b : Bool) (s y z : Scope) → KeptIf b s y → KeptIf b y z → KeptIf b s z
kept_then true s y z k l = keeps_then k l
kept_then false s y z k l = tt

kept_declare : (b : Bool) (x : Bytes) (s : Scope) → KeptIf b s (declare x s)
kept_declare true x s = record { newer = x ∷ []; locals = refl }
kept_declare false x s = tt

-- the same locals, at both ends
kept_between : (b : Bool) (s u y z : Scope) → u.locals ≡ s.locals → z.locals ≡ y.locals → KeptIf b s y → KeptIf b u z
kept_between true s u y z e h k = record { newer = k.newer; locals = h ∙ (k.locals ∙ ap (λ (xs : List Bytes). k.newer ++ xs) (sym e)) }
kept_between false s u y z e h k = tt

infixl 10 ◌▷◌
-- one part behind another
pub ◌▷◌ : {b : Bool} {n m : ℕ} {w q r : Toks} {s y z : Scope} → Moves b n w s q y → Moves b m q y r z → Moves b (n + m) w s r z
◌▷◌ {b = b} {n = n} {m = m} {w = w} {q = q} {r = r} {s = s} {y = y} {z = z} h k =
    let first : n + count_of q ≤ count_of w = h.tokens in
    let then : m + count_of r ≤ count_of q = k.tokens in
    record { tokens = omega arith; locals = kept_then b s y z h.locals k.locals }

-- at least so many
pub least : {b : Bool} {n m : ℕ} {w r : Toks} {s z : Scope} → Moves b n w s r z → m ≤ n → Moves b m w s r z
least {n = n} {m = m} {w = w} {r = r} h e =
    let all : n + count_of r ≤ count_of w = h.tokens in
    record { tokens = omega arith; locals = h.locals }

pub stays : {b : Bool} {w : Toks} {s : Scope} → Moves b 0 w s w s
stays {b = b} {w = w} {s = s} = record { tokens = omega arith; locals = kept_all b s s refl }

pub declares : {b : Bool} {w : Toks} (x : Bytes) (s : Scope) → Moves b 0 w s w (declare x s)
declares {b = b} {w = w} x s = record { tokens = omega arith; locals = kept_declare b x s }

pub sets_goal : {b : Bool} {w : Toks} (g : Goal) (s : Scope) → Moves b 0 w s w (declared g s)
sets_goal (to_local x) s = declares x s
sets_goal (to_instance x) s = stays
sets_goal (to_global x) s = stays
sets_goal (to_constant x) s = stays

-- Whether it stands in a clause changes no local.
pub enters : {b : Bool} {n : ℕ} {w r : Toks} {s y z : Scope} → y.locals ≡ s.locals → Moves b n w y r z → Moves b n w s r z
enters {b = b} {s = s} {y = y} {z = z} e h = record { tokens = h.tokens; locals = kept_between b y s z z (sym e) refl h.locals }

pub leaves : {b : Bool} {n : ℕ} {w r : Toks} {s y z : Scope} → y.locals ≡ z.locals → Moves b n w s r z → Moves b n w s r y
leaves {b = b} {s = s} {y = y} {z = z} e h = record { tokens = h.tokens; locals = kept_between b s s z y refl e h.locals }

-- the locals end with the part; and the locals alone go on
pub inside : {b : Bool} {n : ℕ} {w r : Toks} {u z : Scope} (s : Scope) → Moves b n w u r z → Moves b n w s r s
inside {b = b} s h = record { tokens = h.tokens; locals = kept_all b s s refl }

pub aside : {b : Bool} {n : ℕ} {w r v : Toks} {s z : Scope} → Moves b n w s r z → Moves b 0 v s v z
aside {v = v} h = record { tokens = omega arith; locals = h.locals }

abbrev pub is_there : Toks → Bool
is_there none = false
is_there (more t ts) = true

token_at : {b : Bool} {s : Scope} (w : Toks) → is_there w ≡ true → Moves b 1 w s (next w) s
token_at none h = absurd (grind arith)
token_at {b = b} {s = s} (more t ts) h = record { tokens = omega arith; locals = kept_all b s s refl }

at_front : (w : Toks) (k : Kind) → front w ≡ Some k → is_there w ≡ true
at_front none k h = absurd (grind arith)
at_front (more t ts) k h = refl

-- a token with a test
pub at_kind : {b : Bool} {s : Scope} {w : Toks} {k : Kind} → front w ≡ Some k → Moves b 1 w s (next w) s
at_kind {w = w} {k = k} h = token_at w (at_front w k h)

module _ (source : Bytes) where
  there_mark : (f : Bytes) (w : Toks) → is_mark source f w ≡ true → is_there w ≡ true
  there_mark f none h = absurd (grind arith)
  there_mark f (more t ts) h = refl

  there_word : (f : Bytes) (w : Toks) → is_word source f w ≡ true → is_there w ≡ true
  there_word f none h = absurd (grind arith)
  there_word f (more t ts) h = refl

  there_marks : (fs : List Bytes) (w : Toks) → mark_in source fs w ≡ true → is_there w ≡ true
  there_marks fs none h = absurd (grind arith)
  there_marks fs (more t ts) h = refl

  there_line : (w : Toks) → is_kind_newline (front w) ≡ true → is_there w ≡ true
  there_line none h = absurd (grind arith)
  there_line (more t ts) h = refl

  there_negative : (w : Toks) → is_negative source w ≡ true → is_there w ≡ true
  there_negative none h = absurd (grind arith)
  there_negative (more t ts) h = refl

  there_goal : (w : Toks) (g : Goal) → goal_at source w ≡ Some g → is_there w ≡ true
  there_goal none g h = absurd (grind arith)
  there_goal (more t ts) g h = refl

  pub at_mark : {b : Bool} {s : Scope} (f : Bytes) (w : Toks) → is_mark source f w ≡ true → Moves b 1 w s (next w) s
  at_mark f w h = token_at w (there_mark f w h)

  pub at_word : {b : Bool} {s : Scope} (f : Bytes) (w : Toks) → is_word source f w ≡ true → Moves b 1 w s (next w) s
  at_word f w h = token_at w (there_word f w h)

  pub at_one_of : {b : Bool} {s : Scope} (fs : List Bytes) (w : Toks) → mark_in source fs w ≡ true → Moves b 1 w s (next w) s
  at_one_of fs w h = token_at w (there_marks fs w h)

  pub at_line : {b : Bool} {s : Scope} (w : Toks) → is_kind_newline (front w) ≡ true → Moves b 1 w s (next w) s
  at_line w h = token_at w (there_line w h)

  pub at_negative : {b : Bool} {s : Scope} (w : Toks) → is_negative source w ≡ true → Moves b 1 w s (next w) s
  at_negative w h = token_at w (there_negative w h)

  pub at_goal : {b : Bool} {s : Scope} (w : Toks) (g : Goal) → goal_at source w ≡ Some g → Moves b 1 w s (next w) s
  at_goal w g h = token_at w (there_goal w g h)

abbrev pub Moving : {A : Type 0} → Bool → ℕ → Rel A → Type 0
Moving {A} b n R = (w : Toks) (s : Scope) (t : A) (r : Toks) (z : Scope) → R w s t r z → Moves b n w s r z

pub record Movers (b : Bool) (R : Rels) : Type 0 where
  pub stmts : (d : DoBlockOwner) → Moving b 0 (R.stmts d)
  pub expr : (d : DoBlockOwner) → Moving b 1 (R.expr d)
  pub test : (d : DoBlockOwner) → Moving b 1 (R.test d)
  pub assigned_value : (d : DoBlockOwner) → Moving b 1 (R.assigned_value d)
  pub arg : (d : DoBlockOwner) → Moving b 1 (R.arg d)
  pub minus : (d : DoBlockOwner) → Moving b 1 (R.minus d)
  pub power : (d : DoBlockOwner) → Moving b 1 (R.power d)
  pub unary_operand : (d : DoBlockOwner) → Moving b 1 (R.unary_operand d)
  pub else_branches : (d : DoBlockOwner) → Moving b 0 (R.else_branches d)
