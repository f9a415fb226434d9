-- Arguments on the stack.
use Rattle.std.proofs.Common.{Bool, true, subst, sym, ◌≡◌, ℕ, suc, ◌+◌, refl, ap, ◌∙◌, arith, List, [], ◌∷◌, ◌++◌, length}
use Rattle.ruby_meaning.specs.Value.{Value}
use Rattle.code_meaning.specs.Machine.{Step, with_args, with_item}
pub use Rattle.compile_laws.specs.Calling.{pushed}

pub pushed_last : (vs : List Value) (v : Value) (st : List Value) → pushed (vs ++ v ∷ []) st ≡ v ∷ pushed vs st
pushed_last [] v st = refl
pushed_last (u ∷ vs) v st = pushed_last vs v (u ∷ st)

pub pushed_length : (vs st : List Value) → length (pushed vs st) ≡ length vs + length st
pushed_length [] st = omega arith
pushed_length (v ∷ vs) st = let e = pushed_length vs (v ∷ st) in omega arith

pub pushed_over : (vs over st : List Value) → pushed vs (over ++ st) ≡ pushed vs over ++ st
pushed_over [] over st = refl
pushed_over (v ∷ vs) over st = pushed_over vs (v ∷ over) st

pub append_none : (vs : List Value) → vs ++ [] ≡ vs
append_none [] = refl
append_none (v ∷ vs) = ap (λ x. v ∷ x) (append_none vs)

args_some : (vs us st : List Value) (m n : ℕ) (next : List Value → List Value → Step) → n ≡ length vs + m → with_args n us (pushed vs st) next ≡ with_args m (vs ++ us) st next
args_some [] us st m n next e = ap (λ x. with_args x us st next) (let f : n ≡ m = omega arith in f)
args_some (v ∷ vs) us st m n next e = args_some vs us (v ∷ st) (suc m) n next (omega arith)

pub args_off : (vs st : List Value) (n : ℕ) (next : List Value → List Value → Step) → n ≡ length vs → with_args n [] (pushed vs st) next ≡ next vs st
args_off vs st n next e = args_some vs [] st 0 n next (omega arith) ∙ ap (λ x. next x st) (append_none vs)

-- this value lies at the bottom
abbrev pub EndsIn : Value → List Value → Type 0
EndsIn v [] = ⊥
EndsIn v (u ∷ []) = u ≡ v
EndsIn v (u ∷ (x ∷ st)) = EndsIn v (x ∷ st)

ends_push : (v u : Value) (st : List Value) → EndsIn v st → EndsIn v (u ∷ st)
ends_push v u [] e = absurd e
ends_push v u (x ∷ st) e = e

pub ends_over : (v : Value) (over st : List Value) → EndsIn v st → EndsIn v (over ++ st)
ends_over v [] st e = e
ends_over v (u ∷ over) st e = ends_push v u (over ++ st) (ends_over v over st e)

pub item_last : (v x : Value) (st : List Value) (n : ℕ) (next : Value → Step) → EndsIn v st → length st ≡ n → with_item n (x ∷ st) next ≡ next v
item_last v x [] n next e m = absurd e
item_last v x (u ∷ []) n next e m = subst (λ k. with_item k (x ∷ (u ∷ [])) next ≡ next v) m (ap next e)
item_last v x (u ∷ (y ∷ st)) n next e m = subst (λ k. with_item k (x ∷ (u ∷ (y ∷ st))) next ≡ next v) m (item_last v u (y ∷ st) (suc (length st)) next e refl)

-- the height of a stack, and in a clause the exception at its bottom
pub record High (k : Bool) (v : Value) (h : ℕ) (st : List Value) : Type 0 where
  pub tall : length st ≡ h
  pub bottom : k ≡ true → EndsIn v st

pub plus_zero : (k : Bool) (v : Value) (h : ℕ) (st : List Value) → High k v h st → High k v (h + 0) st
plus_zero k v h st e = record { tall = omega (arith, e.tall); bottom = e.bottom }

pub high_over : (k : Bool) (v : Value) (h h1 : ℕ) (stk over st : List Value) → High k v h st → length stk ≡ h1 → stk ≡ over ++ st → High k v h1 stk
high_over k v h h1 stk over st e m same = record { tall = m; bottom = λ y. subst (EndsIn v) (sym same) (ends_over v over st (e.bottom y)) }
