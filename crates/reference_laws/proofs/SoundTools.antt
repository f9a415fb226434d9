-- How what is shown of one step of a reader goes through to the next.
use Rattle.std.proofs.Common.{◌≡◌, Bool, true, false, if◌then◌else◌, refl}
use Rattle.ruby_lexer.specs.Pieces.{Toks}
use Rattle.ruby_tree.specs.Rules.{Scope}
use Rattle.reference_parser.specs.Answers.{Answer, ◌>>=◌, Found, found, missing, ◌>>>◌}
use Rattle.reference_laws.proofs.Promises.{Each, got, at_fault, at_depth}

pub each_then : {A B : Type 0} {o : Answer A} {P : A → Toks → Scope → Type 0} {G : B → Toks → Scope → Type 0} (f : A → Toks → Scope → Answer B) →
    Each P o → ((t : A) (r : Toks) (z : Scope) → P t r z → Each G (f t r z)) → Each G (o >>= f)
unfolding ◌>>=◌
each_then f (got h) next = next _ _ _ h
each_then f at_fault next = at_fault
each_then f at_depth next = at_depth

pub each_of : {A : Type 0} {o : Answer A} {P : A → Toks → Scope → Type 0} {G : A → Toks → Scope → Type 0} →
    Each P o → ((t : A) (r : Toks) (z : Scope) → P t r z → G t r z) → Each G o
each_of (got h) next = got (next _ _ _ h)
each_of at_fault next = at_fault
each_of at_depth next = at_depth

pub each_if : {A : Type 0} {P : A → Toks → Scope → Type 0} (b : Bool) (x y : Answer A) → (b ≡ true → Each P x) → (b ≡ false → Each P y) → Each P (if b then x else y)
each_if true x y holds fails = holds refl
each_if false x y holds fails = fails refl

-- P of what is found
pub data EachFound {A : Type 0} (P : A → Toks → Type 0) : Found A → Type 0 where
  there : {a : A} {r : Toks} → P a r → EachFound P (found a r)
  absent : EachFound P missing

pub each_found : {A B : Type 0} {o : Found A} {P : A → Toks → Type 0} {G : B → Toks → Scope → Type 0} (f : A → Toks → Answer B) →
    EachFound P o → ((a : A) (r : Toks) → P a r → Each G (f a r)) → Each G (o >>> f)
unfolding ◌>>>◌
each_found f (there h) next = next _ _ h
each_found f absent next = at_fault

pub found_if : {A : Type 0} {P : A → Toks → Type 0} (b : Bool) (x y : Found A) → (b ≡ true → EachFound P x) → (b ≡ false → EachFound P y) → EachFound P (if b then x else y)
found_if true x y holds fails = holds refl
found_if false x y holds fails = fails refl

-- P of one of two values
pub value_if : {A : Type 0} (P : A → Type 0) (b : Bool) (x y : A) → (b ≡ true → P x) → (b ≡ false → P y) → P (if b then x else y)
value_if P true x y holds fails = holds refl
value_if P false x y holds fails = fails refl
