-- What a step gave, if it gave anything.
use Rattle.std.proofs.Common.{◌≡◌, Bool, true, false, refl, subst, if◌then◌else◌, Option, Some, None}
use Rattle.ruby_lexer.specs.Bytes.{Bytes}
use Rattle.ruby_lexer.specs.Scan.{◌>>=◌}

-- a test and what it gives
pub by_test : {X : Type 0} (b : Bool) → (b ≡ true → X) → (b ≡ false → X) → X
by_test true h g = h refl
by_test false h g = g refl

-- what is there has P
pub data Each {A : Type 0} (P : A → Bytes → Type 0) : Option (A × Bytes) → Type 0 where
  taken : {t : A} {r : Bytes} → P t r → Each P (Some (t, r))
  nothing : Each P None

pub each_then : {A B : Type 0} {o : Option (A × Bytes)} {P : A → Bytes → Type 0} {G : B → Bytes → Type 0} (f : A × Bytes → Option (B × Bytes)) →
    Each P o → ((t : A) (r : Bytes) → P t r → Each G (f (t, r))) → Each G (o >>= f)
unfolding ◌>>=◌
each_then f (taken h) g = g _ _ h
each_then f nothing g = nothing

pub each_if : {A : Type 0} {P : A → Bytes → Type 0} (b : Bool) (x y : Option (A × Bytes)) → (b ≡ true → Each P x) → (b ≡ false → Each P y) → Each P (if b then x else y)
each_if true x y h g = h refl
each_if false x y h g = g refl

abbrev ForThat : {A : Type 0} → (A → Bytes → Type 0) → Option (A × Bytes) → Type 0
ForThat P (Some x) = P x.0 x.1
ForThat P None = Unit {0}

for_that : {A : Type 0} (P : A → Bytes → Type 0) (o : Option (A × Bytes)) → Each P o → ForThat P o
for_that P o (taken h) = h
for_that P o nothing = tt

pub each_some : {A : Type 0} (P : A → Bytes → Type 0) (o : Option (A × Bytes)) (t : A) (r : Bytes) → Each P o → o ≡ Some (t, r) → P t r
each_some P o t r h e = subst (λ (q : Option _). ForThat P q) e (for_that P o h)

-- with what hangs on its being there
pub each_also : {A : Type 0} {P : A → Bytes → Type 0} {G : A → Bytes → Type 0} (o : Option (A × Bytes)) → Each P o → ((t : A) (r : Bytes) → o ≡ Some (t, r) → G t r) → Each (λ t r. P t r × G t r) o
each_also o (taken h) g = taken (h, g _ _ refl)
each_also o nothing g = nothing

pub each_of : {A : Type 0} {P : A → Bytes → Type 0} {G : A → Bytes → Type 0} {o : Option (A × Bytes)} → Each P o → ((t : A) (r : Bytes) → P t r → G t r) → Each G o
each_of (taken h) g = taken (g _ _ h)
each_of nothing g = nothing

-- a step, at a value that it is known to have given
pub each_here : {A : Type 0} {P : A → Bytes → Type 0} (o : Option (A × Bytes)) → ((t : A) (r : Bytes) → o ≡ Some (t, r) → P t r) → Each P o
each_here (Some x) g = taken {t = x.0} {r = x.1} (g x.0 x.1 refl)
each_here None g = nothing
