-- What is said of a value that there may be.
use Rattle.std.proofs.Common.{◌≡◌, Option, Some, None, IfSome, refl, subst}

pub each_some : {A : Type 0} (o : Option A) (P : A → Type 0) → ((a : A) → o ≡ Some a → P a) → IfSome o P
each_some None P all = tt
each_some (Some a) P all = all a refl

pub of_some : {A : Type 0} (o : Option A) (P : A → Type 0) (a : A) → o ≡ Some a → IfSome o P → P a
of_some None P a is holds = absurd cc
of_some (Some b) P a is holds = let same : b ≡ a = cc in subst P same holds
