-- Small facts on truth values.
use Rattle.std.proofs.Common.{◌≡◌, Bool, true, false, ◌||◌, refl, sym}
use Rattle.std.specs.Prelude.{not}

pub false_true : {X : Type 0} → false ≡ true → X
false_true h = cc

pub or_left : (a b : Bool) → a ≡ true → (a || b) ≡ true
or_left true b h = refl
or_left false b h = false_true h

pub or_right : (a b : Bool) → b ≡ true → (a || b) ≡ true
or_right true b h = refl
or_right false b h = h

-- the second holds where the first does not
pub or_second : (a b : Bool) → a ≡ false → (a || b) ≡ true → b ≡ true
or_second true b s h = cc
or_second false b s h = h

-- what does not fail holds
pub holds : (b : Bool) → not b ≡ false → b ≡ true
holds true h = refl
holds false h = false_true (sym h)
