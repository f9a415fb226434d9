-- How often a place is in a list.
use Rattle.std.proofs.Common.{◌≡◌, ℕ, ◌+◌, ◌≤◌, Bool, true, false, cond, nat_eq, List, [], ◌∷◌, ◌++◌, refl, arith}
use Rattle.std.proofs.lemmas.Bool.{eqb-true}

abbrev pub one_if : Bool → ℕ
one_if b = cond b 1 0

pub zero_false : (b : Bool) → one_if b ≡ 0 → b ≡ false
zero_false true e = absurd (omega (arith, e))
zero_false false e = refl

-- 1 for the place itself
abbrev pub one_at : ℕ → ℕ → ℕ
one_at p q = cond (nat_eq p q) 1 0

-- how often a place is in a list
abbrev pub count : ℕ → List ℕ → ℕ
count p [] = 0
count p (q ∷ qs) = one_at p q + count p qs

pub on : (p : ℕ) (xs ys : List ℕ) → count p (xs ++ ys) ≡ count p xs + count p ys
on p [] ys = omega arith
on p (x ∷ xs) ys = omega (arith, on p xs ys)

pub at_most_one : (b : Bool) → one_if b ≤ 1
at_most_one true = omega arith
at_most_one false = omega arith

not_at : (p q : ℕ) (b : Bool) → nat_eq p q ≡ b → (p ≡ q → ⊥) → one_if b ≡ 0
not_at p q true e other = absurd (other (eqb-true p q e))
not_at p q false e other = refl

-- another place
pub elsewhere : (p q : ℕ) → (p ≡ q → ⊥) → one_at p q ≡ 0
elsewhere p q other = not_at p q (nat_eq p q) refl other
