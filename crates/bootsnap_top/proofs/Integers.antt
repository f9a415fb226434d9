use Rattle.std.proofs.Common.{◌≡◌, ℕ, ℤ, pos, negsuc, ◌^◌, ◌<◌, ◌≤◌, cond, nat_lt, Option, Some, None, ◌∙◌, ap, arith, FitsSigned, w64}
use Rattle.std.specs.Option.{SomeIff}
use Rattle.std.proofs.lemmas.Bool.Decides.{nat_tests}
use Rattle.bootsnap_top.specs.SmallRun.{in_range}

none_from : {A : Type 0} (n m : ℕ) (x : A) → m ≤ n → None ≡ cond (nat_lt n m) (Some x) None
none_from n m x h = grind (arith, nat_tests)

some_below : {A : Type 0} (n m : ℕ) (x : A) → n < m → Some x ≡ cond (nat_lt n m) (Some x) None
some_below n m x h = grind (arith, nat_tests)

tested : (n : ℕ) (z : ℤ) (r : Option ℤ) → SomeIff r (FitsSigned w64 z) z → (FitsSigned w64 z → n < 2 ^ 63) → (n < 2 ^ 63 → FitsSigned w64 z) → r ≡ cond (nat_lt n (2 ^ 63)) (Some z) None
tested n z None h to from = let no : n < 2 ^ 63 → ⊥ = λ lt. h (from lt) in none_from n (2 ^ 63) z (omega arith)
tested n z (Some x) h to from = ap Some h.1 ∙ some_below n (2 ^ 63) z (to h.0)

-- a checked result is the exact one, where that is an Integer
pub checked : (z : ℤ) (r : Option ℤ) → SomeIff r (FitsSigned w64 z) z → r ≡ in_range z
checked (pos n) r h = tested n (pos n) r h (λ f. f.sfits) (λ lt. record { sfits = lt })
checked (negsuc n) r h = tested n (negsuc n) r h (λ f. f.sfits) (λ lt. record { sfits = lt })
