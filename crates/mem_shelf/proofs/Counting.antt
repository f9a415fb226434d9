use Rattle.std.proofs.Common.{◌≡◌, ℕ, ◌+◌, ◌≤◌, Bool, true, false, cond, ◌||◌, ◌==◌, nat_le, List, [], ◌∷◌, arith}
use Rattle.mem_shelf.specs.Schedule.{faults_of}
use Rattle.std.specs.List.{count_by, list_any}
use Rattle.std.proofs.lemmas.Bool.Decides.{nat_tests}
use Rattle.std.proofs.lemmas.List.Sums.{sum_by-cons}

one_more : (n k a b : ℕ) (t : Bool) → a + cond t 1 0 ≤ b → cond (nat_le k n) 1 0 + a + cond (k == (n + 1) || t) 1 0 ≤ cond (nat_le k (n + 1)) 1 0 + b
one_more n k a b true h = grind (arith, nat_tests)
one_more n k a b false h = grind (arith, nat_tests)

-- one more call: as many failed as before, and one more where its number stands in the list
pub one_more_call : (n : ℕ) (fail : List ℕ) → count_by (λ k. nat_le k n) fail + cond (list_any (λ k. k == (n + 1)) fail) 1 0 ≤ count_by (λ k. nat_le k (n + 1)) fail
one_more_call n [] = omega arith
one_more_call n (k ∷ ks) =
    rw (sum_by-cons (λ x. cond (nat_le x n) 1 0) k ks, sum_by-cons (λ x. cond (nat_le x (n + 1)) 1 0) k ks) (one_more n k _ _ (list_any (λ k. k == (n + 1)) ks) (one_more_call n ks))

-- the same of a schedule, where n is the number of the next call
pub after_call_kept : (fail : List ℕ) (calls n : ℕ) → n ≡ calls + 1 → faults_of (record { fail = fail; calls = calls }) ≤ faults_of (record { fail = fail; calls = n })
after_call_kept fail calls n e = rw e (omega (arith, one_more_call calls fail))

pub after_call_rose : (fail : List ℕ) (calls n : ℕ) → n ≡ calls + 1 → list_any (λ k. k == n) fail ≡ true → faults_of (record { fail = fail; calls = calls }) + 1 ≤ faults_of (record { fail = fail; calls = n })
after_call_rose fail calls n e h = rw e (rw (rw e at h) at (one_more_call calls fail))
