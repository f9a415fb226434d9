-- How many numbers of a list are below one: in a list in ascending order, and in the same list in another order.
use Rattle.std.proofs.Common.{◌≡◌, ℕ, zero, suc, ◌≤◌, true, false, cond, nat_lt, List, [], ◌∷◌, length, refl, ap, sym, ◌∙◌, arith}
use Rattle.std.specs.List.{count_by}
use Rattle.std.specs.List.Sorted.{IsPermutation, IsPartitionPoint}
use Rattle.std.proofs.lemmas.List.Recursion.{is_count_by}
use Rattle.std.proofs.lemmas.List.Sorted.{sum_by-IsPermutation}
use Rattle.ruby_meaning.specs.Sequences.{count_below}

-- Those below p stand before the place i, and the others from it on.
pub point-count : (p : ℕ) (xs : List ℕ) (i : ℕ) → i ≤ length xs → IsPartitionPoint (λ x. nat_lt x p ≡ true) (λ x. nat_lt x p ≡ false) xs i → count_below p xs ≡ i
point-count p [] i le parts = omega arith
point-count p (x ∷ xs) zero le parts =
    let no : nat_lt x p ≡ false = parts.1 0 0 (omega arith) (omega arith) in
    let rest : count_below p xs ≡ 0 = point-count p xs 0 (omega arith) (λ k d a b. absurd (omega arith), λ k d a b. parts.1 (suc k) d (omega arith) (omega arith)) in
    ap (λ t. cond t (suc (count_below p xs)) (count_below p xs)) no ∙ rest
point-count p (x ∷ xs) (suc i) le parts =
    let yes : nat_lt x p ≡ true = parts.0 0 0 (omega arith) (omega arith) in
    let rest : count_below p xs ≡ i = point-count p xs i (omega arith) (λ k d a b. parts.0 (suc k) d (omega arith) (omega arith), λ k d a b. parts.1 (suc k) d (omega arith) (omega arith)) in
    ap (λ t. cond t (suc (count_below p xs)) (count_below p xs)) yes ∙ ap suc rest

is-count : (p : ℕ) (xs : List ℕ) → count_below p xs ≡ count_by (λ x. nat_lt x p) xs
is-count p xs = is_count_by (count_below p) (λ x. nat_lt x p) refl (λ x ys. ap (λ n. cond (nat_lt x p) n (count_below p ys)) (omega arith)) xs

pub count-permutation : (p : ℕ) (xs ys : List ℕ) → IsPermutation xs ys → count_below p ys ≡ count_below p xs
count-permutation p xs ys moved = is-count p ys ∙ (sum_by-IsPermutation (λ x. cond (nat_lt x p) 1 0) xs ys moved ∙ sym (is-count p xs))
