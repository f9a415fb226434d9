-- Changes behind a gap.
use Rattle.std.proofs.Common.{◌≡◌, ℕ, zero, suc, ◌+◌, ◌<◌, ◌≤◌, List, [], ◌∷◌, ◌++◌, length, take, drop, slice_set, insert, remove, refl, sym, ◌∙◌, ap, arith}
use Rattle.std.proofs.Math.Seq.{drop-append_seam}

pub drop_none : {A : Type 0} → (xs : List A) → drop 0 xs ≡ xs
drop_none [] = refl
drop_none (x ∷ xs) = refl

pub set_behind : {A : Type 0} → (g k : ℕ) (xs : List A) (p : ℕ) (v : A) → k ≡ g + p → drop g (slice_set xs k v) ≡ slice_set (drop g xs) p v
set_behind zero k xs p v h = drop_none (slice_set xs k v) ∙ ap (λ n. slice_set xs n v) (omega (arith, h)) ∙ sym (ap (λ l. slice_set l p v) (drop_none xs))
set_behind (suc g) k [] p v h = refl
set_behind (suc g) zero (x ∷ xs) p v h = absurd (omega (arith, h))
set_behind (suc g) (suc k) (x ∷ xs) p v h = set_behind g k xs p v (omega (arith, h))

pub set_beyond : {A : Type 0} → (xs : List A) (p : ℕ) (v : A) → length xs ≤ p → slice_set xs p v ≡ xs
set_beyond [] p v h = refl
set_beyond (x ∷ xs) zero v h = absurd (omega (arith, h))
set_beyond (x ∷ xs) (suc p) v h = ap (λ l. x ∷ l) (set_beyond xs p v (omega (arith, h)))

pub take_beyond : {A : Type 0} → (xs : List A) (n : ℕ) → length xs ≤ n → take n xs ≡ xs
take_beyond [] zero h = refl
take_beyond [] (suc n) h = refl
take_beyond (x ∷ xs) zero h = absurd (omega (arith, h))
take_beyond (x ∷ xs) (suc n) h = ap (λ l. x ∷ l) (take_beyond xs n (omega (arith, h)))

pub take_behind : {A : Type 0} → (g k : ℕ) (xs : List A) (n : ℕ) → k ≡ g + n → drop g (take k xs) ≡ take n (drop g xs)
take_behind zero k xs n h = drop_none (take k xs) ∙ ap (λ m. take m xs) (omega (arith, h)) ∙ sym (ap (take n) (drop_none xs))
take_behind (suc g) zero xs n h = absurd (omega (arith, h))
take_behind (suc g) (suc k) [] zero h = refl
take_behind (suc g) (suc k) [] (suc n) h = refl
take_behind (suc g) (suc k) (x ∷ xs) n h = take_behind g k xs n (omega (arith, h))

pub insert_behind : {A : Type 0} → (g k : ℕ) (xs : List A) (p : ℕ) (v : A) → k ≡ g + p → g ≤ length xs → drop g (insert xs k v) ≡ insert (drop g xs) p v
insert_behind zero k xs p v e h = drop_none (insert xs k v) ∙ ap (λ n. insert xs n v) (omega (arith, e)) ∙ sym (ap (λ l. insert l p v) (drop_none xs))
insert_behind (suc g) k [] p v e h = absurd (omega (arith, h))
insert_behind (suc g) zero (x ∷ xs) p v e h = absurd (omega (arith, e))
insert_behind (suc g) (suc k) (x ∷ xs) p v e h = insert_behind g k xs p v (omega (arith, e)) (omega (arith, h))

pub remove_behind : {A : Type 0} → (g k : ℕ) (xs : List A) (p : ℕ) → k ≡ g + p → drop g (remove xs k) ≡ remove (drop g xs) p
remove_behind zero k xs p h = drop_none (remove xs k) ∙ ap (remove xs) (omega (arith, h)) ∙ sym (ap (λ l. remove l p) (drop_none xs))
remove_behind (suc g) zero xs p h = absurd (omega (arith, h))
remove_behind (suc g) (suc k) [] zero h = refl
remove_behind (suc g) (suc k) [] (suc p) h = refl
remove_behind (suc g) (suc k) (x ∷ xs) p h = remove_behind g k xs p (omega (arith, h))

pub first_removed : {A : Type 0} → (g : ℕ) (xs : List A) → drop (suc g) xs ≡ remove (drop g xs) 0
first_removed zero [] = refl
first_removed zero (x ∷ xs) = refl
first_removed (suc g) [] = refl
first_removed (suc g) (x ∷ xs) = first_removed g xs

pub first_set : {A : Type 0} → (g : ℕ) (xs : List A) (v : A) → g < length xs → drop g (slice_set xs g v) ≡ v ∷ drop (suc g) xs
first_set g [] v h = absurd (omega (arith, h))
first_set zero (x ∷ xs) v h = refl
first_set (suc g) (x ∷ xs) v h = first_set g xs v (omega (arith, h))

pub remove_beyond : {A : Type 0} → (xs : List A) (p : ℕ) → length xs ≤ p → remove xs p ≡ xs
remove_beyond [] zero h = refl
remove_beyond [] (suc p) h = refl
remove_beyond (x ∷ xs) zero h = absurd (omega (arith, h))
remove_beyond (x ∷ xs) (suc p) h = ap (λ l. x ∷ l) (remove_beyond xs p (omega (arith, h)))

pub first_inserted : {A : Type 0} → (xs : List A) (v : A) → v ∷ xs ≡ insert xs 0 v
first_inserted [] v = refl
first_inserted (x ∷ xs) v = refl

-- the first is set in a gap that is as long as the items and one more
pub doubled_set : {A : Type 0} → (xs made : List A) (x v : A) → made ≡ (x ∷ xs) ++ xs → drop (length xs) (slice_set made (length xs) v) ≡ v ∷ xs
doubled_set xs made x v h =
    ap (λ l. drop (length xs) (slice_set l (length xs) v)) h
    ∙ first_set (length xs) ((x ∷ xs) ++ xs) v (within x xs xs)
    ∙ ap (λ l. v ∷ l) (drop-append_seam (x ∷ xs) xs)
  where
    within : {A : Type 0} → (x : A) (xs ys : List A) → length xs < length ((x ∷ xs) ++ ys)
    within x [] ys = omega (arith)
    within x (y ∷ xs) ys = omega (arith, within y xs ys)
