-- Reading many, one behind the other, as a loop does.
use Rattle.std.proofs.Common.{◌≡◌, ℕ, suc, ◌-◌, ◌+◌, ◌≤◌, ◌<◌, List, [], ◌∷◌, ◌++◌, Option, Some, None, refl, sym, ap, ◌∙◌, append_assoc, arith}
use Rattle.std.proofs.lemmas.List.{append-nil}
use Rattle.iseq_dump.specs.declared.fault.ReadError.{ReadError}
use Rattle.iseq_dump.specs.declared.fault.ReadError.TheVariants.{Memory, NotSpelled}
use Rattle.iseq_dump.specs.Reading.{◌▷◌, Fails, times_at}

-- what was read before, and what is still read
abbrev pub with_front : {X : Type 0} → List X → Option (List X × List ℕ) → Option (List X × List ℕ)
with_front front read = read ▷ λ x. Some (front ++ x.0, x.1)

pub regroup : {X : Type 0} (front : List X) (x : X) (read : Option (List X × List ℕ)) → with_front front (read ▷ λ xs. Some (x ∷ xs.0, xs.1)) ≡ with_front (front ++ x ∷ []) read
regroup {X} front x (Some xs) = ap (λ (ys : List X). Some (ys, xs.1)) (simp append_assoc)
regroup front x None = refl

pub times_go_on : {X : Type 0} (at : List ℕ → Option (X × List ℕ)) (front : List X) (count i : ℕ) (bytes : List ℕ) (x : X) (after : List ℕ) (whole : Option (List X × List ℕ)) → i < count → at bytes ≡ Some (x, after)
    → with_front front (times_at at (count - i) bytes) ≡ whole → with_front (front ++ x ∷ []) (times_at at (count - (i + 1)) after) ≡ whole
unfolding times_at
times_go_on at front count i bytes x after whole lt h so_far =
    let k : count - i ≡ suc (count - (i + 1)) = omega arith in
    let one : with_front front (times_at at (count - i) bytes) ≡ with_front (front ++ x ∷ []) (times_at at (count - (i + 1)) after) = rw (k, h) (regroup front x (times_at at (count - (i + 1)) after)) in
    sym one ∙ so_far

times_none : {X : Type 0} (at : List ℕ → Option (X × List ℕ)) (front : List X) (n : ℕ) (bytes : List ℕ) → at bytes ≡ None → with_front front (times_at at (suc n) bytes) ≡ None
unfolding times_at
times_none at front n bytes h = rw h refl

pub times_end : {X : Type 0} (at : List ℕ → Option (X × List ℕ)) (e : ReadError) (front : List X) (count i : ℕ) (bytes : List ℕ) (whole : Option (List X × List ℕ)) → i < count → Fails e (at bytes)
    → with_front front (times_at at (count - i) bytes) ≡ whole → Fails e whole
times_end at Memory front count i bytes whole lt h so_far = tt
times_end {X} at NotSpelled front count i bytes whole lt h so_far =
    let k : count - i ≡ suc (count - (i + 1)) = omega arith in
    sym so_far ∙ (ap (λ (n : ℕ). with_front front (times_at at n bytes)) k ∙ times_none at front (count - (i + 1)) bytes h)

pub times_done : {X : Type 0} (at : List ℕ → Option (X × List ℕ)) (front : List X) (count i : ℕ) (bytes : List ℕ) (whole : Option (List X × List ℕ)) → count ≤ i → with_front front (times_at at (count - i) bytes) ≡ whole → whole ≡ Some (front, bytes)
unfolding times_at
times_done {X} at front count i bytes whole le so_far =
    let k : count - i ≡ 0 = omega arith in
    let one : with_front front (times_at at (count - i) bytes) ≡ Some (front, bytes) = rw k (ap (λ (xs : List X). Some (xs, bytes)) (append-nil front)) in
    sym so_far ∙ one
