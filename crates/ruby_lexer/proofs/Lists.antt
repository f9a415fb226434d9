-- Lists of bytes.
use Rattle.std.proofs.Common.{◌≡◌, ℕ, ◌≤◌, ◌<◌, [], ◌∷◌, length, drop, Bool, true, false, ◌&&◌, refl, arith, subst, Option, Some, None, length-drop}
use Rattle.std.proofs.lemmas.Bool.{eqb-true}
use Rattle.std.specs.List.{list_all}
use Rattle.ruby_lexer.specs.Bytes.{Bytes, is_inline, begins, run, starts, from_first}
use Rattle.ruby_lexer.proofs.Each.{by_test}

pub false_true : {X : Type 0} → false ≡ true → X
false_true h = cc

pub true_false : {X : Type 0} → true ≡ false → X
true_false h = cc

pub drop_le : (n : ℕ) (w : Bytes) → length (drop n w) ≤ length w
drop_le n w = omega (arith, length-drop n w)

pub begins_some : (test : ℕ → Bool) (w : Bytes) → begins test w ≡ true → 0 < length w
begins_some test [] h = false_true h
begins_some test (b ∷ w) h = omega arith

pub drop_one : (w : Bytes) → 0 < length w → length (drop 1 w) < length w
drop_one w h = omega (arith, length-drop 1 w)

pub and_left : (a b : Bool) → (a && b) ≡ true → a ≡ true
and_left true b h = refl
and_left false b h = false_true h

pub and_right : (a b : Bool) → (a && b) ≡ true → b ≡ true
and_right true b h = h
and_right false b h = false_true h

pub starts_fits : (f w : Bytes) → starts f w ≡ true → length f ≤ length w
starts_fits [] w h = omega arith
starts_fits (b ∷ f) [] h = false_true h
starts_fits (b ∷ f) (c ∷ w) h = omega (arith, starts_fits f w (and_right _ _ h))

pub first_le : (f w r : Bytes) → from_first f w ≡ Some r → length r ≤ length w
first_le f [] r h = let h' : (let o : Option Bytes = None in o) ≡ Some r = h in cc
first_le f (b ∷ w) r h =
    by_test (starts f (b ∷ w))
    (λ t. let e : Some (b ∷ w) ≡ Some r = rw t at h in let is : b ∷ w ≡ r = cc in rw (← is) (omega arith))
    (λ t. let e : from_first f w ≡ Some r = rw t at h in omega (arith, first_le f w r e))

pub first_starts : (f w r : Bytes) → from_first f w ≡ Some r → starts f r ≡ true
first_starts f [] r h = let h' : (let o : Option Bytes = None in o) ≡ Some r = h in cc
first_starts f (b ∷ w) r h =
    by_test (starts f (b ∷ w))
    (λ t. let e : Some (b ∷ w) ≡ Some r = rw t at h in let is : b ∷ w ≡ r = cc in subst (λ (z : Bytes). starts f z ≡ true) is t)
    (λ t. let e : from_first f w ≡ Some r = rw t at h in first_starts f w r e)

-- bytes within a line, at the front, are in the run
pub run_starts : (f w : Bytes) → list_all is_inline f ≡ true → starts f w ≡ true → length f ≤ run is_inline w
run_starts [] w a h = omega arith
run_starts (b ∷ f) [] a h = false_true h
run_starts (b ∷ f) (c ∷ w) a h =
    let is : c ≡ b = eqb-true c b (and_left _ _ h) in
    let in_line : is_inline c ≡ true = rw is (and_left _ _ a) in
    rw in_line (omega (arith, run_starts f w (and_right _ _ a) (and_right _ _ h)))
