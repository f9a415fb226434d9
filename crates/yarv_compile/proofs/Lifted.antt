-- What is kept of sequences, put in order.
use Rattle.std.proofs.Common.{◌≡◌, ℕ, nat_eq, List, [], ◌∷◌, map, refl, sym, ap, ap₂, ◌∙◌, subst}
use Rattle.std.specs.Prelude.{IsPermutation}
use Rattle.std.specs.List.{IsDistinct, swap}
use Rattle.std.specs.List.Sorted.{IsStrictlyIncreasing, SwapsInRange, apply_swaps}
use Rattle.std.proofs.lemmas.List.{length-map}
use Rattle.std.proofs.lemmas.List.Sorted.{IsPermutation-sym}
use Rattle.std.proofs.Math.ListN.{get_or, set, get_or-map}
use Rattle.std.proofs.Math.Seq.{map-set}
use Rattle.compile_table.specs.Sequences.{Compiled, by_places}
use Rattle.yarv_compile.specs.Children.{places_in}
use Rattle.yarv_compile.proofs.ByPlaces.{increasing_is_ordered}

module _ {X Y : Type 0} (f : X → Y) where
  map_swap : (xs : List X) (i j : ℕ) → map f (swap xs i j) ≡ swap (map f xs) i j
  map_swap [] i j = refl
  map_swap (d ∷ ys) i j = map-set f (set (d ∷ ys) i (get_or (d ∷ ys) j d)) j (get_or (d ∷ ys) i d)
      ∙ (λ k. set ((map-set f (d ∷ ys) i (get_or (d ∷ ys) j d) ∙ ap (set (map f (d ∷ ys)) i) (sym (get_or-map f (d ∷ ys) j d))) k) j (sym (get_or-map f (d ∷ ys) i d) k))

  map_swaps : (xs : List X) (ps : List (ℕ × ℕ)) → map f (apply_swaps xs ps) ≡ apply_swaps (map f xs) ps
  map_swaps xs [] = refl
  map_swaps xs (p ∷ ps) = map_swap (apply_swaps xs ps) p.0 p.1 ∙ ap (λ l. swap l p.0 p.1) (map_swaps xs ps)

-- what was exchanged among the values of a function can be exchanged among what it was asked of
pub lifted : {A B : Type 0} (f : A → B) (xs : List A) (ys : List B) → IsPermutation (map f xs) ys → (es : List A) × IsPermutation xs es × (map f es ≡ ys)
lifted f xs ys s = (apply_swaps xs s.moves, moved, map_swaps f xs s.moves ∙ sym s.is)
  where
    moved : IsPermutation xs (apply_swaps xs s.moves)
    moved = record { moves = s.moves; below = subst (λ n. SwapsInRange n s.moves) (length-map xs f) s.below; is = refl }

-- What is kept of sequences of distinct places, in an order in which the places rise, is what is kept of them in the order of their places.
pub kept_in_order : {B : Type 0} (f : Compiled → B) (place : B → ℕ) → ((c : Compiled) → place (f c) ≡ c.place) → (cs : List Compiled) (ys : List B) → IsPermutation (map f cs) ys → IsDistinct nat_eq (places_in cs) → IsStrictlyIncreasing (map place ys) → ys ≡ map f (by_places cs)
kept_in_order f place told cs ys s apart up = by (lifted f cs ys s)
  where
    places_are : (es : List Compiled) → map place (map f es) ≡ places_in es
    places_are [] = refl
    places_are (e ∷ es) = ap₂ (λ p ps. p ∷ ps) (told e) (places_are es)

    by : (es : List Compiled) × IsPermutation cs es × (map f es ≡ ys) → ys ≡ map f (by_places cs)
    by (es, moved, is) =
        sym is
        ∙ ap (map f) (increasing_is_ordered es cs (IsPermutation-sym cs es moved) apart (subst IsStrictlyIncreasing (ap (map place) (sym is) ∙ places_are es) up))
