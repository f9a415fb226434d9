-- Sequences in the order of their places: there is one such order.
use Rattle.std.proofs.Common.{◌≡◌, ℕ, ◌<◌, Bool, true, false, cond, nat_eq, nat_le, nat_lt, List, [], ◌∷◌, inl, inr, refl, sym, ap, ap₂, subst, arith}
use Rattle.std.specs.Prelude.{⊤, IsPermutation}
use Rattle.std.specs.List.{AllByRecursion, IsDistinct}
use Rattle.std.specs.List.Sorted.{IsStrictlyIncreasing, IsStrictlySortedBy}
use Rattle.std.specs.Ordering.{nat_cmp}
use Rattle.std.specs.declared.cmp.Ordering.TheVariants.{Less, Equal, Greater}
use Rattle.std.proofs.lemmas.Bool.{leb-true, leb-false, eqb-false, ltb-true}
use Rattle.std.proofs.lemmas.Bool.Decides.{nat_tests}
use Rattle.std.proofs.lemmas.List.Elements.{All-from_recursion, recursion_from_All}
use Rattle.std.proofs.lemmas.List.Sorted.{IsPermutation-refl, IsPermutation-sym, IsPermutation-cons, IsPermutation-append_left, IsPermutation-append_comm, IsPermutation-map, All-permutation}
use Rattle.std.proofs.lemmas.Map.Keys.{IsDistinct-IsPermutation, sorted_from_strictly_increasing}
use Rattle.compile_table.specs.Sequences.{Compiled, among, by_places}
use Rattle.compile_laws.proofs.ByPlaces.{In, of_all, all_of}
use Rattle.yarv_compile.specs.Children.{places_in}
use Rattle.yarv_compile.proofs.Reordered.{◌▸◌}

-- each place is less than those behind it
abbrev Rises : List Compiled → Type 0
Rises [] = ⊤
Rises (c ∷ cs) = AllByRecursion (λ d. c.place < d.place) cs × Rises cs

-- ---- elements of lists with the same elements

every : (P : Compiled → Type 0) (cs ds : List Compiled) → IsPermutation cs ds → AllByRecursion P cs → AllByRecursion P ds
every P cs ds s all = recursion_from_All P ds (All-permutation P cs ds s (All-from_recursion P cs all))

also_in : (cs ds : List Compiled) → IsPermutation cs ds → (e : Compiled) → In e cs → In e ds
also_in cs ds s e i = of_all (λ x. In x ds) cs e (every (λ x. In x ds) ds cs (IsPermutation-sym cs ds s) (all_of (λ x. In x ds) ds (λ x j. j))) i

-- ---- lists in order

-- with the same elements they are the same
only_one : (cs ds : List Compiled) → Rises cs → Rises ds → ((e : Compiled) → In e cs → In e ds) → ((e : Compiled) → In e ds → In e cs) → cs ≡ ds
only_one [] [] up down f g = refl
only_one [] (d ∷ ds) up down f g = absurd (g d (inl refl))
only_one (c ∷ cs) [] up down f g = absurd (f c (inl refl))
only_one (c ∷ cs) (d ∷ ds) up down f g = ap₂ (λ (x : Compiled) (xs : List Compiled). x ∷ xs) same (only_one cs ds up.1 down.1 onward back)
  where
    first : In c (d ∷ ds) → In d (c ∷ cs) → c ≡ d
    first (inl e) j = e
    first (inr i) (inl e) = sym e
    first (inr i) (inr j) =
        let a : d.place < c.place = of_all (λ x. d.place < x.place) ds c down.0 i in let b : c.place < d.place = of_all (λ x. c.place < x.place) cs d up.0 j in absurd (omega (arith, a, b))

    same : c ≡ d
    same = first (f c (inl refl)) (g d (inl refl))

    -- what stands behind the first is not the first
    behind : (x e : Compiled) → x.place < e.place → e ≡ x → ⊥
    behind x e less z = let y : e.place ≡ x.place = ap (λ (s : Compiled). s.place) z in omega (arith, less, y)

    onward : (e : Compiled) → In e cs → In e ds
    onward e i = by (f e (inr i))
      where
        by : In e (d ∷ ds) → In e ds
        by (inl z) = absurd (behind d e (subst (λ (x : Compiled). x.place < e.place) same (of_all (λ x. c.place < x.place) cs e up.0 i)) z)
        by (inr j) = j

    back : (e : Compiled) → In e ds → In e cs
    back e i = by (g e (inr i))
      where
        by : In e (c ∷ cs) → In e cs
        by (inl z) = absurd (behind c e (subst (λ (x : Compiled). x.place < e.place) (sym same) (of_all (λ x. d.place < x.place) ds e down.0 i)) z)
        by (inr j) = j

one_order : (cs ds : List Compiled) → IsPermutation cs ds → Rises cs → Rises ds → cs ≡ ds
one_order cs ds s up down = only_one cs ds up down (also_in cs ds s) (also_in ds cs (IsPermutation-sym cs ds s))

-- ---- put in order

swapped : (c d : Compiled) (ds : List Compiled) → IsPermutation (d ∷ (c ∷ ds)) (c ∷ (d ∷ ds))
swapped c d ds = IsPermutation-append_left ds (d ∷ (c ∷ [])) (c ∷ (d ∷ [])) (IsPermutation-append_comm (d ∷ []) (c ∷ []))

among_same : (c : Compiled) (ds : List Compiled) → IsPermutation (among c ds) (c ∷ ds)
among_same c [] = IsPermutation-refl (c ∷ [])
among_same c (d ∷ ds) = by (nat_le c.place d.place) (among_same c ds)
  where
    by : (b : Bool) → IsPermutation (among c ds) (c ∷ ds) → IsPermutation (cond b (c ∷ (d ∷ ds)) (d ∷ among c ds)) (c ∷ (d ∷ ds))
    by true s = IsPermutation-refl (c ∷ (d ∷ ds))
    by false s = IsPermutation-cons d (among c ds) (c ∷ ds) s ▸ swapped c d ds

pub by_same : (cs : List Compiled) → IsPermutation (by_places cs) cs
by_same [] = IsPermutation-refl []
by_same (c ∷ cs) = among_same c (by_places cs) ▸ IsPermutation-cons c (by_places cs) cs (by_same cs)

-- those behind the first one are behind what is less
above : (p q : ℕ) (ds : List Compiled) → p < q → AllByRecursion (λ d. q < d.place) ds → AllByRecursion (λ d. p < d.place) ds
above p q [] less all = tt
above p q (d ∷ ds) less all = (omega (arith, less, all.0), above p q ds less all.1)

among_rises : (c : Compiled) (ds : List Compiled) → AllByRecursion (λ d. nat_eq c.place d.place ≡ false) ds → Rises ds → Rises (among c ds)
among_rises c [] apart up = (tt, tt)
among_rises c (d ∷ ds) apart up = by (nat_le c.place d.place) refl (among_rises c ds apart.1 up.1)
  where
    by : (b : Bool) → nat_le c.place d.place ≡ b → Rises (among c ds) → Rises (cond b (c ∷ (d ∷ ds)) (d ∷ among c ds))
    by true e more =
        let less : c.place < d.place = omega (arith, leb-true c.place d.place e, eqb-false c.place d.place apart.0) in
        ((less, above c.place d.place ds less up.0), up)
    by false e more =
        (every (λ x. d.place < x.place) (c ∷ ds) (among c ds) (IsPermutation-sym (among c ds) (c ∷ ds) (among_same c ds)) (leb-false c.place d.place e, up.0), more)

of_places : (P : ℕ → Type 0) (cs : List Compiled) → AllByRecursion P (places_in cs) → AllByRecursion (λ c. P c.place) cs
of_places P [] all = tt
of_places P (c ∷ cs) all = (all.0, of_places P cs all.1)

by_rises : (cs : List Compiled) → IsDistinct nat_eq (places_in cs) → Rises (by_places cs)
unfolding IsDistinct
by_rises [] apart = tt
by_rises (c ∷ cs) apart =
    among_rises c (by_places cs) (every (λ d. nat_eq c.place d.place ≡ false) cs (by_places cs) (IsPermutation-sym (by_places cs) cs (by_same cs)) (of_places (λ q. nat_eq c.place q ≡ false) cs apart.0)) (by_rises cs apart.1)

-- ---- what follows

less_is : (p q : ℕ) → nat_cmp p q ≡ Less → p < q
less_is p q e = by (nat_lt p q) refl e
  where
    by : (b : Bool) → nat_lt p q ≡ b → cond b Less (cond (nat_eq p q) Equal Greater) ≡ Less → p < q
    by true l z = ltb-true p q l
    by false l z = absurd (neither (nat_eq p q) z)
      where
        neither : (b : Bool) → cond b Equal Greater ≡ Less → ⊥
        neither true z = absurd cc
        neither false z = absurd cc

rises_again : (cs : List Compiled) → IsStrictlySortedBy nat_cmp (places_in cs) → Rises cs
unfolding IsStrictlySortedBy
rises_again [] up = tt
rises_again (c ∷ cs) up = (of_places (λ q. c.place < q) cs (below c.place (places_in cs) up.0), rises_again cs up.1)
  where
    below : (p : ℕ) (qs : List ℕ) → AllByRecursion (λ q. nat_cmp p q ≡ Less) qs → AllByRecursion (λ q. p < q) qs
    below p [] all = tt
    below p (q ∷ qs) all = (less_is p q all.0, below p qs all.1)

pub increasing_is_ordered : (cs ds : List Compiled) → IsPermutation cs ds → IsDistinct nat_eq (places_in ds) → IsStrictlyIncreasing (places_in cs) → cs ≡ by_places ds
increasing_is_ordered cs ds s apart up =
    one_order cs (by_places ds) (s ▸ IsPermutation-sym (by_places ds) ds (by_same ds)) (rises_again cs (sorted_from_strictly_increasing (places_in cs) up)) (by_rises ds apart)

pub same_order : (cs ds : List Compiled) → IsPermutation cs ds → IsDistinct nat_eq (places_in ds) → by_places cs ≡ by_places ds
same_order cs ds s apart =
    let back = IsPermutation-sym cs ds s in
    let also : IsDistinct nat_eq (places_in cs) = IsDistinct-IsPermutation nat_eq (λ x y. grind (arith, nat_tests)) (places_in ds) (places_in cs) (IsPermutation-map (λ (c : Compiled). c.place) ds cs back) apart in
    one_order (by_places cs) (by_places ds) (by_same cs ▸ (s ▸ IsPermutation-sym (by_places ds) ds (by_same ds))) (by_rises cs also) (by_rises ds apart)
