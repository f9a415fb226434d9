-- Sequences in the order of their places: each stands where its number says.
use Rattle.std.proofs.Common.{◌≡◌, ℕ, zero, suc, ◌<◌, Bool, true, false, cond, nat_eq, nat_lt, nat_le, List, [], ◌∷◌, map, length, get_or, ◌⊎◌, inl, inr, refl, sym, ap, ◌∙◌, subst, arith}
use Rattle.std.specs.List.{AllByRecursion, IsDistinct}
use Rattle.std.proofs.lemmas.Bool.{leb-true, leb-false, lt-ltb, le-ltb, eqb-false}
use Rattle.std.proofs.lemmas.List.Elements.{All-from_recursion}
use Rattle.std.specs.Prelude.{⊤}
use Rattle.ruby_meaning.specs.Sequences.{count_below}
use Rattle.compile_table.specs.Sequences.{Compiled, among, by_places}

-- the sequence is one of these
abbrev pub In : Compiled → List Compiled → Type 0
In e [] = ⊥
In e (c ∷ cs) = (e ≡ c) ⊎ In e cs

abbrev pub spots : List Compiled → List ℕ
spots cs = map (λ c. c.place) cs

-- each place is less than those behind it
abbrev Rises : List Compiled → Type 0
Rises [] = ⊤
Rises (c ∷ cs) = AllByRecursion (λ d. c.place < d.place) cs × Rises cs

pub of_all : (P : Compiled → Type 0) (cs : List Compiled) (e : Compiled) → AllByRecursion P cs → In e cs → P e
of_all P [] e all i = absurd i
of_all P (c ∷ cs) e all (inl same) = subst P (sym same) all.0
of_all P (c ∷ cs) e all (inr there) = of_all P cs e all.1 there

pub all_of : (P : Compiled → Type 0) (cs : List Compiled) → ((e : Compiled) → In e cs → P e) → AllByRecursion P cs
all_of P [] f = tt
all_of P (c ∷ cs) f = (f c (inl refl), all_of P cs (λ e i. f e (inr i)))

-- ---- one more among those in order

among_all : (P : Compiled → Type 0) (c : Compiled) (ds : List Compiled) → P c → AllByRecursion P ds → AllByRecursion P (among c ds)
among_all P c [] p all = (p, tt)
among_all P c (d ∷ ds) p all = by (nat_le c.place d.place) (among_all P c ds p all.1)
  where
    by : (b : Bool) → AllByRecursion P (among c ds) → AllByRecursion P (cond b (c ∷ (d ∷ ds)) (d ∷ among c ds))
    by true more = (p, all)
    by false more = (all.0, more)

among_new : (c : Compiled) (ds : List Compiled) → In c (among c ds)
among_new c [] = inl refl
among_new c (d ∷ ds) = by (nat_le c.place d.place) (among_new c ds)
  where
    by : (b : Bool) → In c (among c ds) → In c (cond b (c ∷ (d ∷ ds)) (d ∷ among c ds))
    by true more = inl refl
    by false more = inr more

among_old : (e c : Compiled) (ds : List Compiled) → In e ds → In e (among c ds)
among_old e c [] i = absurd i
among_old e c (d ∷ ds) (inl same) = by (nat_le c.place d.place)
  where
    by : (b : Bool) → In e (cond b (c ∷ (d ∷ ds)) (d ∷ among c ds))
    by true = inr (inl same)
    by false = inl same
among_old e c (d ∷ ds) (inr there) = by (nat_le c.place d.place) (among_old e c ds there)
  where
    by : (b : Bool) → In e (among c ds) → In e (cond b (c ∷ (d ∷ ds)) (d ∷ among c ds))
    by true more = inr (inr there)
    by false more = inr more

-- those behind the first one are behind what is less
above : (p q : ℕ) (ds : List Compiled) → p < q → AllByRecursion (λ d. q < d.place) ds → AllByRecursion (λ d. p < d.place) ds
above p q [] less all = tt
above p q (d ∷ ds) less all = (omega (arith, all.0), above p q ds less all.1)

among_rises : (c : Compiled) (ds : List Compiled) → AllByRecursion (λ d. nat_eq c.place d.place ≡ false) ds → Rises ds → Rises (among c ds)
among_rises c [] apart up = (tt, tt)
among_rises c (d ∷ ds) apart up = by (nat_le c.place d.place) refl (among_rises c ds apart.1 up.1)
  where
    by : (b : Bool) → nat_le c.place d.place ≡ b → Rises (among c ds) → Rises (cond b (c ∷ (d ∷ ds)) (d ∷ among c ds))
    by true e more =
        let less : c.place < d.place = omega (arith, leb-true c.place d.place e, eqb-false c.place d.place apart.0) in
        ((less, above c.place d.place ds less up.0), up)
    by false e more = (among_all (λ x. d.place < x.place) c ds (leb-false c.place d.place e) up.0, more)

among_count : (p : ℕ) (c : Compiled) (ds : List Compiled) → count_below p (spots (among c ds)) ≡ count_below p (c.place ∷ spots ds)
among_count p c [] = refl
among_count p c (d ∷ ds) = by (nat_le c.place d.place) (among_count p c ds)
  where
    swapped : (a b : Bool) (n : ℕ) → cond a (suc (cond b (suc n) n)) (cond b (suc n) n) ≡ cond b (suc (cond a (suc n) n)) (cond a (suc n) n)
    swapped true true n = refl
    swapped true false n = refl
    swapped false true n = refl
    swapped false false n = refl

    by : (b : Bool) → count_below p (spots (among c ds)) ≡ count_below p (c.place ∷ spots ds) → count_below p (spots (cond b (c ∷ (d ∷ ds)) (d ∷ among c ds))) ≡ count_below p (c.place ∷ (d.place ∷ spots ds))
    by true e = refl
    by false e =
        ap (λ n. cond (nat_lt d.place p) (suc n) n) e ∙ swapped (nat_lt d.place p) (nat_lt c.place p) (count_below p (spots ds))

-- ---- all of them

pub by_all : (P : Compiled → Type 0) (cs : List Compiled) → AllByRecursion P cs → AllByRecursion P (by_places cs)
by_all P [] all = tt
by_all P (c ∷ cs) all = among_all P c (by_places cs) all.0 (by_all P cs all.1)

by_in : (e : Compiled) (cs : List Compiled) → In e cs → In e (by_places cs)
by_in e [] i = absurd i
by_in e (c ∷ cs) (inl same) = subst (λ x. In x (among c (by_places cs))) (sym same) (among_new c (by_places cs))
by_in e (c ∷ cs) (inr there) = among_old e c (by_places cs) (by_in e cs there)

by_count : (p : ℕ) (cs : List Compiled) → count_below p (spots (by_places cs)) ≡ count_below p (spots cs)
by_count p [] = refl
by_count p (c ∷ cs) = among_count p c (by_places cs) ∙ ap (λ n. cond (nat_lt c.place p) (suc n) n) (by_count p cs)

of_spots : (P : ℕ → Type 0) (cs : List Compiled) → AllByRecursion P (spots cs) → AllByRecursion (λ c. P c.place) cs
of_spots P [] all = tt
of_spots P (c ∷ cs) all = (all.0, of_spots P cs all.1)

by_rises : (cs : List Compiled) → IsDistinct nat_eq (spots cs) → Rises (by_places cs)
unfolding IsDistinct
by_rises [] apart = tt
by_rises (c ∷ cs) apart =
    among_rises c (by_places cs) (by_all (λ d. nat_eq c.place d.place ≡ false) cs (of_spots (λ q. nat_eq c.place q ≡ false) cs apart.0)) (by_rises cs apart.1)

-- ---- where one stands

none_below : (p : ℕ) (ds : List Compiled) → AllByRecursion (λ d. p < d.place) ds → count_below p (spots ds) ≡ 0
none_below p [] all = refl
none_below p (d ∷ ds) all =
    ap (λ b. cond b (suc (count_below p (spots ds))) (count_below p (spots ds))) (le-ltb d.place p (omega (arith, all.0))) ∙ none_below p ds all.1

stands : (e z : Compiled) (ds : List Compiled) → Rises ds → In e ds → get_or ds (count_below e.place (spots ds)) z ≡ e
stands e z [] up i = absurd i
stands e z (d ∷ ds) up (inl same) = subst (λ x. get_or (d ∷ ds) (count_below x.place (spots (d ∷ ds))) z ≡ x) (sym same) (ap (λ n. get_or (d ∷ ds) n z) first)
  where
    first : count_below d.place (spots (d ∷ ds)) ≡ 0
    first = ap (λ b. cond b (suc (count_below d.place (spots ds))) (count_below d.place (spots ds))) (le-ltb d.place d.place (omega arith)) ∙ none_below d.place ds up.0
stands e z (d ∷ ds) up (inr there) = ap (λ n. get_or (d ∷ ds) n z) later ∙ stands e z ds up.1 there
  where
    later : count_below e.place (spots (d ∷ ds)) ≡ suc (count_below e.place (spots ds))
    later = ap (λ b. cond b (suc (count_below e.place (spots ds))) (count_below e.place (spots ds))) (lt-ltb d.place e.place (of_all (λ x. d.place < x.place) ds e up.0 there))

-- as many have a lesser place as stand before it
before : (z : Compiled) (ds : List Compiled) (k : ℕ) → Rises ds → k < length ds → count_below (get_or ds k z).place (spots ds) ≡ k
before z [] k up less = absurd (omega arith)
before z (d ∷ ds) zero up less =
    ap (λ b. cond b (suc (count_below d.place (spots ds))) (count_below d.place (spots ds))) (le-ltb d.place d.place (omega arith)) ∙ none_below d.place ds up.0
before z (d ∷ ds) (suc k) up less =
    let p = (get_or ds k z).place in
    let later : nat_lt d.place p ≡ true = lt-ltb d.place p (All-from_recursion (λ (x : Compiled). d.place < x.place) ds up.0 k z (omega arith)) in
    ap (λ b. cond b (suc (count_below p (spots ds))) (count_below p (spots ds))) later ∙ ap suc (before z ds k up.1 (omega arith))

pub those_before : (z : Compiled) (cs : List Compiled) (k : ℕ) → IsDistinct nat_eq (spots cs) → k < length (by_places cs) → count_below (get_or (by_places cs) k z).place (spots cs) ≡ k
those_before z cs k apart less = sym (by_count (get_or (by_places cs) k z).place cs) ∙ before z (by_places cs) k (by_rises cs apart) less

-- among those in order, one stands behind as many as have a lesser place
pub in_its_place : (e z : Compiled) (cs : List Compiled) → IsDistinct nat_eq (spots cs) → In e cs → get_or (by_places cs) (count_below e.place (spots cs)) z ≡ e
in_its_place e z cs apart i = ap (λ n. get_or (by_places cs) n z) (sym (by_count e.place cs)) ∙ stands e z (by_places cs) (by_rises cs apart) (by_in e cs i)
