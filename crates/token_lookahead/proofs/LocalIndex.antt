-- The index of the locals, over plain lists.
use Rattle.std.proofs.Common.{◌≡◌, ◌≢◌, ℕ, zero, suc, ◌+◌, ◌<◌, ◌≤◌, List, [], ◌∷◌, ◌++◌, map, reverse, length, get_or, slice_get, slice_set, nat_eq, nat_lt, Bool, true, false, not, ◌||◌, Some, refl, sym, ◌∙◌, ap, subst, arith, add-one}
use Rattle.std.specs.List.{AllByRecursion, IsDistinct, list_any}
use Rattle.std.proofs.lemmas.Bool.{eqb-true, ltb-true, ltb-false}
use Rattle.std.proofs.lemmas.Option.{slice_get-get_or, get_or_from_slice_get}
use Rattle.std.proofs.lemmas.List.{map-append, reverse-append, get_or_past, get_or-set_same, get_or-set_other}
use Rattle.std.proofs.Math.ListN.{length-set}
use Rattle.ruby_lexer.specs.Bytes.{Bytes, same, is_in}
use Rattle.ruby_tree.specs.Names.{Extends}
use Rattle.token_lookahead.specs.LocalNames.{name_of, newest, befores, Indexed}
use Rattle.ruby_tree.proofs.Numbers.{only_number}
use Rattle.token_lookahead.proofs.SameBytes.{same_is, is_same}

false_true : {X : Type 0} → false ≡ true → X
false_true h = cc

by_test : {X : Type 0} → (b : Bool) → (b ≡ true → X) → (b ≡ false → X) → X
by_test true t f = t refl
by_test false t f = f refl

is_eq : (n m : ℕ) → n ≡ m → nat_eq n m ≡ true
is_eq n m e = grind arith

not_eq : (n m : ℕ) → nat_eq n m ≡ false → n ≢ m
not_eq n m f e = false_true (sym f ∙ is_eq n m e)

suc_not : (n : ℕ) → nat_eq (suc n) 0 ≡ false
suc_not n = by_test (nat_eq (suc n) 0) (λ t. let e : suc n ≡ 0 = eqb-true (suc n) 0 t in absurd (omega arith)) (λ f. f)

or_left : (a b : Bool) → (a || b) ≡ false → a ≡ false
or_left false b h = refl
or_left true b h = h

or_right : (a b : Bool) → (a || b) ≡ false → b ≡ false
or_right false b h = h
or_right true b h = false_true (sym h)

pub nothing : Indexed [] [] [] []
unfolding IsDistinct
nothing = record { apart = tt; fits = omega arith; within = tt; newest_is = λ n. refl; before_is = refl }

module _ (texts : List Bytes) (name : Bytes) where
  -- a name of the table is a local where its number has a newest place
  pub listed : (n : ℕ) → IsDistinct same texts → slice_get texts n ≡ Some name → (ns : List ℕ) → AllByRecursion (λ m. m < length texts) ns → is_in name (map (name_of texts) ns) ≡ not (nat_eq (newest n ns) 0)
  listed n apart at_n [] within = refl
  listed n apart at_n (m ∷ ms) within =
      by_test (nat_eq n m)
      (λ t. let is : n ≡ m = eqb-true n m t in
      let named : same name (name_of texts m) ≡ true = is_same _ _ (sym (get_or_from_slice_get texts m name [] (subst (λ k. slice_get texts k ≡ Some name) is at_n))) in
      rw (t, named) (sym (ap not (suc_not (length ms)))))
      (λ f. let other : same name (name_of texts m) ≡ false = apart_from m within.0 f in
      rw (f, other) (listed n apart at_n ms within.1))
    where
      apart_from : (m : ℕ) → m < length texts → nat_eq n m ≡ false → same name (name_of texts m) ≡ false
      apart_from m below f =
          by_test (same name (name_of texts m))
          (λ t. let at_m : slice_get texts m ≡ Some name = slice_get-get_or texts m [] below ∙ ap (λ x. Some x) (sym (same_is _ _ t)) in
          false_true (sym f ∙ is_eq n m (sym (only_number texts name n apart at_n m at_m))))
          (λ t. t)

  -- no other name is one
  pub unlisted : list_any (same name) texts ≡ false → (ns : List ℕ) → AllByRecursion (λ m. m < length texts) ns → is_in name (map (name_of texts) ns) ≡ false
  unlisted none [] within = refl
  unlisted none (m ∷ ms) within = rw (other_at texts m none within.0) (unlisted none ms within.1)
    where
      other_at : (fs : List Bytes) (m : ℕ) → list_any (same name) fs ≡ false → m < length fs → same name (get_or fs m []) ≡ false
      other_at [] m h below = absurd (omega arith)
      other_at (f ∷ fs) zero h below = or_left _ _ h
      other_at (f ∷ fs) (suc m) h below = other_at fs m (or_right _ _ h) (omega arith)

below_more : (i j : ℕ) → i ≤ j → (ns : List ℕ) → AllByRecursion (λ n. n < i) ns → AllByRecursion (λ n. n < j) ns
below_more i j h [] w = tt
below_more i j h (n ∷ ns) w = (omega arith, below_more i j h ns w.1)

pub within_texts : (texts : List Bytes) (places ns bs : List ℕ) → Indexed texts places ns bs → AllByRecursion (λ n. n < length texts) ns
within_texts texts places ns bs h = below_more _ _ h.fits ns h.within

-- the table may grow, and places of no local be added
pub extended : (old new : List Bytes) (places more ns bs : List ℕ) → Indexed old places ns bs → IsDistinct same new → length more ≤ length new → ((n : ℕ) → get_or more n 0 ≡ get_or places n 0) → length places ≤ length more → Indexed new more ns bs
extended old new places more ns bs h apart fits is longer = record {
  apart = apart;
  fits = fits;
  within = below_more _ _ longer ns h.within;
  newest_is = λ n. is n ∙ h.newest_is n;
  before_is = h.before_is;
}

-- and the locals keep their names
pub kept : (old new : List Bytes) → Extends old new → (ns : List ℕ) → AllByRecursion (λ n. n < length old) ns → map (name_of new) ns ≡ map (name_of old) ns
kept old new more [] within = refl
kept old new more (n ∷ ns) within =
    let is : name_of new n ≡ name_of old n = get_or_from_slice_get new n (name_of old n) [] (more n (name_of old n) (slice_get-get_or old n [] within.0)) in
    rw (is, kept old new more ns within.1) refl

-- a local more
pub pushed : (texts : List Bytes) (places ns bs : List ℕ) (n : ℕ) → Indexed texts places ns bs → n < length places → Indexed texts (slice_set places n (length ns + 1)) (n ∷ ns) (get_or places n 0 ∷ bs)
pushed texts places ns bs n h below = record {
  apart = h.apart;
  fits = rw (length-set places n (length ns + 1)) h.fits;
  within = subst (λ k. AllByRecursion (λ m. m < k) (n ∷ ns)) (sym (length-set places n (length ns + 1))) (below, h.within);
  newest_is = λ m. by_test (nat_eq m n) (λ t. ap (λ k. get_or (slice_set places n (length ns + 1)) k 0) (eqb-true m n t) ∙ get_or-set_same places n (length ns + 1) 0 below ∙ rw (t, add-one) refl) (λ f. get_or-set_other places n m (length ns + 1) 0 (not_eq m n f) ∙ h.newest_is m ∙ rw f refl);
  before_is = rw (h.newest_is n, h.before_is) refl;
}

-- a local less
pub popped : (texts : List Bytes) (places ns bs : List ℕ) (n b : ℕ) → Indexed texts places (n ∷ ns) (b ∷ bs) → Indexed texts (slice_set places n b) ns bs
popped texts places ns bs n b h = record {
  apart = h.apart;
  fits = rw (length-set places n b) h.fits;
  within = subst (λ k. AllByRecursion (λ m. m < k) ns) (sym (length-set places n b)) h.within.1;
  newest_is = λ m. by_test (nat_eq m n) (λ t. ap (λ k. get_or (slice_set places n b) k 0) (eqb-true m n t) ∙ get_or-set_same places n b 0 h.within.0 ∙ before ∙ sym (ap (λ k. newest k ns) (eqb-true m n t))) (λ f. get_or-set_other places n m b 0 (not_eq m n f) ∙ h.newest_is m ∙ rw f refl);
  before_is = before_others;
}
  where
    all : b ∷ bs ≡ newest n ns ∷ befores ns
    all = h.before_is

    before : b ≡ newest n ns
    before = cc all

    before_others : bs ≡ befores ns
    before_others = cc all

-- a place that was looked up, and one that is not there
pub place_there : (xs places : List ℕ) (n p : ℕ) → xs ≡ places → true ≡ nat_lt n (length xs) → p ≡ get_or xs n p → p ≡ get_or places n 0
place_there xs places n p is below e =
    e ∙ sym (get_or_from_slice_get xs n (get_or xs n p) 0 (slice_get-get_or xs n p (ltb-true n (length xs) (sym below)))) ∙ ap (λ ys. get_or ys n 0) is

pub no_place : (xs places : List ℕ) (n : ℕ) → xs ≡ places → false ≡ nat_lt n (length xs) → 0 ≡ get_or places n 0
no_place xs places n is above = sym (get_or_past xs n 0 (ltb-false n (length xs) (sym above))) ∙ ap (λ ys. get_or ys n 0) is

-- one at the end of a list is the first of the reversed one
pub last_first : {X : Type 0} (f : X → ℕ) (xs : List X) (x : X) → reverse (map f (xs ++ x ∷ [])) ≡ f x ∷ reverse (map f xs)
last_first f xs x = ap reverse (map-append f xs (x ∷ [])) ∙ reverse-append (map f xs) (f x ∷ [])
