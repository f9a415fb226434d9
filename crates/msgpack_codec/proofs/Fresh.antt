-- Where four bytes are free, fewer than 2 ^ 32 used keys leave one that is not used.
use Rattle.std.proofs.Common.{◌≡◌, ℕ, zero, suc, ◌/◌, ◌%◌, ◌^◌, ◌<◌, ◌≤◌, Bool, true, false, ◌||◌, List, [], ◌∷◌, ◌++◌, length, refl, ◌∙◌, ap, ◌⊎◌, inl, inr, arith}
use Rattle.std.proofs.Math.Nat.{div-eq_of_lt}
use Rattle.std.proofs.lemmas.Bool.{cases_eq}
use Rattle.std.proofs.lemmas.Cmp.{nat_list_eq_equiv}
use Rattle.std.proofs.lemmas.Map.Keys.{IsDistinct-cons}
use Rattle.std.proofs.lemmas.Map.Made.{length-le_from_is_member}
use Rattle.std.proofs.lemmas.Slice.Eq.{bytes_eq-Decides}
use Rattle.std.specs.Int.{bytes_high_first, byte_at}
use Rattle.std.specs.List.{AllByRecursion, IsDistinct}
use Rattle.std.specs.Set.{is_member}
use Rattle.std.specs.Str.{bytes_eq}
use Rattle.msgpack_codec.specs.declared.value.Value.{Value}
use Rattle.msgpack_codec.specs.Message.{IsBytes}
use Rattle.msgpack_codec.specs.Reading.{IsNumber}
use Rattle.msgpack_codec.specs.Values.{is_in, KeyAt}
use Rattle.msgpack_codec.proofs.Chains.{cancel}
use Rattle.msgpack_codec.proofs.Numbers.{number_free, byte_at_is}
use Rattle.msgpack_codec.specs.Values.{IsSpelledScalar}

-- a test, and what it says
pub when : (b : Bool) → (b ≡ true) ⊎ (b ≡ false)
when true = inl refl
when false = inr refl

pub either_true : (a b : Bool) → (a || b) ≡ true → (a ≡ true) ⊎ (b ≡ true)
either_true true b h = inl refl
either_true false b h = inr h

pub both_false : (a b : Bool) → (a || b) ≡ false → (a ≡ false) × (b ≡ false)
both_false true b h = absurd (let e : true ≡ false = h in cc)
both_false false b h = (refl, h)

pub or_false : (a b : Bool) → a ≡ false → b ≡ false → (a || b) ≡ false
or_false a b h k = ap (λ v. v || b) h ∙ k

module _ (f : ℕ → List ℕ) where
  -- f below n
  values : ℕ → List (List ℕ)
  values zero = []
  values (suc n) = f n ∷ values n

  length-values : (n : ℕ) → length (values n) ≡ n
  unfolding values
  length-values zero = refl
  length-values (suc n) = ap suc (length-values n)

  other_values : (top n m : ℕ) → ((i j : ℕ) → i < top → j < top → f i ≡ f j → i ≡ j) → m < top → n ≤ m → AllByRecursion (λ y. bytes_eq (f m) y ≡ false) (values n)
  unfolding values
  other_values top zero m one h le = tt
  other_values top (suc n) m one h le = (
    elim (when (bytes_eq (f m) (f n))) [
      | inl e ↦ absurd (let same : m ≡ n = one m n h (omega arith) ((bytes_eq-Decides (f m) (f n)).0 e) in omega arith)
      | inr e ↦ e
    ],
    other_values top n m one h (omega arith),
  )

  distinct_values : (top n : ℕ) → ((i j : ℕ) → i < top → j < top → f i ≡ f j → i ≡ j) → n ≤ top → IsDistinct bytes_eq (values n)
  unfolding values IsDistinct
  distinct_values top zero one le = tt
  distinct_values top (suc n) one le = IsDistinct-cons bytes_eq (f n) (values n) (other_values top n n one (omega arith) (omega arith)) (distinct_values top n one (omega arith))

  all_used : (used : List (List ℕ)) (n : ℕ) → ((i : ℕ) → i < n → is_in used (f i) ≡ true) → (q : List ℕ) → is_member bytes_eq (values n) q ≡ true → is_member bytes_eq used q ≡ true
  unfolding values
  all_used used zero h q e = absurd (let k : false ≡ true = e in cc)
  all_used used (suc n) h q e =
      elim (either_true (bytes_eq q (f n)) (is_member bytes_eq (values n) q) e) [
        | inl k ↦ ap (is_member bytes_eq used) ((bytes_eq-Decides q (f n)).0 k) ∙ h n (omega arith)
        | inr k ↦ all_used used n (λ i l. h i (omega arith)) q k
      ]

  search_values : (used : List (List ℕ)) (n : ℕ) → ((i : ℕ) × (i < n) × (is_in used (f i) ≡ false)) ⊎ ((i : ℕ) → i < n → is_in used (f i) ≡ true)
  search_values used zero = inr (λ i l. absurd (omega arith))
  search_values used (suc n) =
      elim (search_values used n) [
        | inl (i, l, e) ↦ inl (i, omega arith, e)
        | inr all ↦ elim (when (is_in used (f n))) [
          | inr e ↦ inl (n, omega arith, e)
          | inl e ↦ inr (all_below n e all)
        ]
      ]
    where
      all_below : (n : ℕ) → is_in used (f n) ≡ true → ((i : ℕ) → i < n → is_in used (f i) ≡ true) → (i : ℕ) → i < suc n → is_in used (f i) ≡ true
      all_below n e all i l = elim (cases_eq i n) [ inl k ↦ ap (λ v. is_in used (f v)) k ∙ e | inr k ↦ all i (omega arith) ]

  pub one_unused : (used : List (List ℕ)) (top : ℕ) → ((i j : ℕ) → i < top → j < top → f i ≡ f j → i ≡ j) → length used < top → (i : ℕ) × (i < top) × (is_in used (f i) ≡ false)
  one_unused used top one h =
      elim (search_values used top) [
        | inl found ↦ found
        | inr all ↦ absurd (
            let le : length (values top) ≤ length used = length-le_from_is_member nat_list_eq_equiv (values top) used (distinct_values top top one (omega arith)) (all_used used top all) in
            let n : length (values top) ≡ top = length-values top in
            omega arith)
      ]

pub digits_small : (k n : ℕ) → IsBytes (bytes_high_first k n)
digits_small zero n = tt
digits_small (suc k) n = (let e : byte_at k n ≡ n / 256 ^ k % 256 = byte_at_is k n in omega arith, digits_small k n)

pub length-digits : (k n : ℕ) → length (bytes_high_first k n) ≡ k
length-digits zero n = refl
length-digits (suc k) n = ap suc (length-digits k n)

digits_number : (k n : ℕ) → n < 256 ^ k → IsNumber k 0 0 (256 ^ k) n (bytes_high_first k n)
digits_number k n h = record { front_is = div-eq_of_lt h; at_least = omega arith; at_most = omega arith; bytes_are = refl }

digits_differ : (front : List ℕ) (i j : ℕ) → i < 256 ^ 4 → j < 256 ^ 4 → front ++ bytes_high_first 4 i ≡ front ++ bytes_high_first 4 j → i ≡ j
digits_differ front i j h k e =
    let same : bytes_high_first 4 i ≡ bytes_high_first 4 j = cancel front (bytes_high_first 4 i) (bytes_high_first 4 j) e in
    ((number_free 4 0 0 (256 ^ 4) (omega arith)).same i j (bytes_high_first 4 i) (bytes_high_first 4 j) [] [] (digits_number 4 i h) (digits_number 4 j k) (ap (λ v. v ++ []) same)).0

-- a key that is not used, and that front begins
pub live_room : (used : List (List ℕ)) → length used < 2 ^ 32 → (front : List ℕ) → ((t : List ℕ) → length t ≡ 4 → IsBytes t → (k : Value) × IsSpelledScalar k (front ++ t)) → (k : Value) × (t : List ℕ) × KeyAt used k (front ++ t)
live_room used few front room =
    let (i, small, unused) = one_unused (λ i. front ++ bytes_high_first 4 i) used (256 ^ 4) (digits_differ front) (omega arith) in
    let (k, is) = room (bytes_high_first 4 i) (length-digits 4 i) (digits_small 4 i) in
    (k, bytes_high_first 4 i, record { fits = is.fits; bytes_are = is.bytes_are; unused = unused })
