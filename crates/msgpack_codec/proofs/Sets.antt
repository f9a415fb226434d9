-- Sorted sets of byte lists, as what they have.
use Rattle.std.proofs.Common.{◌≡◌, ℕ, Bool, true, false, ◌||◌, List, [], ◌∷◌, map, refl, sym, ◌∙◌, ap}
use Rattle.std.proofs.lemmas.Map.Text.{is_eq-slice_cmp}
use Rattle.std.proofs.lemmas.Slice.Eq.{bytes_eq-Decides}
use Rattle.std.specs.BTreeSet.{insert_key}
use Rattle.std.specs.Cmp.Lexicographic.{slice_cmp}
use Rattle.std.specs.declared.cmp.Ordering.{Ordering}
use Rattle.std.specs.declared.cmp.Ordering.TheVariants.{Less, Equal, Greater}
use Rattle.std.specs.List.{list_any}
use Rattle.std.specs.Ordering.{nat_cmp, is_eq, match_ordering}
use Rattle.std.specs.Str.{bytes_eq}
use Rattle.msgpack_codec.specs.Values.{is_in}

module _ {K : Type 0} (bytes : K → List ℕ) where
  pub list_any-is_in : (t : List ℕ) (ks : List K) → list_any (λ k. is_eq (slice_cmp nat_cmp t (bytes k))) ks ≡ is_in (map bytes ks) t
  list_any-is_in t [] = refl
  list_any-is_in t (k ∷ ks) = ap (λ b. b || list_any (λ k. is_eq (slice_cmp nat_cmp t (bytes k))) ks) (is_eq-slice_cmp t (bytes k)) ∙ ap (λ b. bytes_eq t (bytes k) || b) (list_any-is_in t ks)

  equal_bytes : (x y : List ℕ) → slice_cmp nat_cmp x y ≡ Equal → x ≡ y
  equal_bytes x y e = (bytes_eq-Decides x y).0 (sym (is_eq-slice_cmp x y) ∙ ap is_eq e)

  or_twice : (a b : Bool) → (a || b) ≡ (a || (a || b))
  or_twice true b = refl
  or_twice false b = refl

  or_swap : (a b c : Bool) → (a || (b || c)) ≡ (b || (a || c))
  or_swap true true c = refl
  or_swap true false c = refl
  or_swap false true c = refl
  or_swap false false c = refl

  insert_cases : (t : List ℕ) (x k : K) (xs ys : List K) (o : Ordering) → slice_cmp nat_cmp (bytes k) (bytes x) ≡ o → is_in (map bytes ys) t ≡ (bytes_eq t (bytes k) || is_in (map bytes xs) t)
      → is_in (map bytes (match_ordering o (k ∷ x ∷ xs) (x ∷ xs) (x ∷ ys))) t ≡ (bytes_eq t (bytes k) || is_in (map bytes (x ∷ xs)) t)
  insert_cases t x k xs ys Less e h = refl
  insert_cases t x k xs ys Equal e h =
      or_twice (bytes_eq t (bytes x)) (is_in (map bytes xs) t) ∙ ap (λ b. bytes_eq t b || (bytes_eq t (bytes x) || is_in (map bytes xs) t)) (sym (equal_bytes (bytes k) (bytes x) e))
  insert_cases t x k xs ys Greater e h = ap (λ b. bytes_eq t (bytes x) || b) h ∙ or_swap (bytes_eq t (bytes x)) (bytes_eq t (bytes k)) (is_in (map bytes xs) t)

  pub is_in-insert_key : (t : List ℕ) (k : K) (ks : List K) → is_in (map bytes (insert_key (λ x y. slice_cmp nat_cmp (bytes x) (bytes y)) ks k)) t ≡ (bytes_eq t (bytes k) || is_in (map bytes ks) t)
  is_in-insert_key t k [] = refl
  is_in-insert_key t k (x ∷ xs) = insert_cases t x k xs (insert_key (λ x y. slice_cmp nat_cmp (bytes x) (bytes y)) xs k) (slice_cmp nat_cmp (bytes k) (bytes x)) refl (is_in-insert_key t k xs)

-- one element moved
pub or_move : (a b c : Bool) → ((a || b) || c) ≡ (b || (a || c))
or_move true true c = refl
or_move true false c = refl
or_move false true c = refl
or_move false false c = refl

pub or_nothing : (a : Bool) → (a || false) ≡ a
or_nothing true = refl
or_nothing false = refl
