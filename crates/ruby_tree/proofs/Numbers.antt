-- A text of a table of distinct texts has one number.
use Rattle.std.proofs.Common.{◌≡◌, ◌≢◌, ℕ, ◌<◌, ◌≤◌, ◌==◌, ◌∷◌, [], ◌++◌, Bool, true, false, Some, slice_get, ◌⊎◌, inl, inr, refl, sym, ◌∙◌, ap, arith, if◌then◌else◌}
use Rattle.std.specs.List.{AllPairs, IsDistinct, list_any}
use Rattle.std.specs.Cmp.Lexicographic.{pointwise}
use Rattle.std.proofs.lemmas.Bool.Decides.{Decides-eqb}
use Rattle.std.proofs.lemmas.Slice.Eq.{slice_eq-Decides}
use Rattle.std.proofs.lemmas.Map.Made.{AllPairs-from_IsDistinct}
use Rattle.std.proofs.lemmas.Option.{slice_get_within, get_or_from_slice_get}
use Rattle.std.proofs.lemmas.Bool.{cases_lt}
use Rattle.indexmap.specs.IndexSet.{insert_key}
use Rattle.ruby_tree.specs.Names.{Texts, Bytes, IsOnlyNumber, Interns}

abbrev pub same : Bytes → Bytes → Bool
same = pointwise ◌==◌

texts_apart : (texts : Texts) → IsDistinct same texts → AllPairs (λ x y. x ≢ y) texts
texts_apart = AllPairs-from_IsDistinct (λ a b. slice_eq-Decides Decides-eqb a b (same a b) refl)

-- no text stands at two places
two_places : (texts : Texts) (text : Bytes) (i j : ℕ) → IsDistinct same texts → slice_get texts i ≡ Some text → slice_get texts j ≡ Some text → i < j → ⊥
two_places texts text i j distinct at_i at_j below =
    texts_apart texts distinct i j text below (slice_get_within texts j text at_j) (get_or_from_slice_get texts i text text at_i ∙ sym (get_or_from_slice_get texts j text text at_j))

pub only_number : (texts : Texts) (text : Bytes) (i : ℕ) → IsDistinct same texts → slice_get texts i ≡ Some text → IsOnlyNumber texts text i
only_number texts text i distinct at_i j at_j = by (cases_lt i j) (cases_lt j i)
  where
    by : (i < j) ⊎ (j ≤ i) → (j < i) ⊎ (i ≤ j) → j ≡ i
    by (inl below) q = absurd (two_places texts text i j distinct at_i at_j below)
    by (inr above) (inl below) = absurd (two_places texts text j i distinct at_j at_i below)
    by (inr above) (inr below) = omega arith

-- what an insertion into a set of texts gives
pub interned : (old new : Texts) (text : Bytes) (number : ℕ) → IsDistinct same new → new ≡ insert_key same old text → (k : Bytes) × (slice_get new number ≡ Some k) × (same text k ≡ true) → Interns old new text number
interned old new text number distinct is stored = record {
  named = named;
  alone = only_number new text number distinct named;
  kept = by (list_any (same text) old) is;
}
  where
    named : slice_get new number ≡ Some text
    named = stored.1 ∙ ap (λ k. Some k) (sym ((slice_eq-Decides Decides-eqb text stored.0 (same text stored.0) refl).0 stored.2))

    by : (b : Bool) → new ≡ (if b then old else old ++ text ∷ []) → (new ≡ old) ⊎ (new ≡ old ++ text ∷ [])
    by true e = inl e
    by false e = inr e
