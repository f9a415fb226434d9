-- The index: its rows, and the places of the bodies.
use Rattle.std.proofs.Common.{◌≡◌, ◌↔◌, ℕ, zero, suc, ◌+◌, ◌^◌, ◌<◌, ◌≤◌, Bool, true, false, not, eqb, List, [], ◌∷◌, length, drop, get_or, Some, refl, sym, ap, subst, ◌∙◌, drop-cons, arith, inl, inr}
use Rattle.std.specs.Prelude.{slice_get, IsTrue}
use Rattle.std.proofs.lemmas.Bool.{eqb-true, eqb-false, cases_lt}
use Rattle.std.proofs.lemmas.List.{drop_all, length-map}
use Rattle.std.proofs.lemmas.Option.{slice_get_within}
use Rattle.iseq_types.specs.Index.{IsIndexRow, AreIndexRows}
use Rattle.iseq_types.specs.declared.sequences.IndexRow.{IndexRow}
use Rattle.iseq_dump.specs.declared.head.Entry.{Entry}
use Rattle.iseq_dump.specs.Dump.{IsNumber, AreTiled, end_of, rows_of}
use Rattle.iseq_dump.proofs.Exact.{some_is}

abbrev pub IsTiled : ℕ → List Entry → Type 0
IsTiled place entries = AreTiled place entries × IsNumber (end_of place entries)

-- the last body ends behind where the first begins
pub end_above : (place : ℕ) (entries : List Entry) → place ≤ end_of place entries
end_above place [] = omega arith
end_above place (e ∷ es) = let rest = end_above (place + e.length) es in omega arith

-- a body that ends beyond 64 bits
pub too_far : (place i : ℕ) (entries : List Entry) (d : Entry) → i < length entries → (place + (get_or entries i d).length < 2 ^ 64 → ⊥) → IsTiled place (drop i entries) → ⊥
too_far place i entries d lt far h =
    let cons : drop i entries ≡ get_or entries i d ∷ drop (suc i) entries = drop-cons entries i d lt in
    let tiled = subst (λ (es : List Entry). IsTiled place es) cons h in
    let above = end_above (place + (get_or entries i d).length) (drop (suc i) entries) in
    far (omega (arith, tiled.1, above))

pub all_tiled : (first place i : ℕ) (entries : List Entry) → length entries ≤ i → place < 2 ^ 64 → (IsTiled place (drop i entries) → IsTiled first entries) → IsTiled first entries
all_tiled first place i entries le lt f = f (subst (λ (es : List Entry). IsTiled place es) (sym (drop_all i entries le)) (tt, lt))

-- the row of an entry
pub rows_get : (entries : List Entry) (k : ℕ) (d : Entry) → k < length entries → slice_get (rows_of entries) k ≡ Some (get_or entries k d).row
rows_get [] k d lt = absurd (omega arith)
rows_get (e ∷ es) zero d lt = refl
rows_get (e ∷ es) (suc k) d lt = rows_get es k d (omega arith)

pub rows_more : (entries : List Entry) (i : ℕ) (d : Entry) → i < length entries → IsIndexRow i (get_or entries i d).row → ((k : ℕ) (row : IndexRow) → k < i → slice_get (rows_of entries) k ≡ Some row → IsIndexRow k row)
    → (k : ℕ) (row : IndexRow) → k < i + 1 → slice_get (rows_of entries) k ≡ Some row → IsIndexRow k row
rows_more entries i d lt here below k row le e =
    elim (cases_lt k i) [
      | inl less ↦ below k row less e
      | inr more ↦
          let same : i ≡ k = omega arith in
          let got : Some (get_or entries i d).row ≡ Some row = sym (rows_get entries i d lt) ∙ (ap (λ (n : ℕ). slice_get (rows_of entries) n) same ∙ e) in
          subst (λ (n : ℕ). IsIndexRow n row) same (subst (λ (r : IndexRow). IsIndexRow i r) (some_is (get_or entries i d).row row got) here)
    ]

length-rows : (entries : List Entry) → length (rows_of entries) ≡ length entries
length-rows entries = length-map entries (λ e. e.row)

some_rows : (entries : List Entry) (empty : Bool) → empty ≡ eqb (length entries) 0 → IsTrue (not empty) → 0 < length (rows_of entries)
some_rows entries true e t = absurd cc
some_rows entries false e t = let ne = eqb-false (length entries) 0 (sym e) in omega (arith, length-rows entries)

not_empty : (entries : List Entry) (empty : Bool) → empty ≡ eqb (length entries) 0 → 0 < length (rows_of entries) → IsTrue (not empty)
not_empty entries true e lt = absurd (omega (arith, eqb-true (length entries) 0 (sym e), length-rows entries))
not_empty entries false e lt = refl

pub are_rows_is : (entries : List Entry) (i : ℕ) (empty : Bool) → empty ≡ eqb (length entries) 0 → length entries ≤ i → ((k : ℕ) (row : IndexRow) → k < i → slice_get (rows_of entries) k ≡ Some row → IsIndexRow k row)
    → IsTrue (not empty) ↔ AreIndexRows (rows_of entries)
are_rows_is entries i empty e le below = (
  λ t. record { some = some_rows entries empty e t; each = λ k row got. below k row (omega (arith, slice_get_within (rows_of entries) k row got, length-rows entries)) got },
  λ h. not_empty entries empty e h.some,
)
