-- A sequence that stands in another one comes after it.
use Rattle.std.proofs.Common.{◌≡◌, ℕ, ◌<◌, List, Some, arith, ⊎_elim, inl, inr}
use Rattle.std.specs.Prelude.{◌⊎◌, slice_get}
use Rattle.std.proofs.lemmas.Bool.{cases_lt}
use Rattle.iseq_types.specs.declared.sequences.IndexRow.{IndexRow}
use Rattle.iseq_types.specs.declared.sequences.SeqKind.TheVariants.{File}
use Rattle.iseq_types.specs.Index.{AreIndexRows}

pub parent_below : (rows : List IndexRow) (at : ℕ) (row : IndexRow) → AreIndexRows rows → slice_get rows at ≡ Some row → (row.kind ≡ File → ⊥) → row.parent < at
parent_below rows at row index e other =
    let r = index.each at row e in
    ⊎_elim (λ zero_at. absurd (other (r.file.1 zero_at))) (λ above. r.below above) (zero_or_above at)
  where
    zero_or_above : (n : ℕ) → (n ≡ 0) ⊎ (0 < n)
    zero_or_above n = ⊎_elim (λ l. inr l) (λ l. inl (omega arith)) (cases_lt 0 n)
