-- The rows of a catch table.
use Rattle.std.specs.Prelude.{◌≡◌, ◌⊎◌, ◌<◌, ◌≤◌, ℕ, List, [], ◌∷◌, Some, slice_get}
use Rattle.iseq_types.specs.declared.sequences.CatchRow.{CatchRow}
use Rattle.iseq_types.specs.declared.sequences.CatchKind.{CatchKind}

-- The place lies in the row's range.
abbrev pub Holds : CatchRow → ℕ → Type 0
Holds row place = (row.from ≤ place) × (place < row.to)

-- The row is of this kind, and its range holds the place.
abbrev pub Fits : CatchKind → ℕ → CatchRow → Type 0
Fits kind place row = (row.kind ≡ kind) × Holds row place

-- None of the rows from `low` on and below `high` fits.
abbrev pub NoneFits : List CatchRow → CatchKind → ℕ → ℕ → ℕ → Type 0
NoneFits rows kind place low high =
    (k : ℕ) (row : CatchRow) → low ≤ k → k < high → slice_get rows k ≡ Some row → ¬ Fits kind place row

-- The row at `found` is the first from `low` on that fits.
pub record IsFirstFit (rows : List CatchRow) (kind : CatchKind) (place low found : ℕ) : Type 0 where
  pub after : low ≤ found
  pub fits : (row : CatchRow) × (slice_get rows found ≡ Some row) × Fits kind place row
  pub first : NoneFits rows kind place low found

-- The kind is one of these.
abbrev pub IsOneOf : List CatchKind → CatchKind → Type 0
IsOneOf [] kind = ⊥
IsOneOf (first ∷ others) kind = (kind ≡ first) ⊎ IsOneOf others kind

-- The row is of one of these kinds, and its range holds the place.
abbrev pub FitsOneOf : List CatchKind → ℕ → CatchRow → Type 0
FitsOneOf kinds place row = IsOneOf kinds row.kind × Holds row place

-- None of the rows from `low` on and below `high` fits by one of these kinds.
abbrev pub NoneFitsOneOf : List CatchRow → List CatchKind → ℕ → ℕ → ℕ → Type 0
NoneFitsOneOf rows kinds place low high =
    (k : ℕ) (row : CatchRow) → low ≤ k → k < high → slice_get rows k ≡ Some row → ¬ FitsOneOf kinds place row

-- The row at `found` is the first from `low` on that fits by one of these kinds.
pub record IsFirstOneOf (rows : List CatchRow) (kinds : List CatchKind) (place low found : ℕ) : Type 0 where
  pub after : low ≤ found
  pub fits : (row : CatchRow) × (slice_get rows found ≡ Some row) × FitsOneOf kinds place row
  pub first : NoneFitsOneOf rows kinds place low found
