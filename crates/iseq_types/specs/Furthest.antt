-- Words of the check that an ensure row holds a place: the end that lies furthest.
use Rattle.std.specs.Prelude.{◌≡◌, ◌<◌, ◌≤◌, ℕ, List, All, Any, length, slice_index}
use Rattle.iseq_types.specs.declared.sequences.CatchRow.{CatchRow}
use Rattle.iseq_types.specs.declared.sequences.CatchKind as catches

-- An ensure row that begins at the place, or below it, and its end is `far`, or no further.
abbrev pub FromAt : ℕ → ℕ → CatchRow → Type 0
FromAt place far row = (row.kind ≡ catches.TheVariants.Ensure) × (row.from ≡ place) × (row.to ≡ far)

abbrev pub FromBelow : ℕ → ℕ → CatchRow → Type 0
FromBelow place far row = (row.kind ≡ catches.TheVariants.Ensure) × (row.from < place) × (row.to ≡ far)

abbrev pub NoFurtherAt : ℕ → ℕ → CatchRow → Type 0
NoFurtherAt place far row = row.kind ≡ catches.TheVariants.Ensure → row.from ≡ place → row.to ≤ far

abbrev pub NoFurtherBelow : ℕ → ℕ → CatchRow → Type 0
NoFurtherBelow place far row = row.kind ≡ catches.TheVariants.Ensure → row.from < place → row.to ≤ far

-- Of the ensure rows that begin at this place, `far` is the end that lies furthest, or 0 where there is none.
pub record IsFurthestAt (rows : List CatchRow) (place far : ℕ) : Type 0 where
  pub each : All (NoFurtherAt place far) rows
  pub one : 0 < far → Any (FromAt place far) rows

-- The same of the ensure rows that begin below this place.
pub record IsFurthestBelow (rows : List CatchRow) (place far : ℕ) : Type 0 where
  pub each : All (NoFurtherBelow place far) rows
  pub one : 0 < far → Any (FromBelow place far) rows

-- The list has that end for each place of a body of so many.
pub record AreFurthest (rows : List CatchRow) (places : ℕ) (ends : List ℕ) : Type 0 where
  pub long : length ends ≡ places
  pub each : (place : ℕ) → place < places → IsFurthestAt rows place (slice_index ends place)
