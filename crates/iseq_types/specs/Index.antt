-- The rows of a unit's index, and what they say of a sequence: its kind, its locals, its children and the
-- environments outward of it.
use Rattle.std.specs.Prelude.{◌≡◌, ◌↔◌, ◌<◌, ℕ, zero, suc, List, [], ◌∷◌, Option, Some, None, Bool, true, false, IsTrue, length, slice_get}
use Rattle.iseq_types.specs.declared.sequences.IndexRow.{IndexRow}
use Rattle.iseq_types.specs.declared.sequences.SeqKind.{SeqKind}
use Rattle.iseq_types.specs.declared.sequences.SeqKind.TheVariants.{File, Block, Rescue, Ensure}

-- A row that a sequence of this number may have: number 0, and no other, is the file, whose parent is 0; any other's
-- parent comes before it.
pub record IsIndexRow (id : ℕ) (row : IndexRow) : Type 0 where
  pub file : (row.kind ≡ File) ↔ (id ≡ 0)
  pub top : id ≡ 0 → row.parent ≡ 0
  pub below : 0 < id → row.parent < id

-- There is at least one row, and each is one that its number may have.
pub record AreIndexRows (rows : List IndexRow) : Type 0 where
  pub some : 0 < length rows
  pub each : (id : ℕ) (row : IndexRow) → slice_get rows id ≡ Some row → IsIndexRow id row

-- The sequence of this number is of this kind, and the one of number `parent` is its parent.
abbrev pub IsChild : List IndexRow → ℕ → SeqKind → ℕ → Type 0
IsChild rows parent kind id =
    (row : IndexRow) × (slice_get rows id ≡ Some row) × (row.kind ≡ kind) × (row.parent ≡ parent)

-- A rescue or ensure part runs in the environment that it stands in. Any other sequence has one of its own.
abbrev pub has_environment : SeqKind → Bool
has_environment Rescue = false
has_environment Ensure = false
has_environment _ = true

-- The environment that lies so many levels outward of a sequence is that of the sequence `home`. Only a block sees the
-- environments around it.
pub data Outward (rows : List IndexRow) : ℕ → ℕ → ℕ → Type 0 where
  own : (id : ℕ) (row : IndexRow) → slice_get rows id ≡ Some row → IsTrue (has_environment row.kind) → Outward rows id 0 id
  stands_in : (id : ℕ) (row : IndexRow) (level home : ℕ) → slice_get rows id ≡ Some row → has_environment row.kind ≡ false → Outward rows row.parent level home → Outward rows id level home
  around : (id : ℕ) (row : IndexRow) (level home : ℕ) → slice_get rows id ≡ Some row → row.kind ≡ Block → Outward rows row.parent level home → Outward rows id (suc level) home

-- There is an environment so many levels outward, and it has this slot.
abbrev pub HasLocal : List IndexRow → ℕ → ℕ → ℕ → Type 0
HasLocal rows id slot level =
    (home : ℕ) × (row : IndexRow) × Outward rows id level home × (slice_get rows home ≡ Some row) × (slot < row.locals)

-- The same as a list, the nearest first: a rescue or ensure part has that of what it stands in, a block has its own
-- before those around it, and any other sequence has its own alone.
abbrev pub homes_by : SeqKind → ℕ → List ℕ → List ℕ
homes_by Rescue id others = others
homes_by Ensure id others = others
homes_by Block id others = id ∷ others
homes_by _ id others = id ∷ []

abbrev pub homes_at : Option IndexRow → ℕ → (ℕ → List ℕ) → List ℕ
homes_at None id homes = []
homes_at (Some row) id homes = homes_by row.kind id (homes row.parent)

-- up to so many sequences outward
abbrev pub homes_within : ℕ → List IndexRow → ℕ → List ℕ
homes_within zero rows id = []
homes_within (suc more) rows id = homes_at (slice_get rows id) id (homes_within more rows)

-- No more than `id` sequences stand around the one of number `id`, since parents have lower numbers.
unfoldable pub homes_of : List IndexRow → ℕ → List ℕ
homes_of rows id = homes_within (suc id) rows id
