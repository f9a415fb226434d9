-- Words of the check that numbers at places are large enough over spans of places.
use Rattle.std.specs.Prelude.{◌≡◌, ◌↔◌, ◌+◌, ◌-◌, ◌*◌, ◌/◌, ◌%◌, ◌<◌, ◌≤◌, ℕ, List, All, length, slice_index, min}
use Rattle.iseq_types.specs.declared.spans.Span.{Span}

-- The span has places, and all lie below `places`.
abbrev pub IsWithin : ℕ → Span → Type 0
IsWithin places span = (span.from < span.to) × (span.to ≤ places)

-- No number of the span is below its floor.
abbrev pub HoldsOver : List ℕ → Span → Type 0
HoldsOver rooms span =
    (place : ℕ) → span.from ≤ place → place < span.to → span.floor ≤ slice_index rooms place

-- The list has the smaller number of each pair of places: 0 and 1, 2 and 3, and so on.
pub record Halves (rooms half : List ℕ) : Type 0 where
  pub long : length half ≡ length rooms / 2
  pub each : (pair : ℕ) → pair < length half → slice_index half pair ≡ min (slice_index rooms (2 * pair)) (slice_index rooms (2 * pair + 1))

-- The numbers at those ends of a span that are half a pair are not below its floor.
pub record EndsHold (rooms : List ℕ) (span : Span) : Type 0 where
  pub first : span.from % 2 ≡ 1 → span.floor ≤ slice_index rooms span.from
  pub last : span.to % 2 ≡ 1 → span.floor ≤ slice_index rooms (span.to - 1)

-- the pairs that lie in the span whole
abbrev pub pairs_of : Span → Span
pairs_of span = record { from = span.from / 2 + span.from % 2; to = span.to / 2; floor = span.floor }

-- Over the smaller numbers of the pairs, the spans `inner` ask what `spans` ask over the numbers.
pub record Narrows (rooms : List ℕ) (spans inner : List Span) : Type 0 where
  pub within : All (IsWithin (length rooms / 2)) inner
  pub same : (half : List ℕ) → Halves rooms half → All (HoldsOver rooms) spans ↔ All (HoldsOver half) inner
