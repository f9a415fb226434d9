-- Words of the search for the depths at the places of a body.
use Rattle.std.specs.Prelude.{◌≡◌, ◌≢◌, ◌⊎◌, ◌+◌, ◌-◌, ◌*◌, ◌^◌, ◌<◌, ◌≤◌, ℕ, suc, List, [], ◌∷◌, ◌++◌, Option, Some, None, IsTrue, All, Contains, length, slice_get, slice_set, slice_index}
use Rattle.iseq_types.specs.declared.sequences.Sequence.{Sequence}
use Rattle.iseq_types.specs.declared.sequences.SeqKind.{SeqKind}
use Rattle.iseq_types.specs.declared.sequences.CatchRow.{CatchRow}
use Rattle.iseq_types.specs.declared.sequences.CatchKind as catches
use Rattle.iseq_types.specs.declared.sequences.Line.{Line}
use Rattle.iseq_types.specs.declared.depths.Depths.{Depths}
use Rattle.iseq_types.specs.declared.spans.Span.{Span}
use Rattle.iseq_types.specs.Instructions.{needs_of, takes_of, depth_after, goes_on, target_of}
use Rattle.iseq_types.specs.Catch.{Holds}
use Rattle.iseq_types.specs.Ways.{Way, start_depth}
use Rattle.iseq_types.specs.Sound.{FindsEnough, HasOneDepth, StartsRight, KeepsDepth}

-- The list has this depth at the place.
abbrev pub DepthAt : List (Option ℕ) → ℕ → ℕ → Type 0
DepthAt found place depth = slice_get found place ≡ Some (Some depth)

-- how many places have no depth yet
abbrev pub open_of : List (Option ℕ) → ℕ
open_of [] = 0
open_of (None ∷ found) = suc (open_of found)
open_of (Some depth ∷ found) = open_of found

-- The place had this depth, or it had none, has it now, and waits.
abbrev pub Reaches : Depths → Depths → ℕ → ℕ → Type 0
Reaches old new place depth =
    (DepthAt old.found place depth × (new ≡ old))
    ⊎ ((slice_get old.found place ≡ Some None) × (new ≡ record { kind = old.kind; found = slice_set old.found place (Some depth); waiting = old.waiting ++ place ∷ [] }))

-- The place had another depth.
abbrev pub Clashes : List (Option ℕ) → ℕ → ℕ → Type 0
Clashes found place depth = (known : ℕ) × DepthAt found place known × (known ≢ depth)

-- Where a place leads with this depth is in the list.
pub record Leads (seq : Sequence) (found : List (Option ℕ)) (place depth : ℕ) (line : Line) : Type 0 where
  pub enough : needs_of line.instr ≤ depth
  pub next : IsTrue (goes_on line.instr) → place + 1 < length seq.code → DepthAt found (place + 1) (depth_after line.instr depth)
  pub jump : (target : ℕ) → target_of line.instr ≡ Some target → DepthAt found target (depth_after line.instr depth)

-- Each depth found is that of a way, and a place that has one waits, is one of `rest`, or has what it leads to in the list.
-- A depth is at most 2^64 times the number of places that have one.
pub record SoFar (seq : Sequence) (rest : List ℕ) (depths : Depths) : Type 0 where
  pub long : length depths.found ≡ length seq.code
  pub fits : length seq.code < 2 ^ 64
  pub small : (place depth : ℕ) → DepthAt depths.found place depth → depth + open_of depths.found * 2 ^ 64 ≤ length seq.code * 2 ^ 64
  pub ways : (place depth : ℕ) → DepthAt depths.found place depth → Way seq depths.kind place depth
  pub within : (place : ℕ) → Contains depths.waiting place → place < length seq.code
  pub followed : (place depth : ℕ) (line : Line) → DepthAt depths.found place depth → slice_get seq.code place ≡ Some line → Contains depths.waiting place ⊎ (Contains rest place ⊎ Leads seq depths.found place depth line)

-- The search is at a place, whose instruction finds enough and leaves this depth.
pub record LeadsOn (seq : Sequence) (place : ℕ) (line : Line) (after : ℕ) (depths : Depths) : Type 0 where
  pub so_far : SoFar seq (place ∷ []) depths
  pub before : (depth : ℕ) × DepthAt depths.found place depth × (needs_of line.instr ≤ depth) × (after ≡ depth_after line.instr depth)
  pub room : after + open_of depths.found * 2 ^ 64 ≤ (length seq.code + 1) * 2 ^ 64

-- Depths that were found stay, and each place that waits more has one more.
pub record Grows (old new : Depths) : Type 0 where
  pub same : new.kind ≡ old.kind
  pub kept : (place depth : ℕ) → DepthAt old.found place depth → DepthAt new.found place depth
  pub less : open_of new.found ≤ open_of old.found
  pub fewer : 2 * open_of new.found + length new.waiting ≤ 2 * open_of old.found + length old.waiting

-- The ways that a row begins are in the list.
pub record HasRow (found : List (Option ℕ)) (row : CatchRow) : Type 0 where
  pub cont : DepthAt found row.cont (row.sp + 1)
  pub from : row.kind ≡ catches.TheVariants.Rescue → DepthAt found row.from row.sp

-- The search after a step from one state to another: what was found stays right and grows, and the ways that the step is
-- about are in the list.
pub record FindsNext (seq : Sequence) (old new : Depths) : Type 0 where
  pub so_far : SoFar seq [] new
  pub grows : Grows old new

pub record FindsStart (seq : Sequence) (old new : Depths) : Type 0 where
  pub so_far : SoFar seq [] new
  pub grows : Grows old new
  pub there : DepthAt new.found 0 (start_depth old.kind)

pub record FindsEntries (seq : Sequence) (entries : List ℕ) (old new : Depths) : Type 0 where
  pub so_far : SoFar seq [] new
  pub grows : Grows old new
  pub there : All (λ entry. DepthAt new.found entry 0) entries

pub record FindsRow (seq : Sequence) (row : CatchRow) (old new : Depths) : Type 0 where
  pub so_far : SoFar seq [] new
  pub grows : Grows old new
  pub there : HasRow new.found row

pub record FindsRows (seq : Sequence) (rows : List CatchRow) (old new : Depths) : Type 0 where
  pub so_far : SoFar seq [] new
  pub grows : Grows old new
  pub there : All (HasRow new.found) rows

-- The place after an instruction that goes on has the depth after it.
abbrev pub HasFollowing : Sequence → ℕ → Line → ℕ → Depths → Type 0
HasFollowing seq place line after depths =
    IsTrue (goes_on line.instr) → place + 1 < length seq.code → DepthAt depths.found (place + 1) after

pub record FindsFollowing (seq : Sequence) (place : ℕ) (line : Line) (after : ℕ) (old new : Depths) : Type 0 where
  pub on : LeadsOn seq place line after new
  pub grows : Grows old new
  pub there : HasFollowing seq place line after new

-- The list has the depths at which ways begin, and where it has one, the instruction finds enough and what it leads to
-- is in the list. So it has the depth of each way.
pub record CoversWays (seq : Sequence) (kind : SeqKind) (found : List (Option ℕ)) : Type 0 where
  pub first : DepthAt found 0 (start_depth kind)
  pub entries : All (λ entry. DepthAt found entry 0) seq.entries
  pub rows : All (HasRow found) seq.rows
  pub leads : (place depth : ℕ) (line : Line) → DepthAt found place depth → slice_get seq.code place ≡ Some line → Leads seq found place depth line

-- By the depths of the list, no instruction in the row's range takes the stack below the row's `sp`.
abbrev pub KeepsFloor : Sequence → List (Option ℕ) → CatchRow → Type 0
KeepsFloor seq found row =
    (place depth : ℕ) (line : Line) → Holds row place → DepthAt found place depth → slice_get seq.code place ≡ Some line → row.sp + takes_of line.instr ≤ depth

-- The list has the depth of each way to each place, and no other.
pub record IsTable (seq : Sequence) (kind : SeqKind) (found : List (Option ℕ)) : Type 0 where
  pub long : length found ≡ length seq.code
  pub ways : (place depth : ℕ) → DepthAt found place depth → Way seq kind place depth
  pub covers : CoversWays seq kind found

-- what an instruction leaves alone below what it takes, or the greatest number where no way leads to it
abbrev pub room_of : Line → Option ℕ → ℕ
room_of line (Some depth) = depth - takes_of line.instr
room_of line None = 2 ^ 128 - 1

pub record AreRooms (code : List Line) (found : List (Option ℕ)) (rooms : List ℕ) : Type 0 where
  pub long : length rooms ≡ length code
  pub each : (place : ℕ) (line : Line) (depth : Option ℕ) → slice_get code place ≡ Some line → slice_get found place ≡ Some depth → slice_index rooms place ≡ room_of line depth

-- the range of a row, and the depth that it keeps
abbrev pub span_of : CatchRow → Span
span_of row = record { from = row.from; to = row.to; floor = row.sp }

-- The conditions of a sound body that speak of depths.
pub record KeepsDepths (seq : Sequence) (kind : SeqKind) : Type 0 where
  pub enough : FindsEnough seq kind
  pub one_depth : HasOneDepth seq kind
  pub starts : StartsRight seq kind
  pub kept : All (KeepsDepth seq kind) seq.rows
