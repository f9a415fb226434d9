use Rattle.std.proofs.Common.{◌≡◌, ℕ, ◌<◌, length, get_or, Option, Some}
use Rattle.std.specs.Prelude.{slice_get}
use Rattle.iseq_types.specs.declared.sequences.Line.{Line}
use Rattle.iseq_types.specs.Depths.{room_of}
use Rattle.iseq_types.proofs.depths.rooms_of.Given as goal

abbrev pub invariant-loop-place : goal.invariant-loop-place
invariant-loop-place l = record {
  long : length l.rooms.items ≡ l.place;
  each : (k : ℕ) (line : Line) (depth : Option ℕ) → k < l.place → slice_get l.code k ≡ Some line → slice_get l.found k ≡ Some depth → get_or l.rooms.items k 0 ≡ room_of line depth;
}
