use Rattle.std.proofs.Common.{◌≡◌, ℕ, ◌<◌, Some}
use Rattle.std.specs.Prelude.{slice_get}
use Rattle.iseq_types.specs.declared.sequences.IndexRow.{IndexRow}
use Rattle.iseq_types.specs.Index.{IsIndexRow}
use Rattle.format_tests.proofs.sound_bodies.are_index_rows.Given as goal

abbrev pub invariant-loop-id : goal.invariant-loop-id
invariant-loop-id l = (id : ℕ) (row : IndexRow) → id < l.id → slice_get l.rows id ≡ Some row → IsIndexRow id row
