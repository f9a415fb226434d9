use Rattle.std.proofs.Common.{◌≡◌, ◌<◌, ℕ, Some}
use Rattle.std.specs.Prelude.{slice_get}
use Rattle.iseq_types.specs.Index.{IsIndexRow}
use Rattle.iseq_types.specs.declared.sequences.IndexRow.{IndexRow}
use Rattle.iseq_dump.specs.Dump.{rows_of}
use Rattle.iseq_dump.proofs.index.are_rows.Given as goal

abbrev pub invariant-loop-id : goal.invariant-loop-id
invariant-loop-id l = (k : ℕ) (row : IndexRow) → k < l.id → slice_get (rows_of l.entries) k ≡ Some row → IsIndexRow k row
