-- The ways through a body.
use Rattle.std.specs.Prelude.{◌≡◌, ◌+◌, ℕ, Some, IsTrue, Contains, slice_get}
use Rattle.iseq_types.specs.declared.sequences.Sequence.{Sequence}
use Rattle.iseq_types.specs.declared.sequences.SeqKind.{SeqKind}
use Rattle.iseq_types.specs.declared.sequences.CatchRow.{CatchRow}
use Rattle.iseq_types.specs.declared.sequences.Line.{Line}
use Rattle.iseq_types.specs.declared.sequences.SeqKind as kinds
use Rattle.iseq_types.specs.declared.sequences.CatchKind as catches
use Rattle.iseq_types.specs.Instructions.{goes_on, target_of, depth_after}

-- The depth at which a sequence of this kind begins: a rescue part has the exception on its stack.
abbrev pub start_depth : SeqKind → ℕ
start_depth kinds.TheVariants.Rescue = 1
start_depth _ = 0

-- A way leads to a place, and the stack has this depth when it comes there.
pub data Way (seq : Sequence) (kind : SeqKind) : ℕ → ℕ → Type 0 where
  begins : Way seq kind 0 (start_depth kind)
  enters : (place : ℕ) → Contains seq.entries place → Way seq kind place 0
  catches_on : (row : CatchRow) → Contains seq.rows row → Way seq kind row.cont (row.sp + 1)
  retries : (row : CatchRow) → Contains seq.rows row → row.kind ≡ catches.TheVariants.Rescue → Way seq kind row.from row.sp
  follows : (place depth : ℕ) (line : Line) → Way seq kind place depth → slice_get seq.code place ≡ Some line → IsTrue (goes_on line.instr) → Way seq kind (place + 1) (depth_after line.instr depth)
  jumps : (place depth target : ℕ) (line : Line) → Way seq kind place depth → slice_get seq.code place ≡ Some line → target_of line.instr ≡ Some target → Way seq kind target (depth_after line.instr depth)
