-- The conditions of a sound body in groups, as they are checked.
use Rattle.std.specs.Prelude.{ℕ, List, All}
use Rattle.iseq_types.specs.declared.sequences.Sequence.{Sequence}
use Rattle.iseq_types.specs.declared.sequences.IndexRow.{IndexRow}
use Rattle.iseq_types.specs.declared.sequences.SeqKind.{SeqKind}
use Rattle.iseq_types.specs.Sound.{EachInstr, IsInside, IsOrdered, EndsRight, CountsLocals, NamesChildren, SpreadsBelow, HasKnownOperands}

-- what a body's places, rows, end and locals are to be
pub record HasShape (seq : Sequence) (rows : List IndexRow) (id : ℕ) (kind : SeqKind) : Type 0 where
  pub inside : IsInside seq
  pub ordered : All IsOrdered seq.rows
  pub ends : EndsRight seq kind
  pub counted : CountsLocals seq rows id

-- what its operands are to be, but for targets and locals
pub record HasRightOperands (seq : Sequence) (rows : List IndexRow) (id : ℕ) : Type 0 where
  pub children : NamesChildren seq rows id
  pub splats : EachInstr seq SpreadsBelow
  pub operands : EachInstr seq HasKnownOperands
