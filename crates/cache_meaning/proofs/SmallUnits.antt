-- The unit of a small file, and that it can be dumped.
use Rattle.std.proofs.Common.{◌≡◌, ℕ, zero, suc, Option, Some, None, List, [], ◌∷◌, refl, subst, arith}
use Rattle.std.specs.Prelude.{slice_get}
use Rattle.std.specs.Option.{option_map}
use Rattle.iseq_types.specs.Index.{IsIndexRow, AreIndexRows}
use Rattle.iseq_types.specs.declared.sequences.IndexRow.{IndexRow}
use Rattle.iseq_types.specs.declared.sequences.Unit.{Unit as CompiledUnit}
use Rattle.iseq_dump.specs.Dump.{CanBeDumped}
use Rattle.small_form.specs.declared.tree.Line.{Line}
use Rattle.small_form.specs.declared.tree.SmallFile.{SmallFile}
use Rattle.reference_parser.specs.ReadingOf.{Reading, tree, fault, reading_of}
use Rattle.small_form.specs.SmallForm.{small_of}
use Rattle.cache_meaning.specs.SmallUnit.{file_row, unit_of_program, unit_by, unit_of}
use Rattle.cache_meaning.proofs.SmallLines.{IsSmallProgram, small_is}

mapped : {A B : Type 0} (f : A → B) (o : Option A) (y : B) → option_map f o ≡ Some y → (x : A) × (o ≡ Some x) × (f x ≡ y)
mapped f None y e = absurd cc
mapped f (Some x) y e = (x, refl, cc)

-- the unit of a reading is that of a small file
file_behind : (path : List ℕ) (r : Reading) (u : CompiledUnit) → unit_by path r ≡ Some u → (file : SmallFile) × IsSmallProgram file.lines × (unit_of_program path file ≡ u)
file_behind path (tree t) u e = let m = mapped (unit_of_program path) (small_of t) u e in (m.0, small_is t m.0 m.1, m.2)
file_behind path (fault line) u e = absurd cc

-- and so is that of a text
pub program_behind : (path text : List ℕ) (u : CompiledUnit) → unit_of path text ≡ Some u → (file : SmallFile) × IsSmallProgram file.lines × (unit_of_program path file ≡ u)
unfolding unit_of
program_behind path text u e = file_behind path (reading_of text) u e

-- ---- its index has one row, that of the file

file_row_fits : (lines : List Line) → IsIndexRow 0 (file_row lines)
file_row_fits lines = record {
  file = (λ e. refl, λ e. refl);
  top = λ e. refl;
  below = λ lt. absurd (omega arith);
}

row_fits : (lines : List Line) (id : ℕ) (row : IndexRow) → slice_get (file_row lines ∷ []) id ≡ Some row → IsIndexRow id row
row_fits lines zero row e = let same : file_row lines ≡ row = cc in subst (IsIndexRow 0) same (file_row_fits lines)
row_fits lines (suc id) row e = absurd cc

pub rows_fit : (lines : List Line) → AreIndexRows (file_row lines ∷ [])
rows_fit lines = record { some = omega arith; each = row_fits lines }

pub can_be_dumped : (path : List ℕ) (file : SmallFile) → CanBeDumped (unit_of_program path file)
can_be_dumped path file = record { rows = rows_fit file.lines; bodies = refl; sequences = (tt, tt) }

pub dumped_by : (path text : List ℕ) (u : CompiledUnit) → unit_of path text ≡ Some u → CanBeDumped u
dumped_by path text u e = let p = program_behind path text u e in subst CanBeDumped p.2 (can_be_dumped path p.0)
