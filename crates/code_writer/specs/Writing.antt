-- The code of a sequence while it is written from its end, and the code that a shape becomes.
use Rattle.std.specs.Prelude.{ℕ, suc, ◌+◌, ◌-◌, List, [], ◌∷◌, ◌++◌, length, map, reverse, slice_get, slice_set, Option, Some, None}
use Rattle.iseq_types.specs.declared.instructions.Instr.{Instr}
use Rattle.iseq_types.specs.declared.instructions.Instr.TheVariants as instr
use Rattle.iseq_types.specs.declared.sequences.CatchKind.{CatchKind}
use Rattle.iseq_types.specs.declared.sequences.CatchRow.{CatchRow}
use Rattle.iseq_types.specs.declared.sequences.Line.{Line}
use Rattle.code_meaning.specs.Code.{Shape, done, op, ahead, behind, deep, part, held, at_line}
use Rattle.code_writer.specs.declared.writer.Branch.{Branch}
use Rattle.code_writer.specs.declared.writer.Branch.TheVariants as branch
use Rattle.code_writer.specs.declared.writer.Written.{Written}
use Rattle.code_writer.specs.declared.writer.Written.TheVariants as written
use Rattle.code_writer.specs.declared.writer.HeldRow.{HeldRow}
use Rattle.code_writer.specs.declared.writer.CodeWriter.{CodeWriter}

-- An instruction that is written: as it is, or a jump over so many that follow it, or back over so many that stand before it.
pub data Step : Type 0 where
  plain : Line → Step
  on : ℕ → (ℕ → Instr) → ℕ → Step
  back : ℕ → (ℕ → Instr) → ℕ → Step

-- The steps in the order in which they are written, the last of the code first, and the rows, the last of the table first.
pub record Writing : Type 0 where
  pub steps : List Step
  pub rows : List HeldRow

-- nothing is written
abbrev pub nothing : Writing
nothing = record { steps = []; rows = [] }

-- the instruction that branches by this
abbrev pub branch_of : Branch → ℕ → Instr
branch_of branch.Always = instr.Jump
branch_of branch.If = instr.BranchIf
branch_of branch.Unless = instr.BranchUnless
branch_of branch.Nil = instr.BranchNil

abbrev pub step_of : Written → Step
step_of (written.Plain line) = plain line
step_of (written.On line b n) = on line (branch_of b) n
step_of (written.Back line b n) = back line (branch_of b) n

abbrev pub writing_of : CodeWriter → Writing
writing_of w = record { steps = map step_of w.written.items; rows = w.rows.items }

-- ---- what is done to it

abbrev pub wrote : Step → Writing → Writing
wrote x w = record w { steps = w.steps ++ x ∷ [] }

-- A row over what is written next. Its end is here, its value goes on so many instructions behind that.
abbrev pub row_here : CatchKind → ℕ → ℕ → ℕ → Writing → HeldRow
row_here k far q h w = record { kind = k; from = length w.steps; to = length w.steps; far = far; sp = h; seq = q }

abbrev pub row_opened : CatchKind → ℕ → ℕ → ℕ → Writing → Writing
row_opened k far q h w = record w { rows = w.rows ++ row_here k far q h w ∷ [] }

abbrev pub begins_at : ℕ → HeldRow → HeldRow
begins_at n r = record r { from = n }

abbrev pub set_begin : ℕ → ℕ → List HeldRow → Option HeldRow → List HeldRow
set_begin i n rs None = rs
set_begin i n rs (Some r) = slice_set rs i (begins_at n r)

-- the row begins here
abbrev pub row_begun : ℕ → Writing → Writing
row_begun i w = record w { rows = set_begin i (length w.steps) w.rows (slice_get w.rows i) }

abbrev pub set_over : ℕ → ℕ → List Step → Option Step → List Step
set_over i n xs None = xs
set_over i n xs (Some (plain line)) = xs
set_over i n xs (Some (on line j m)) = xs
set_over i n xs (Some (back line j m)) = slice_set xs i (back line j n)

-- the step, where it is a jump back, leads to here
abbrev pub led_back : ℕ → Writing → Writing
led_back i w = record w { steps = set_over i (length w.steps - suc i) w.steps (slice_get w.steps i) }

-- ---- the code of a shape, at a depth, before what is written

abbrev pub grown : ℕ → Shape → Writing → Writing
grown h done w = w
grown h (op l i s) w = wrote (plain (at_line l i)) (grown h s w)
grown h (ahead l j n s) w = wrote (on l j n) (grown h s w)
grown h (behind l j n s) w = wrote (back l j n) (grown h s w)
grown h (deep l j s) w = wrote (plain (at_line l (j h))) (grown h s w)
grown h (part d a s) w = grown (h + d) a (grown h s w)
grown h (held k far q a s) w = row_begun (length (grown h s w).rows) (grown h a (row_opened k far q h (grown h s w)))

-- ---- the code that is written

-- a step at its place
abbrev pub placed : ℕ → Step → Line
placed p (plain line) = line
placed p (on l j n) = at_line l (j (p + 1 + n))
placed p (back l j n) = at_line l (j (p - n))

abbrev pub placed_from : ℕ → List Step → List Line
placed_from p [] = []
placed_from p (x ∷ xs) = placed p x ∷ placed_from (p + 1) xs

abbrev pub code_of : Writing → List Line
code_of w = placed_from 0 (reverse w.steps)

-- a row among so many instructions
abbrev pub row_among : ℕ → HeldRow → CatchRow
row_among n r = record { kind = r.kind; from = n - r.from; to = n - r.to; cont = n - r.to + r.far; sp = r.sp; seq = r.seq }

abbrev pub table_of : Writing → List CatchRow
table_of w = map (row_among (length w.steps)) (reverse w.rows)
