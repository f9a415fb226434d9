-- Code in parts, from which the list of instructions and the table of rows are made.
use Rattle.std.specs.Prelude.{◌≤◌, ◌≡◌, ℕ, suc, ◌+◌, ◌-◌, Bool, true, false, not, ◌&&◌, nat_lt, List, [], ◌∷◌, ◌++◌, Some, slice_get, ⊤}
use Rattle.iseq_types.specs.declared.instructions.Instr.{Instr}
use Rattle.iseq_types.specs.declared.sequences.CatchKind.{CatchKind}
use Rattle.iseq_types.specs.declared.sequences.CatchRow.{CatchRow}
use Rattle.iseq_types.specs.declared.sequences.Line.{Line}
use Rattle.iseq_types.specs.declared.sequences.SeqKind.{SeqKind}
use Rattle.iseq_types.specs.declared.sequences.Sequence.{Sequence}

-- A sequence as it runs: its kind, which the index of its unit gives, and its body.
pub record Routine : Type 0 where
  pub kind : SeqKind
  pub body : Sequence

-- an instruction with its line
abbrev pub at_line : ℕ → Instr → Line
at_line l i = record { line = l; instr = i }

abbrev pub holds : CatchRow → ℕ → Bool
holds r q = not (nat_lt q r.from) && nat_lt q r.to

abbrev pub keep : Bool → CatchRow → List CatchRow → List CatchRow
keep true r rs = r ∷ rs
keep false r rs = rs

-- the rows that hold a place, in order
abbrev pub rows_at : ℕ → List CatchRow → List CatchRow
rows_at q [] = []
rows_at q (r ∷ rs) = keep (holds r q) r (rows_at q rs)

-- Code in parts, each followed by the rest.
pub data Shape : Type 0 where
  done : Shape
  -- an instruction with its line
  op : ℕ → Instr → Shape → Shape
  -- one that jumps over so many instructions that follow it
  ahead : ℕ → (ℕ → Instr) → ℕ → Shape → Shape
  -- one that jumps back over so many that stand before it
  behind : ℕ → (ℕ → Instr) → ℕ → Shape → Shape
  -- one by the depth at which it stands
  deep : ℕ → (ℕ → Instr) → Shape → Shape
  -- a part that stands so much deeper on the stack
  part : ℕ → Shape → Shape → Shape
  -- a part that a row holds: the row's kind, how far behind the part's end it goes on, and its sequence
  held : CatchKind → ℕ → ℕ → Shape → Shape → Shape

-- how many instructions it has
abbrev pub size : Shape → ℕ
size done = 0
size (op l i s) = suc (size s)
size (ahead l j n s) = suc (size s)
size (behind l j n s) = suc (size s)
size (deep l j s) = suc (size s)
size (part d a s) = size a + size s
size (held k far q a s) = size a + size s

-- the place behind the code that stands at a place
abbrev pub finish : ℕ → Shape → ℕ
finish p done = p
finish p (op l i s) = finish (p + 1) s
finish p (ahead l j n s) = finish (p + 1) s
finish p (behind l j n s) = finish (p + 1) s
finish p (deep l j s) = finish (p + 1) s
finish p (part d a s) = finish (finish p a) s
finish p (held k far q a s) = finish (finish p a) s

-- The instructions of the code that stands at this depth and this place.
abbrev pub lines_of : ℕ → ℕ → Shape → List Line
lines_of h p done = []
lines_of h p (op l i s) = at_line l i ∷ lines_of h (p + 1) s
lines_of h p (ahead l j n s) = at_line l (j (p + 1 + n)) ∷ lines_of h (p + 1) s
lines_of h p (behind l j n s) = at_line l (j (p - n)) ∷ lines_of h (p + 1) s
lines_of h p (deep l j s) = at_line l (j h) ∷ lines_of h (p + 1) s
lines_of h p (part d a s) = lines_of (h + d) p a ++ lines_of h (finish p a) s
lines_of h p (held k far q a s) = lines_of h p a ++ lines_of h (finish p a) s

-- the row over a part that stands from a place to another
abbrev pub row_over : CatchKind → ℕ → ℕ → ℕ → ℕ → ℕ → CatchRow
row_over k h p end far q = record { kind = k; from = p; to = end; cont = end + far; sp = h; seq = q }

-- Its rows, the inner ones first: those of a part, the row over it, and those of the rest.
abbrev pub rows_of : ℕ → ℕ → Shape → List CatchRow
rows_of h p done = []
rows_of h p (op l i s) = rows_of h (p + 1) s
rows_of h p (ahead l j n s) = rows_of h (p + 1) s
rows_of h p (behind l j n s) = rows_of h (p + 1) s
rows_of h p (deep l j s) = rows_of h (p + 1) s
rows_of h p (part d a s) = rows_of (h + d) p a ++ rows_of h (finish p a) s
rows_of h p (held k far q a s) = rows_of h p a ++ (row_over k h p (finish p a) far q ∷ rows_of h (finish p a) s)

-- The code stands at this place of the lines, at this depth, and the rows that hold its places are its own and then these.
module _ (lines : List Line) (table : List CatchRow) where
  abbrev pub Placed : List CatchRow → ℕ → ℕ → Shape → Type 0
  Placed out h p done = ⊤
  Placed out h p (op l i s) = (slice_get lines p ≡ Some (at_line l i)) × (rows_at p table ≡ out) × Placed out h (p + 1) s
  Placed out h p (ahead l j n s) = (slice_get lines p ≡ Some (at_line l (j (p + 1 + n)))) × (rows_at p table ≡ out) × Placed out h (p + 1) s
  Placed out h p (behind l j n s) = (slice_get lines p ≡ Some (at_line l (j (p - n)))) × (rows_at p table ≡ out) × Placed out h (p + 1) s
  Placed out h p (deep l j s) = (slice_get lines p ≡ Some (at_line l (j h))) × (rows_at p table ≡ out) × Placed out h (p + 1) s
  Placed out h p (part d a s) = Placed out (h + d) p a × Placed out h (finish p a) s
  Placed out h p (held k far q a s) = Placed (row_over k h p (finish p a) far q ∷ out) h p a × Placed out h (finish p a) s

-- the rows end one after another, from this place on and not behind that one
abbrev pub Rising : ℕ → ℕ → List CatchRow → Type 0
Rising low high [] = low ≤ high
Rising low high (r ∷ rs) = (low ≤ r.to) × Rising r.to high rs
