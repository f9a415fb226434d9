-- The code of a small file, one line after another.
use Rattle.std.proofs.Common.{◌≡◌, ℕ, ◌+◌, Bool, true, false, List, [], ◌∷◌, ◌++◌, map, refl, ap, append_assoc}
use Rattle.iseq_types.specs.declared.instructions.Instr.TheVariants.{Pop}
use Rattle.iseq_types.specs.declared.sequences.Line.{Line as CodeLine}
use Rattle.small_form.specs.declared.tree.Line.{Line}
use Rattle.small_form.specs.declared.tree.Line.TheVariants.{Empty, Assign, PutsSum, PutsText}
use Rattle.cache_meaning.specs.SmallUnit.{numbered, at_line, statement_code}
use Rattle.compile_cache.specs.SmallSlots.{code_from, is_empty}

numbered_empty : (number : ℕ) (l : Line) (lines : List Line) → is_empty l ≡ true → numbered number (l ∷ lines) ≡ numbered (number + 1) lines
numbered_empty number Empty lines e = refl
numbered_empty number (Assign name s) lines e = absurd cc
numbered_empty number (PutsSum s) lines e = absurd cc
numbered_empty number (PutsText text) lines e = absurd cc

numbered_other : (number : ℕ) (l : Line) (lines : List Line) → is_empty l ≡ false → numbered number (l ∷ lines) ≡ (number, l) ∷ numbered (number + 1) lines
numbered_other number Empty lines e = absurd cc
numbered_other number (Assign name s) lines e = refl
numbered_other number (PutsSum s) lines e = refl
numbered_other number (PutsText text) lines e = refl

-- a line with no statement
pub empty_passed : (locals : List (List ℕ)) (follows : Bool) (number : ℕ) (l : Line) (lines : List Line) (code : List CodeLine) → is_empty l ≡ true → code ++ code_from locals follows (numbered number (l ∷ lines)) ≡ code ++ code_from locals follows (numbered (number + 1) lines)
empty_passed locals follows number l lines code e = ap (λ statements. code ++ code_from locals follows statements) (numbered_empty number l lines e)

-- a statement behind another
pub statement_behind : (locals : List (List ℕ)) (follows : Bool) (number : ℕ) (l : Line) (lines : List Line) (code mid new : List CodeLine) → is_empty l ≡ false → follows ≡ true → mid ≡ code ++ at_line 1 Pop ∷ [] → new ≡ mid ++ map (at_line number) (statement_code locals l)
    → code ++ code_from locals follows (numbered number (l ∷ lines)) ≡ new ++ code_from locals true (numbered (number + 1) lines)
statement_behind locals follows number l lines code mid new e f m n = rw (numbered_other number l lines e, f, n, m) (simp append_assoc)

-- the first statement
pub statement_first : (locals : List (List ℕ)) (follows : Bool) (number : ℕ) (l : Line) (lines : List Line) (code mid new : List CodeLine) → is_empty l ≡ false → follows ≡ false → mid ≡ code → new ≡ mid ++ map (at_line number) (statement_code locals l)
    → code ++ code_from locals follows (numbered number (l ∷ lines)) ≡ new ++ code_from locals true (numbered (number + 1) lines)
statement_first locals follows number l lines code mid new e f m n = rw (numbered_other number l lines e, f, n, m) (simp append_assoc)
