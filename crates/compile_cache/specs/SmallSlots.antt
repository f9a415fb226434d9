-- What a small file's compiler knows on its way: the slots of the locals, found through a map, and the code that is still to come.
use Rattle.std.specs.Prelude.{◌≡◌, ℕ, Bool, true, false, List}
use Rattle.std.specs.List.{flat_map, position}
use Rattle.std.specs.Ordering.{nat_cmp}
use Rattle.std.specs.Cmp.Lexicographic.{slice_cmp}
use Rattle.std.specs.FinMap as map
use Rattle.bs_outside.specs.Paths.{same_bytes}
use Rattle.iseq_types.specs.declared.sequences.Line.{Line as CodeLine}
use Rattle.small_form.specs.declared.tree.Line.{Line}
use Rattle.small_form.specs.declared.tree.Line.TheVariants.{Empty, Assign, PutsSum, PutsText}
use Rattle.cache_meaning.specs.SmallUnit.{statements_code, code_behind}

-- a slot for each of some names
abbrev pub Slots : Type 0
Slots = map.FinMap {K = List ℕ} (slice_cmp nat_cmp) ℕ

-- The map has each of these locals with its slot, and no other name.
abbrev pub AreSlots : List (List ℕ) → Slots → Type 0
AreSlots locals slots = (name : List ℕ) → map.get slots name ≡ position (λ other. same_bytes other name) locals

-- whether the line has no statement
abbrev pub is_empty : Line → Bool
is_empty Empty = true
is_empty (Assign name s) = false
is_empty (PutsSum s) = false
is_empty (PutsText text) = false

-- The code of these statements, where one stands before them or none does.
abbrev pub code_from : List (List ℕ) → Bool → List (ℕ × Line) → List CodeLine
code_from locals false statements = statements_code locals statements
code_from locals true statements = flat_map (code_behind locals) statements
