-- The places of the sequences in a node. Its names do not matter, so they are read by a table without names.
use Rattle.std.specs.Prelude.{Bool, true, false, ℕ, List, ◌++◌}
use Rattle.ruby_tree.specs.Tree.{Form, rescue_sequence, ensure_sequence, body}
use Rattle.ruby_meaning.specs.Sequences.{places, form_places, clauses_places, params_places}

-- whether a node of this form is a sequence of its own
abbrev pub is_sequence : Form → Bool
is_sequence (rescue_sequence cs) = true
is_sequence (ensure_sequence a) = true
is_sequence (body ps a) = true
is_sequence f = false

-- the places in the parts of a node
abbrev pub part_places : Form → List ℕ
part_places (rescue_sequence cs) = clauses_places cs
part_places (ensure_sequence a) = places a
part_places (body ps a) = params_places ps ++ places a
part_places f = form_places 0 f
