-- Where the body of a clause begins, told from the end of the code.
use Rattle.std.specs.Prelude.{ℕ, ◌+◌, List, [], ◌∷◌}
use Rattle.ruby_tree.specs.Tree.{Rescues, no_clause, clause}
use Rattle.code_meaning.specs.Code.{size}
use Rattle.compile_table.specs.Shapes.{Where, bodies_shape}

-- how many instructions stand behind the beginning of the body of each clause, where n stand behind all of them
abbrev pub clause_starts : Where → ℕ → ℕ → Rescues → List ℕ
clause_starts l line n no_clause = []
clause_starts l line n (clause ts x t cs) = (size (bodies_shape l (clause ts x t cs) line) + n) ∷ clause_starts l line n cs
