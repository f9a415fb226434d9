-- Trees that are written out.
use Rattle.std.specs.Prelude.{ℕ}
use Rattle.ruby_tree.specs.Tree.{Tree, at, Form}

-- a node by the line of its first token, its own line, its place, and what it is
abbrev pub node : ℕ → ℕ → ℕ → Form → Tree
node first line place f = at (record { first = first; line = line; place = place }) f
