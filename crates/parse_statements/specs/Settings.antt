-- Assignments, part by part.
use Rattle.ruby_lexer.specs.Pieces.{Toks}
use Rattle.ruby_tree.specs.Tree.{Tree}
use Rattle.ruby_tree.specs.Rules.{DoBlockOwner, in_clause, behind, next}
use Rattle.ruby_tree.specs.Build.{rescued}
use Rattle.reference_parser.specs.Answers.{taken, Parse, ◌>>=◌}
use Rattle.reference_parser.specs.ReadItems.{Readers}

-- the value a, which begins at o, and what stands in its place behind the `rescue` here
abbrev pub saved_from : Readers → DoBlockOwner → Toks → Tree → Parse Tree
saved_from Q d o a q y = Q.arg d (next q) (in_clause y) >>= λ b r z. taken (rescued o q a b) r (behind y z)
