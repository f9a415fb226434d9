-- What stands behind an operand that nothing is assigned to, and a command behind a dot.
use Rattle.std.specs.Prelude.{Bool, if◌then◌else◌}
use Rattle.ruby_lexer.specs.Bytes.{Bytes}
use Rattle.ruby_lexer.specs.Pieces.{Toks}
use Rattle.ruby_tree.specs.Tree.{SourcePosition, Tree}
use Rattle.ruby_tree.specs.Rules.{DoBlockOwner}
use Rattle.reference_parser.specs.Answers.{fault, Parse, ◌>>=◌}
use Rattle.reference_parser.specs.ReadItems.{Readers}
use Rattle.reference_parser.specs.ReadLevels.{all_levels, raised, climb}
use Rattle.reference_parser.specs.ReadStatements.{command_by, unassigned}

module _ (source : Bytes) (Q : Readers) where
  -- the operators behind an operand that begins at o
  abbrev pub operated : DoBlockOwner → Toks → Tree → Parse Tree
  operated d o a w s = raised source Q d o a w s >>= λ b p x. climb source Q all_levels d o b p x >>= λ t r z. unassigned source Q t r z

  abbrev pub dotted_command : DoBlockOwner → Bool → Bool → Tree → SourcePosition → Bytes → Parse Tree
  dotted_command d c k a o m w s = if c then command_by source Q d k a o m w s else fault
