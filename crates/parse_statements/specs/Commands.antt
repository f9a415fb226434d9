-- Parts of what is read at a command, by its name or its word.
use Rattle.std.specs.Prelude.{false, if◌then◌else◌}
use Rattle.ruby_lexer.specs.Bytes.{Bytes}
use Rattle.ruby_tree.specs.Tree.{Tree, Trees, Form, at, send, yield, super, return_with, break_with, next_with, without}
use Rattle.ruby_tree.specs.Rules.{DoBlockOwner, next, position, word}
use Rattle.ruby_tree.specs.Build.{has_block}
use Rattle.reference_parser.specs.Answers.{taken, fault, Parse, ◌>>=◌}
use Rattle.reference_parser.specs.ReadItems.{Readers, command_items}
use Rattle.reference_parser.specs.ReadBodies.{command_block}
use Rattle.reference_parser.specs.ReadStatements.{read_values}
use Rattle.parse_statements.specs.declared.commands.Leaving.{Leaving}
use Rattle.parse_statements.specs.declared.commands.Leaving.TheVariants as leaving

-- what a word that leaves makes of its values
abbrev pub leaving_form : Leaving → Trees → Form
leaving_form leaving.Return = return_with
leaving_form leaving.Break = break_with
leaving_form leaving.Next = next_with

module _ (source : Bytes) (Q : Readers) where
  abbrev pub named_command : DoBlockOwner → Parse Tree
  named_command d w s = command_items source Q d (next w) s >>= λ g q y. command_block source Q d g q y >>= λ b r z. taken (at (position w) (send without g.trees g.spread g.value (word source w) false b)) r z

  abbrev pub yield_command : DoBlockOwner → Parse Tree
  yield_command d w s = command_items source Q d (next w) s >>= λ g r z. if has_block g then fault else taken (at (position w) (yield g.trees g.spread)) r z

  abbrev pub super_command : DoBlockOwner → Parse Tree
  super_command d w s = command_items source Q d (next w) s >>= λ g q y. command_block source Q d g q y >>= λ b r z. taken (at (position w) (super g.trees g.spread g.value b)) r z

  -- a word that leaves, whose values f makes a form of
  abbrev pub leaving_command : (Trees → Form) → DoBlockOwner → Parse Tree
  leaving_command f d w s = read_values source Q d (next w) s >>= λ ts r z. taken (at (position w) (f ts)) r z
