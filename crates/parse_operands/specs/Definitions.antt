-- Parts of what is read at `def`, `class` and `module`.
use Rattle.std.specs.Prelude.{if◌then◌else◌}
use Rattle.ruby_lexer.specs.Bytes.{Bytes}
use Rattle.ruby_tree.specs.Tree.{Tree, at, class, module_named, body, no_param}
use Rattle.ruby_tree.specs.Rules.{DoBlockOwner, fresh, within, next, position, word}
use Rattle.reference_parser.specs.Answers.{fault, Parse, ◌>>=◌}
use Rattle.reference_parser.specs.Fronts.{is_newline}
use Rattle.reference_parser.specs.ReadItems.{Readers}
use Rattle.reference_parser.specs.ReadBodies.{read_body, ended, read_superclass}

module _ (source : Bytes) (Q : Readers) where
  -- a body that begins with the first token
  abbrev pub plain_body : DoBlockOwner → Parse Tree
  plain_body d w s = read_body source Q d (position w) w s

  -- a class whose name is a constant
  abbrev pub class_at : DoBlockOwner → Parse Tree
  class_at d w s = read_superclass source Q (within d) (next (next w)) s >>= λ c q y.
      if is_newline q then
      (read_body source Q (within d) (position (next q)) (next q) fresh >>= λ t r z. ended source Q (at (position w) (class c (word source (next w)) (at (position w) (body no_param t)))) r y)
      else fault

  -- a module whose name is a constant with a newline behind it
  abbrev pub module_at : DoBlockOwner → Parse Tree
  module_at d w s =
      read_body source Q (within d) (position (next (next (next w)))) (next (next (next w))) fresh >>= λ t r z. ended source Q (at (position w) (module_named (word source (next w)) (at (position w) (body no_param t)))) r s
