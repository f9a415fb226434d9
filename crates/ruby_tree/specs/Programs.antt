-- What a program that was read is.
use Rattle.std.specs.Prelude.{◌≡◌, length, true}
use Rattle.ruby_lexer.specs.Bytes.{Bytes}
use Rattle.ruby_tree.specs.declared.node.Node.{Node}
use Rattle.ruby_tree.specs.Names.{Texts}
use Rattle.ruby_tree.specs.Read.{tree_of}
use Rattle.ruby_tree.specs.NamesFit.{names_fit}
use Rattle.ruby_tree.specs.Reading.{Reads}

-- Its names are of its table, and it is the tree of some text.
pub record IsProgram (texts : Texts) (root : Node) : Type 0 where
  pub names : names_fit (length texts) root ≡ true
  pub source : Bytes
  pub read : Reads source (tree_of texts root)
