-- What a tree is, from its node.
use Rattle.std.proofs.Common.{◌≡◌, ℕ, refl, sym, ap, ◌∙◌}
use Rattle.ruby_tree.specs.declared.node.Kind.{Kind}
use Rattle.ruby_tree.specs.declared.node.Node.{Node}
use Rattle.ruby_tree.specs.declared.node.Node.TheViews.{out-Node}
use Rattle.ruby_tree.specs.Names.{Texts}
use Rattle.ruby_tree.specs.Read.{tree_of}
use Rattle.ruby_tree.specs.Views.{read_kind}
use Rattle.ruby_tree.proofs.Opened.{tree_of-is}
use Rattle.ruby_meaning.specs.Locals.{place_of, first_line_of}
use Rattle.compile_table.specs.Shapes.{self_flag, is_self_form}

-- the place of a tree
pub place : (texts : Texts) (n : Node) → place_of (tree_of texts n) ≡ (out-Node n).place
place texts n = ap place_of (tree_of-is texts n)

-- the flag of a receiver
pub flag : (texts : Texts) (n : Node) → self_flag (tree_of texts n) ≡ is_self_form (read_kind texts (out-Node n).kind)
flag texts n = ap self_flag (tree_of-is texts n)
