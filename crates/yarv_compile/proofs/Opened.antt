-- What the tree of a node is, by the node.
use Rattle.std.proofs.Common.{◌≡◌, ℕ, ap}
use Rattle.ruby_tree.specs.declared.node.Node.{Node}
use Rattle.ruby_tree.specs.declared.node.Node.TheViews.{out-Node}
use Rattle.ruby_tree.specs.Names.{Texts}
use Rattle.ruby_tree.specs.Read.{tree_of}
use Rattle.ruby_tree.specs.Views.{read_kind}
use Rattle.ruby_tree.proofs.Opened.{tree_of-is}
use Rattle.ruby_meaning.specs.Locals.{place_of, first_line_of, params_of, params_in}

pub first_line : (texts : Texts) (n : Node) → first_line_of (tree_of texts n) ≡ (out-Node n).first
first_line texts n = ap first_line_of (tree_of-is texts n)

pub place : (texts : Texts) (n : Node) → place_of (tree_of texts n) ≡ (out-Node n).place
place texts n = ap place_of (tree_of-is texts n)

pub params_read : (texts : Texts) (n : Node) → params_of (tree_of texts n) ≡ params_in (read_kind texts (out-Node n).kind)
params_read texts n = ap params_of (tree_of-is texts n)
