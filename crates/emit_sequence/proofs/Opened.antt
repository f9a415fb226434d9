-- The code of a node, and the sequences in it, by its kind.
use Rattle.std.proofs.Common.{◌≡◌, ℕ, Bool, List, ap, ◌∙◌}
use Rattle.ruby_tree.specs.declared.node.Node.{Node}
use Rattle.ruby_tree.specs.declared.node.Node.TheViews.{out-Node}
use Rattle.ruby_tree.specs.Names.{Texts}
use Rattle.ruby_tree.specs.Read.{tree_of}
use Rattle.ruby_tree.specs.Views.{read_kind}
use Rattle.ruby_tree.proofs.Opened.{tree_of-is}
use Rattle.code_meaning.specs.Code.{Shape, lines_of, rows_of}
use Rattle.code_writer.specs.Writing.{Writing, grown, nothing, code_of, table_of}
use Rattle.code_writer.proofs.Shapes.{whole_code, whole_table}
use Rattle.compile_table.specs.Shapes.{Where, shape, form_shape}
use Rattle.code_emitter.specs.Children.{Child, direct, form_direct}

pub node_shape : (l : Where) (texts : Texts) (n : Node) → shape l (tree_of texts n) ≡ form_shape l (read_kind texts (out-Node n).kind) (record { first = (out-Node n).first; line = (out-Node n).line; place = (out-Node n).place })
node_shape l texts n = ap (shape l) (tree_of-is texts n)

pub node_direct : (loop : Bool) (texts : Texts) (n : Node) → direct loop (tree_of texts n) ≡ form_direct loop (read_kind texts (out-Node n).kind)
node_direct loop texts n = ap (direct loop) (tree_of-is texts n)

-- what is written for a shape, before nothing
pub code_is : (h : ℕ) (s : Shape) (w : Writing) → w ≡ grown h s nothing → code_of w ≡ lines_of h 0 s
code_is h s w is = ap code_of is ∙ whole_code h s

pub rows_are : (h : ℕ) (s : Shape) (w : Writing) → w ≡ grown h s nothing → table_of w ≡ rows_of h 0 s
rows_are h s w is = ap table_of is ∙ whole_table h s
