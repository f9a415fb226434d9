-- What an operand was read as, in a table of names.
use Rattle.std.specs.Prelude.{◌≡◌, Bool}
use Rattle.ruby_lexer.specs.Bytes.{Bytes}
use Rattle.ruby_tree.specs.declared.names.Name.{Name}
use Rattle.ruby_tree.specs.declared.positions.SourcePosition as declared_spot
use Rattle.ruby_tree.specs.Names.{Texts}
use Rattle.ruby_tree.specs.Tree.{SourcePosition, Tree}
use Rattle.ruby_tree.specs.SourcePositions.{position_of}
use Rattle.tree_builder.specs.declared.Subtree.{Subtree}
use Rattle.tree_builder.specs.Subtrees.{IsNamed, Holds}
use Rattle.reference_parser.specs.ReadOperands.{Start, operand, attribute, element, command}
use Rattle.parse_state.specs.declared.forms.OperandForm as declared_start
use Rattle.parse_state.specs.declared.forms.OperandForm.TheVariants as start

pub data HoldsOperandForm (T : Texts) : declared_start.OperandForm → Start → Type 0 where
  holds_operand : {x : Subtree} {a : Tree} → Holds T x a → HoldsOperandForm T (start.Operand x) (operand a)
  holds_attribute : {x : Subtree} {a : Tree} {o : declared_spot.SourcePosition} {p : SourcePosition} {n : Name} {f : Bytes} → Holds T x a → position_of o ≡ p → IsNamed T n f → HoldsOperandForm T (start.Attribute x o n) (attribute a p f)
  holds_element : {x y : Subtree} {a i : Tree} {o : declared_spot.SourcePosition} {p : SourcePosition} → Holds T x a → position_of o ≡ p → Holds T y i → HoldsOperandForm T (start.Element x o y) (element a p i)
  holds_command : {safe : Bool} {x : Subtree} {a : Tree} {o : declared_spot.SourcePosition} {p : SourcePosition} {n : Name} {f : Bytes} → Holds T x a → position_of o ≡ p → IsNamed T n f → HoldsOperandForm T (start.Command safe x o n) (command safe a p f)
