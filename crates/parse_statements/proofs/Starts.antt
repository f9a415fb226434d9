-- What stands behind an operand, by what it was read as.
use Rattle.std.proofs.Common.{◌≡◌, subst, Bool, Result}
use Rattle.ruby_lexer.specs.Bytes.{Bytes}
use Rattle.ruby_lexer.specs.Pieces.{Toks}
use Rattle.ruby_tree.specs.declared.names.Name.{Name}
use Rattle.ruby_tree.specs.declared.positions.SourcePosition as declared_spot
use Rattle.ruby_tree.specs.Tree.{SourcePosition, Tree}
use Rattle.ruby_tree.specs.Rules.{Scope, DoBlockOwner}
use Rattle.ruby_tree.specs.SourcePositions.{position_of}
use Rattle.tree_builder.specs.declared.Subtree.{Subtree}
use Rattle.tree_builder.specs.Subtrees.{IsNamed, Holds}
use Rattle.reference_parser.specs.ReadItems.{Readers}
use Rattle.reference_parser.specs.ReadOperands as read
use Rattle.reference_parser.specs.ReadStatements.{start_by}
use Rattle.parse_state.specs.declared.failures.Failure.{Failure}
use Rattle.parse_state.specs.declared.standing.Parser.{Parser}
use Rattle.parse_state.specs.Gives.{Gives}
use Rattle.parse_state.specs.declared.forms.OperandForm as declared_start
use Rattle.parse_state.specs.declared.forms.OperandForm.TheVariants as start
use Rattle.parse_state.specs.Forms.{HoldsOperandForm, holds_operand, holds_attribute, holds_element, holds_command}
use Rattle.parse_statements.specs.Arguments.{operated, dotted_command}

-- The parser stood before w in the scope s, behind an operand that begins at v.
module _ (source : Bytes) (Q : Readers) (c : Bool) (d : DoBlockOwner) {p q : Parser} {result : Result Subtree Failure} (v w : Toks) (s : Scope) where
  operand_by : {t : read.Start} {x : Subtree} → HoldsOperandForm p.symbols (start.Operand x) t → ((a : Tree) → Holds p.symbols x a → Gives Holds p q result (operated source Q d v a w s)) → Gives Holds p q result (start_by source Q c d v t w s)
  unfolding start_by
  operand_by (holds_operand {a = a} h) k = k a h

  attribute_by : {t : read.Start} {x : Subtree} {o : declared_spot.SourcePosition} {n : Name} → HoldsOperandForm p.symbols (start.Attribute x o n) t → ((a : Tree) (m : Bytes) → Holds p.symbols x a → IsNamed p.symbols n m → Gives Holds p q result (start_by source Q c d v (read.attribute a (position_of o) m) w s)) → Gives Holds p q result (start_by source Q c d v t w s)
  attribute_by (holds_attribute {a = a} {f = m} h at i) k = subst (λ (z : SourcePosition). Gives Holds p q result (start_by source Q c d v (read.attribute a z m) w s)) at (k a m h i)

  element_by : {t : read.Start} {x y : Subtree} {o : declared_spot.SourcePosition} → HoldsOperandForm p.symbols (start.Element x o y) t → ((a i : Tree) → Holds p.symbols x a → Holds p.symbols y i → Gives Holds p q result (start_by source Q c d v (read.element a (position_of o) i) w s)) → Gives Holds p q result (start_by source Q c d v t w s)
  element_by (holds_element {a = a} {i = i} h at j) k = subst (λ (z : SourcePosition). Gives Holds p q result (start_by source Q c d v (read.element a z i) w s)) at (k a i h j)

  command_by_kind : {t : read.Start} {safe : Bool} {x : Subtree} {o : declared_spot.SourcePosition} {n : Name} → HoldsOperandForm p.symbols (start.Command safe x o n) t → ((a : Tree) (m : Bytes) → Holds p.symbols x a → IsNamed p.symbols n m → Gives Holds p q result (dotted_command source Q d c safe a (position_of o) m w s)) → Gives Holds p q result (start_by source Q c d v t w s)
  unfolding start_by
  command_by_kind {safe} (holds_command {a = a} {f = m} h at i) k = subst (λ (z : SourcePosition). Gives Holds p q result (dotted_command source Q d c safe a z m w s)) at (k a m h i)

  -- the same, where the kind of the start is known by an equation
  pub as_operand : {t : read.Start} {y : declared_start.OperandForm} {x : Subtree} → y ≡ start.Operand x → HoldsOperandForm p.symbols y t → ((a : Tree) → Holds p.symbols x a → Gives Holds p q result (operated source Q d v a w s)) → Gives Holds p q result (start_by source Q c d v t w s)
  as_operand {t} is h k = operand_by (subst (λ (u : declared_start.OperandForm). HoldsOperandForm p.symbols u t) is h) k

  pub as_attribute : {t : read.Start} {y : declared_start.OperandForm} {x : Subtree} {o : declared_spot.SourcePosition} {n : Name} → y ≡ start.Attribute x o n → HoldsOperandForm p.symbols y t → ((a : Tree) (m : Bytes) → Holds p.symbols x a → IsNamed p.symbols n m → Gives Holds p q result (start_by source Q c d v (read.attribute a (position_of o) m) w s)) → Gives Holds p q result (start_by source Q c d v t w s)
  as_attribute {t} is h k = attribute_by (subst (λ (u : declared_start.OperandForm). HoldsOperandForm p.symbols u t) is h) k

  pub as_element : {t : read.Start} {y : declared_start.OperandForm} {x i : Subtree} {o : declared_spot.SourcePosition} → y ≡ start.Element x o i → HoldsOperandForm p.symbols y t → ((a b : Tree) → Holds p.symbols x a → Holds p.symbols i b → Gives Holds p q result (start_by source Q c d v (read.element a (position_of o) b) w s)) → Gives Holds p q result (start_by source Q c d v t w s)
  as_element {t} is h k = element_by (subst (λ (u : declared_start.OperandForm). HoldsOperandForm p.symbols u t) is h) k

  pub as_command : {t : read.Start} {y : declared_start.OperandForm} {safe : Bool} {x : Subtree} {o : declared_spot.SourcePosition} {n : Name} → y ≡ start.Command safe x o n → HoldsOperandForm p.symbols y t → ((a : Tree) (m : Bytes) → Holds p.symbols x a → IsNamed p.symbols n m → Gives Holds p q result (dotted_command source Q d c safe a (position_of o) m w s)) → Gives Holds p q result (start_by source Q c d v t w s)
  as_command {t} is h k = command_by_kind (subst (λ (u : declared_start.OperandForm). HoldsOperandForm p.symbols u t) is h) k
