-- Parts by other names, and what a start is as an operand.
use Rattle.std.proofs.Common.{◌≡◌, refl, sym, subst, Bool, Result, Ok, Err, IsErrAnd, codes}
use Rattle.ruby_lexer.specs.Bytes.{Bytes}
use Rattle.ruby_lexer.specs.Pieces.{Toks}
use Rattle.ruby_tree.specs.declared.names.Name.{Name}
use Rattle.ruby_tree.specs.Names.{Texts}
use Rattle.ruby_tree.specs.Tree.{SourcePosition, Tree, Trees, Form, at, no_more}
use Rattle.ruby_tree.specs.Rules.{Scope}
use Rattle.ruby_tree.specs.Build.{sent, one}
use Rattle.tree_builder.specs.declared.Subtree.{Subtree}
use Rattle.tree_builder.specs.Subtrees.{IsNamed, Holds}
use Rattle.reference_parser.specs.Answers.{Answer, taken}
use Rattle.reference_parser.specs.ReadItems.{Readers}
use Rattle.reference_parser.specs.ReadOperands as read
use Rattle.reference_parser.specs.ReadLevels.{operand_of}
use Rattle.parse_state.specs.declared.failures.Failure.{Failure}
use Rattle.parse_state.specs.declared.failures.Failure.TheVariants as failure
use Rattle.parse_state.specs.declared.standing.Parser.{Parser}
use Rattle.parse_state.specs.Standing.{At, Later}
use Rattle.parse_state.specs.Gives.{Gives, gave, no_syntax, Expects, met}
use Rattle.parse_state.proofs.Steps.{later_same}
use Rattle.parse_operators.specs.declared.operations.BinaryOperation.{BinaryOperation}
use Rattle.parse_operators.specs.Levels.{make_of}
use Rattle.parse_state.specs.declared.forms.OperandForm as declared_start
use Rattle.parse_state.specs.declared.forms.OperandForm.TheVariants as start
use Rattle.parse_state.specs.Forms.{HoldsOperandForm, holds_operand, holds_attribute, holds_element, holds_command}

-- a tree at its position, and a text, by other names
pub at_spot : {T : Texts} {x : Subtree} {o p : SourcePosition} {f : Form} → o ≡ p → Holds T x (at o f) → Holds T x (at p f)
at_spot {T} {x} {o} {p} {f} is h = subst (λ (q : SourcePosition). Holds T x (at q f)) is h

pub named_by : {T : Texts} {n : Name} {f g : Bytes} → f ≡ g → IsNamed T n f → IsNamed T n g
named_by {T} {n} is h = subst (λ (k : Bytes). IsNamed T n k) is h

-- an error is no part
pub not_ok : (result : Result Subtree Failure) (e : Failure) → IsErrAnd result (λ d. d ≡ e) → (x : Subtree) → result ≡ Ok x → ⊥
not_ok (Ok y) e is x same = elim is [ ]
not_ok (Err d) e is x same = cc

-- what was read, by another name
pub read_as : {p q : Parser} {b : Answer Tree} {x y : Result Subtree Failure} → x ≡ y → Gives Holds p q x b → Gives Holds p q y b
read_as {p} {q} {b} is g = subst (λ (r : Result Subtree Failure). Gives Holds p q r b) is g

-- an operator that is sent from another position
module _ {p q : Parser} {result : Result Subtree Failure} {o u : SourcePosition} where
  pub sent_at : (a : Tree) (f : Bytes) (ts : Trees) (w : Toks) (s : Scope) → o ≡ u → Gives Holds p q result (taken (sent o a f ts) w s) → Gives Holds p q result (taken (sent u a f ts) w s)
  sent_at a f ts w s is g = subst (λ (x : SourcePosition). Gives Holds p q result (taken (sent x a f ts) w s)) is g

  pub differs_at : (a b : Tree) (w : Toks) (s : Scope) → o ≡ u → Gives Holds p q result (taken (sent o (sent o a (codes "==") (one b)) (codes "!") no_more) w s) → Gives Holds p q result (taken (sent u (sent u a (codes "==") (one b)) (codes "!") no_more) w s)
  differs_at a b w s is g = subst (λ (x : SourcePosition). Gives Holds p q result (taken (sent x (sent x a (codes "==") (one b)) (codes "!") no_more) w s)) is g

-- what a start is as an operand
module _ (source : Bytes) (Q : Readers) where
  held : {q : Parser} {x : Subtree} {t : read.Start} {r : Toks} {z : Scope} → At q r z → HoldsOperandForm q.symbols (start.Operand x) t → Gives Holds q q (Ok x) (operand_of source Q t r z)
  unfolding operand_of
  held {q} b (holds_operand h) = gave b (later_same q) h

  pub operand_held : {q : Parser} {y : declared_start.OperandForm} {x : Subtree} {t : read.Start} {r : Toks} {z : Scope} → y ≡ start.Operand x → At q r z → HoldsOperandForm q.symbols y t → Gives Holds q q (Ok x) (operand_of source Q t r z)
  operand_held {q} {y} {x} {t} is b h = held b (subst (λ (u : declared_start.OperandForm). HoldsOperandForm q.symbols u t) is h)

  pub other_faults : {q : Parser} {y : declared_start.OperandForm} {t : read.Start} (r : Toks) (z : Scope) → ((x : Subtree) → y ≡ start.Operand x → ⊥) → HoldsOperandForm q.symbols y t → Gives Holds q q (Err failure.Syntax) (operand_of source Q t r z)
  unfolding operand_of
  other_faults r z none (holds_operand {x = x} h) = absurd (none x refl)
  other_faults r z none (holds_attribute h e n) = no_syntax
  other_faults r z none (holds_element h e i) = no_syntax
  other_faults r z none (holds_command h e n) = no_syntax

-- a token that stood there was taken
pub met_later : {p q : Parser} {v : Toks} {s : Scope} {c : Bool} → Expects p q v s (Ok tt) c → Later p q
met_later (met b l) = l

-- what an operation makes, by what it is
pub made_as : {p q : Parser} {result : Result Subtree Failure} {k l : BinaryOperation} (source : Bytes) (o v : Toks) (a b : Tree) (w : Toks) (s : Scope) → k ≡ l → Gives Holds p q result (taken (make_of source l o v a b) w s) → Gives Holds p q result (taken (make_of source k o v a b) w s)
made_as {p} {q} {result} source o v a b w s is g = subst (λ (n : BinaryOperation). Gives Holds p q result (taken (make_of source n o v a b) w s)) (sym is) g
