-- Trees by other names, and forms by tests.
use Rattle.std.proofs.Common.{◌≡◌, sym, subst, Bool, true, false, if◌then◌else◌, Result}
use Rattle.ruby_lexer.specs.Pieces.{Toks}
use Rattle.ruby_tree.specs.Names.{Texts}
use Rattle.ruby_tree.specs.Tree.{SourcePosition, Tree, Form, at}
use Rattle.ruby_tree.specs.Rules.{Scope}
use Rattle.tree_builder.specs.declared.Subtree.{Subtree}
use Rattle.tree_builder.specs.Subtrees.{Holds}
use Rattle.reference_parser.specs.Answers.{taken}
use Rattle.parse_state.specs.declared.failures.Failure.{Failure}
use Rattle.parse_state.specs.declared.standing.Parser.{Parser}
use Rattle.parse_state.specs.Gives.{Gives}

-- a tree by what it is made of
pub made_of : {A : Type 0} {T : Texts} {x : Subtree} {a b : A} (f : A → Tree) → a ≡ b → Holds T x (f a) → Holds T x (f b)
made_of {A} {T} {x} f is h = subst (λ (c : A). Holds T x (f c)) is h

-- a form by a test
module _ {p q : Parser} {result : Result Subtree Failure} {o : SourcePosition} {w : Toks} {s : Scope} {c : Bool} where
  pub form_yes : {f : Form} (g : Form) → c ≡ true → Gives Holds p q result (taken (at o f) w s) → Gives Holds p q result (taken (at o (if c then f else g)) w s)
  form_yes {f} g is h = subst (λ (d : Bool). Gives Holds p q result (taken (at o (if d then f else g)) w s)) (sym is) h

  pub form_no : {g : Form} (f : Form) → c ≡ false → Gives Holds p q result (taken (at o g) w s) → Gives Holds p q result (taken (at o (if c then f else g)) w s)
  form_no {g} f is h = subst (λ (d : Bool). Gives Holds p q result (taken (at o (if d then f else g)) w s)) (sym is) h
