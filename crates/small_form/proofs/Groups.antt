-- What the groups of nodes are that are no operands, no sums, no lines and no statements.
use Rattle.std.proofs.Common.{◌≡◌, ℕ, Bool, true, false, ◌&&◌, cond, Option, Some, None, refl, ap}
use Rattle.ruby_tree.specs.declared.node.Literal.{Literal}
use Rattle.ruby_tree.specs.declared.node.Literal.TheVariants as literal
use Rattle.ruby_tree.specs.declared.node.Variable.{Variable}
use Rattle.ruby_tree.specs.declared.node.Variable.TheVariants as variable
use Rattle.ruby_tree.specs.declared.node.Collection.{Collection}
use Rattle.ruby_tree.specs.declared.node.Collection.TheVariants as collection
use Rattle.ruby_tree.specs.declared.node.Assignment.{Assignment}
use Rattle.ruby_tree.specs.declared.node.Assignment.TheVariants as assignment
use Rattle.ruby_tree.specs.declared.node.Call.{Call}
use Rattle.ruby_tree.specs.declared.node.Call.TheVariants as call
use Rattle.ruby_tree.specs.declared.node.Control.{Control}
use Rattle.ruby_tree.specs.declared.node.Control.TheVariants as control
use Rattle.ruby_tree.specs.declared.node.Exit.{Exit}
use Rattle.ruby_tree.specs.declared.node.Exit.TheVariants as exit
use Rattle.ruby_tree.specs.declared.node.Handler.{Handler}
use Rattle.ruby_tree.specs.declared.node.Handler.TheVariants as handler
use Rattle.ruby_tree.specs.declared.node.Definition.{Definition}
use Rattle.ruby_tree.specs.declared.node.Definition.TheVariants as definition
use Rattle.ruby_tree.specs.declared.node.Node.{Node}
use Rattle.ruby_tree.specs.Names.{Texts}
use Rattle.ruby_tree.specs.Read.{literal_form, variable_form}
use Rattle.ruby_tree.specs.Views.{read_collection, read_assignment, read_call, read_control, read_exit, read_handler, read_definition}
use Rattle.ruby_tree.specs.Tree.{SourcePosition, Tree, at, integer, local, text, assign, send, with, without}
use Rattle.small_form.specs.declared.tree.Sum.{Sum}
use Rattle.small_form.specs.declared.tree.Line.TheVariants as line
use Rattle.small_form.specs.SmallForm.{Names, spot_in, stands_in, operand_of, alone, sum_of, short_sum, puts_line, text_line, put_of, line_of, small_of}

-- where a node stands elsewhere
pub operand_off : (n : ℕ) (names : Names) (t : Tree) → stands_in n (spot_in t) ≡ false → operand_of n names t ≡ None
operand_off n names (at o (integer z)) e = rw e refl
operand_off n names (at o (local f)) e = rw e refl
operand_off n names _ e = refl

pub line_off : (n : ℕ) (names : Names) (t : Tree) → stands_in n (spot_in t) ≡ false → line_of n names t ≡ None
line_off n names (at o (assign v g)) e = rw e refl
line_off n names (at o (send without ts spread value f by_itself block)) e = rw e refl
line_off n names _ e = refl

-- what is put: a sum, or else a text
pub put_by_sum : (n : ℕ) (names : Names) (t : Tree) (s : Sum) → short_sum (sum_of n names t) ≡ Some s → put_of n names t ≡ Some (line.PutsSum s)
put_by_sum n names (at o (text f)) s e = absurd cc
put_by_sum n names t s e = ap puts_line e

pub put_by_text : (n : ℕ) (names : Names) (t : Tree) → short_sum (sum_of n names t) ≡ None → put_of n names t ≡ text_line n t
put_by_text n names (at o (text f)) e = refl
put_by_text n names t e = ap puts_line e

module _ (texts : Texts) (n : ℕ) (names : Names) (o : SourcePosition) where
  pub operand_collection : (x : Collection Node) → operand_of n names (at o (read_collection texts x)) ≡ None
  operand_collection (collection.Text ps) = refl
  operand_collection (collection.Array ts ks) = refl
  operand_collection (collection.Hash ps) = refl
  operand_collection (collection.Range a b e) = refl
  operand_collection (collection.ConstantPath v b ns) = refl

  pub operand_assignment : (x : Assignment Node) → operand_of n names (at o (read_assignment texts x)) ≡ None
  operand_assignment (assignment.Single v g) = refl
  operand_assignment (assignment.Multiple vs gs) = refl
  operand_assignment (assignment.Attribute a v f) = refl
  operand_assignment (assignment.Index a i v) = refl
  operand_assignment (assignment.AttributeOperator a f v p m l) = refl
  operand_assignment (assignment.AttributeOr a f v m) = refl
  operand_assignment (assignment.AttributeAnd a f v m) = refl
  operand_assignment (assignment.IndexOperator a i v p l) = refl
  operand_assignment (assignment.IndexOr a i v) = refl
  operand_assignment (assignment.IndexAnd a i v) = refl

  pub operand_call : (x : Call Node) → operand_of n names (at o (read_call texts x)) ≡ None
  operand_call (call.Send a ts ks v f alone b) = refl
  operand_call (call.SafeSend a ts ks v f b) = refl
  operand_call (call.Yield ts ks) = refl
  operand_call (call.Super ts ks v b) = refl
  operand_call (call.BareSuper b) = refl
  operand_call call.BareRaise = refl

  pub operand_control : (x : Control Node) → operand_of n names (at o (read_control texts x)) ≡ None
  operand_control (control.Statements ts) = refl
  operand_control (control.And a b) = refl
  operand_control (control.Or a b) = refl
  operand_control (control.Not a) = refl
  operand_control (control.If c a b) = refl
  operand_control (control.While a c u f) = refl
  operand_control (control.Case a ws e) = refl
  operand_control (control.CaseTests ws e) = refl

  pub operand_exit : (x : Exit Node) → operand_of n names (at o (read_exit texts x)) ≡ None
  operand_exit (exit.Return ts) = refl
  operand_exit (exit.Break ts) = refl
  operand_exit (exit.Next ts) = refl
  operand_exit exit.Retry = refl

  pub operand_handler : (x : Handler Node) → operand_of n names (at o (read_handler texts x)) ≡ None
  operand_handler (handler.Rescue a e c) = refl
  operand_handler (handler.Ensure a c) = refl
  operand_handler (handler.RescueSequence cs) = refl
  operand_handler (handler.EnsureSequence a) = refl

  pub operand_definition : (x : Definition Node) → operand_of n names (at o (read_definition texts x)) ≡ None
  operand_definition (definition.Method f a s) = refl
  operand_definition (definition.Class c f a) = refl
  operand_definition (definition.Module f a) = refl
  operand_definition (definition.Body ps a) = refl

  pub sum_literal : (x : Literal) → sum_of n names (at o (literal_form texts x)) ≡ alone (operand_of n names (at o (literal_form texts x)))
  sum_literal literal.Nil = refl
  sum_literal literal.True = refl
  sum_literal literal.False = refl
  sum_literal (literal.Integer z) = refl
  sum_literal (literal.Symbol f) = refl
  sum_literal (literal.String f) = refl
  sum_literal literal.SelfValue = refl
  sum_literal literal.File = refl
  sum_literal literal.Folder = refl
  sum_literal literal.Line = refl

  pub sum_variable : (x : Variable) → sum_of n names (at o (variable_form texts x)) ≡ alone (operand_of n names (at o (variable_form texts x)))
  sum_variable (variable.Local f) = refl
  sum_variable (variable.Instance f) = refl
  sum_variable (variable.Global f) = refl

  pub sum_collection : (x : Collection Node) → sum_of n names (at o (read_collection texts x)) ≡ alone (operand_of n names (at o (read_collection texts x)))
  sum_collection (collection.Text ps) = refl
  sum_collection (collection.Array ts ks) = refl
  sum_collection (collection.Hash ps) = refl
  sum_collection (collection.Range a b e) = refl
  sum_collection (collection.ConstantPath v b ns) = refl

  pub sum_assignment : (x : Assignment Node) → sum_of n names (at o (read_assignment texts x)) ≡ alone (operand_of n names (at o (read_assignment texts x)))
  sum_assignment (assignment.Single v g) = refl
  sum_assignment (assignment.Multiple vs gs) = refl
  sum_assignment (assignment.Attribute a v f) = refl
  sum_assignment (assignment.Index a i v) = refl
  sum_assignment (assignment.AttributeOperator a f v p m l) = refl
  sum_assignment (assignment.AttributeOr a f v m) = refl
  sum_assignment (assignment.AttributeAnd a f v m) = refl
  sum_assignment (assignment.IndexOperator a i v p l) = refl
  sum_assignment (assignment.IndexOr a i v) = refl
  sum_assignment (assignment.IndexAnd a i v) = refl

  pub sum_control : (x : Control Node) → sum_of n names (at o (read_control texts x)) ≡ alone (operand_of n names (at o (read_control texts x)))
  sum_control (control.Statements ts) = refl
  sum_control (control.And a b) = refl
  sum_control (control.Or a b) = refl
  sum_control (control.Not a) = refl
  sum_control (control.If c a b) = refl
  sum_control (control.While a c u f) = refl
  sum_control (control.Case a ws e) = refl
  sum_control (control.CaseTests ws e) = refl

  pub sum_exit : (x : Exit Node) → sum_of n names (at o (read_exit texts x)) ≡ alone (operand_of n names (at o (read_exit texts x)))
  sum_exit (exit.Return ts) = refl
  sum_exit (exit.Break ts) = refl
  sum_exit (exit.Next ts) = refl
  sum_exit exit.Retry = refl

  pub sum_handler : (x : Handler Node) → sum_of n names (at o (read_handler texts x)) ≡ alone (operand_of n names (at o (read_handler texts x)))
  sum_handler (handler.Rescue a e c) = refl
  sum_handler (handler.Ensure a c) = refl
  sum_handler (handler.RescueSequence cs) = refl
  sum_handler (handler.EnsureSequence a) = refl

  pub sum_definition : (x : Definition Node) → sum_of n names (at o (read_definition texts x)) ≡ alone (operand_of n names (at o (read_definition texts x)))
  sum_definition (definition.Method f a s) = refl
  sum_definition (definition.Class c f a) = refl
  sum_definition (definition.Module f a) = refl
  sum_definition (definition.Body ps a) = refl

  pub text_variable : (x : Variable) → text_line n (at o (variable_form texts x)) ≡ None
  text_variable (variable.Local f) = refl
  text_variable (variable.Instance f) = refl
  text_variable (variable.Global f) = refl

  pub text_collection : (x : Collection Node) → text_line n (at o (read_collection texts x)) ≡ None
  text_collection (collection.Text ps) = refl
  text_collection (collection.Array ts ks) = refl
  text_collection (collection.Hash ps) = refl
  text_collection (collection.Range a b e) = refl
  text_collection (collection.ConstantPath v b ns) = refl

  pub text_assignment : (x : Assignment Node) → text_line n (at o (read_assignment texts x)) ≡ None
  text_assignment (assignment.Single v g) = refl
  text_assignment (assignment.Multiple vs gs) = refl
  text_assignment (assignment.Attribute a v f) = refl
  text_assignment (assignment.Index a i v) = refl
  text_assignment (assignment.AttributeOperator a f v p m l) = refl
  text_assignment (assignment.AttributeOr a f v m) = refl
  text_assignment (assignment.AttributeAnd a f v m) = refl
  text_assignment (assignment.IndexOperator a i v p l) = refl
  text_assignment (assignment.IndexOr a i v) = refl
  text_assignment (assignment.IndexAnd a i v) = refl

  pub text_call : (x : Call Node) → text_line n (at o (read_call texts x)) ≡ None
  text_call (call.Send a ts ks v f alone b) = refl
  text_call (call.SafeSend a ts ks v f b) = refl
  text_call (call.Yield ts ks) = refl
  text_call (call.Super ts ks v b) = refl
  text_call (call.BareSuper b) = refl
  text_call call.BareRaise = refl

  pub text_control : (x : Control Node) → text_line n (at o (read_control texts x)) ≡ None
  text_control (control.Statements ts) = refl
  text_control (control.And a b) = refl
  text_control (control.Or a b) = refl
  text_control (control.Not a) = refl
  text_control (control.If c a b) = refl
  text_control (control.While a c u f) = refl
  text_control (control.Case a ws e) = refl
  text_control (control.CaseTests ws e) = refl

  pub text_exit : (x : Exit Node) → text_line n (at o (read_exit texts x)) ≡ None
  text_exit (exit.Return ts) = refl
  text_exit (exit.Break ts) = refl
  text_exit (exit.Next ts) = refl
  text_exit exit.Retry = refl

  pub text_handler : (x : Handler Node) → text_line n (at o (read_handler texts x)) ≡ None
  text_handler (handler.Rescue a e c) = refl
  text_handler (handler.Ensure a c) = refl
  text_handler (handler.RescueSequence cs) = refl
  text_handler (handler.EnsureSequence a) = refl

  pub text_definition : (x : Definition Node) → text_line n (at o (read_definition texts x)) ≡ None
  text_definition (definition.Method f a s) = refl
  text_definition (definition.Class c f a) = refl
  text_definition (definition.Module f a) = refl
  text_definition (definition.Body ps a) = refl

  pub line_literal : (x : Literal) → line_of n names (at o (literal_form texts x)) ≡ None
  line_literal literal.Nil = refl
  line_literal literal.True = refl
  line_literal literal.False = refl
  line_literal (literal.Integer z) = refl
  line_literal (literal.Symbol f) = refl
  line_literal (literal.String f) = refl
  line_literal literal.SelfValue = refl
  line_literal literal.File = refl
  line_literal literal.Folder = refl
  line_literal literal.Line = refl

  pub line_variable : (x : Variable) → line_of n names (at o (variable_form texts x)) ≡ None
  line_variable (variable.Local f) = refl
  line_variable (variable.Instance f) = refl
  line_variable (variable.Global f) = refl

  pub line_collection : (x : Collection Node) → line_of n names (at o (read_collection texts x)) ≡ None
  line_collection (collection.Text ps) = refl
  line_collection (collection.Array ts ks) = refl
  line_collection (collection.Hash ps) = refl
  line_collection (collection.Range a b e) = refl
  line_collection (collection.ConstantPath v b ns) = refl

  pub line_control : (x : Control Node) → line_of n names (at o (read_control texts x)) ≡ None
  line_control (control.Statements ts) = refl
  line_control (control.And a b) = refl
  line_control (control.Or a b) = refl
  line_control (control.Not a) = refl
  line_control (control.If c a b) = refl
  line_control (control.While a c u f) = refl
  line_control (control.Case a ws e) = refl
  line_control (control.CaseTests ws e) = refl

  pub line_exit : (x : Exit Node) → line_of n names (at o (read_exit texts x)) ≡ None
  line_exit (exit.Return ts) = refl
  line_exit (exit.Break ts) = refl
  line_exit (exit.Next ts) = refl
  line_exit exit.Retry = refl

  pub line_handler : (x : Handler Node) → line_of n names (at o (read_handler texts x)) ≡ None
  line_handler (handler.Rescue a e c) = refl
  line_handler (handler.Ensure a c) = refl
  line_handler (handler.RescueSequence cs) = refl
  line_handler (handler.EnsureSequence a) = refl

  pub line_definition : (x : Definition Node) → line_of n names (at o (read_definition texts x)) ≡ None
  line_definition (definition.Method f a s) = refl
  line_definition (definition.Class c f a) = refl
  line_definition (definition.Module f a) = refl
  line_definition (definition.Body ps a) = refl

module _ (texts : Texts) (o : SourcePosition) where
  pub small_literal : (x : Literal) → small_of (at o (literal_form texts x)) ≡ None
  small_literal literal.Nil = refl
  small_literal literal.True = refl
  small_literal literal.False = refl
  small_literal (literal.Integer z) = refl
  small_literal (literal.Symbol f) = refl
  small_literal (literal.String f) = refl
  small_literal literal.SelfValue = refl
  small_literal literal.File = refl
  small_literal literal.Folder = refl
  small_literal literal.Line = refl

  pub small_variable : (x : Variable) → small_of (at o (variable_form texts x)) ≡ None
  small_variable (variable.Local f) = refl
  small_variable (variable.Instance f) = refl
  small_variable (variable.Global f) = refl

  pub small_collection : (x : Collection Node) → small_of (at o (read_collection texts x)) ≡ None
  small_collection (collection.Text ps) = refl
  small_collection (collection.Array ts ks) = refl
  small_collection (collection.Hash ps) = refl
  small_collection (collection.Range a b e) = refl
  small_collection (collection.ConstantPath v b ns) = refl

  pub small_assignment : (x : Assignment Node) → small_of (at o (read_assignment texts x)) ≡ None
  small_assignment (assignment.Single v g) = refl
  small_assignment (assignment.Multiple vs gs) = refl
  small_assignment (assignment.Attribute a v f) = refl
  small_assignment (assignment.Index a i v) = refl
  small_assignment (assignment.AttributeOperator a f v p m l) = refl
  small_assignment (assignment.AttributeOr a f v m) = refl
  small_assignment (assignment.AttributeAnd a f v m) = refl
  small_assignment (assignment.IndexOperator a i v p l) = refl
  small_assignment (assignment.IndexOr a i v) = refl
  small_assignment (assignment.IndexAnd a i v) = refl

  pub small_call : (x : Call Node) → small_of (at o (read_call texts x)) ≡ None
  small_call (call.Send a ts ks v f alone b) = refl
  small_call (call.SafeSend a ts ks v f b) = refl
  small_call (call.Yield ts ks) = refl
  small_call (call.Super ts ks v b) = refl
  small_call (call.BareSuper b) = refl
  small_call call.BareRaise = refl

  pub small_exit : (x : Exit Node) → small_of (at o (read_exit texts x)) ≡ None
  small_exit (exit.Return ts) = refl
  small_exit (exit.Break ts) = refl
  small_exit (exit.Next ts) = refl
  small_exit exit.Retry = refl

  pub small_handler : (x : Handler Node) → small_of (at o (read_handler texts x)) ≡ None
  small_handler (handler.Rescue a e c) = refl
  small_handler (handler.Ensure a c) = refl
  small_handler (handler.RescueSequence cs) = refl
  small_handler (handler.EnsureSequence a) = refl

  pub small_definition : (x : Definition Node) → small_of (at o (read_definition texts x)) ≡ None
  small_definition (definition.Method f a s) = refl
  small_definition (definition.Class c f a) = refl
  small_definition (definition.Module f a) = refl
  small_definition (definition.Body ps a) = refl

pub ruleset operands = (operand_off, operand_collection, operand_assignment, operand_call, operand_control, operand_exit, operand_handler, operand_definition)

pub ruleset sums = (sum_literal, sum_variable, sum_collection, sum_assignment, sum_control, sum_exit, sum_handler, sum_definition)

pub ruleset puts = (text_variable, text_collection, text_assignment, text_call, text_control, text_exit, text_handler, text_definition)

pub ruleset lines = (line_off, line_literal, line_variable, line_collection, line_control, line_exit, line_handler, line_definition)

pub ruleset smalls = (small_literal, small_variable, small_collection, small_assignment, small_call, small_exit, small_handler, small_definition)

pub ruleset put_by = (put_by_sum, put_by_text)
