-- What a node is, by its kind: an operand, a sum, what is put, a line, a file.
use Rattle.std.proofs.Common.{◌≡◌, ℕ, Bool, true, false, ◌&&◌, cond, Option, Some, None, List, Result, IfOk, refl, ap, sym, subst, ◌∙◌}
use Rattle.std.specs.Prelude.{ℤ, ◌==◌, Vec, codes}
use Rattle.std.specs.List.{list_all}
use Rattle.std.specs.FinMap as map
use Rattle.std.specs.declared.boxed.Box.{Box}
use Rattle.std.specs.declared.alloc.Global.{Global}
use Rattle.bs_outside.specs.Paths.{same_bytes}
use Rattle.ruby_tree.specs.declared.names.Name.{Name}
use Rattle.ruby_tree.specs.declared.node.Target.{Target}
use Rattle.ruby_tree.specs.declared.node.Kind.{Kind}
use Rattle.ruby_tree.specs.declared.node.Kind.TheVariants as kind
use Rattle.ruby_tree.specs.declared.node.Literal.{Literal}
use Rattle.ruby_tree.specs.declared.node.Literal.TheVariants as literal
use Rattle.ruby_tree.specs.declared.node.Variable.{Variable}
use Rattle.ruby_tree.specs.declared.node.Variable.TheVariants as variable
use Rattle.ruby_tree.specs.declared.node.Collection.{Collection}
use Rattle.ruby_tree.specs.declared.node.Collection.TheVariants as collection
use Rattle.ruby_tree.specs.declared.node.Assignment.{Assignment}
use Rattle.ruby_tree.specs.declared.node.Assignment.TheVariants as assignment
use Rattle.ruby_tree.specs.declared.node.Call.{Call}
use Rattle.ruby_tree.specs.declared.node.Call.TheVariants as call
use Rattle.ruby_tree.specs.declared.node.Control.{Control}
use Rattle.ruby_tree.specs.declared.node.Control.TheVariants as control
use Rattle.ruby_tree.specs.declared.node.Exit.{Exit}
use Rattle.ruby_tree.specs.declared.node.Exit.TheVariants as exit
use Rattle.ruby_tree.specs.declared.node.Handler.{Handler}
use Rattle.ruby_tree.specs.declared.node.Handler.TheVariants as handler
use Rattle.ruby_tree.specs.declared.node.Definition.{Definition}
use Rattle.ruby_tree.specs.declared.node.Definition.TheVariants as definition
use Rattle.ruby_tree.specs.declared.node.Node.{Node}
use Rattle.ruby_tree.specs.declared.node.Node.TheViews.{out-Node}
use Rattle.ruby_tree.specs.Names.{Bytes, Texts}
use Rattle.ruby_tree.specs.Read.{goal_of, literal_form, text_of_name, tree_of, variable_form}
use Rattle.ruby_tree.specs.Views.{read_all, read_other, read_kind, read_collection, read_assignment, read_call, read_control, read_exit, read_handler, read_definition}
use Rattle.ruby_tree.specs.Tree.{SourcePosition, Tree, at, Trees, no_more, more}
use Rattle.ruby_tree.proofs.Opened.{tree_of-is}
use Rattle.small_form.specs.declared.tree.Operand.TheVariants as operand
use Rattle.small_form.specs.declared.tree.Line.{Line}
use Rattle.small_form.specs.declared.tree.Line.TheVariants as line
use Rattle.small_form.specs.SmallForm.{Names, spot_in, stands_in, number_by, operand_of, operator_of, is_plain, only_operand, alone, with_term, sum_of, short_sum, is_text_byte, text_line, only_put, assigned, line_of, begins_in_line_1, file_with, lines_from, small_of}
use Rattle.small_form.specs.declared.tree.SmallFile.{SmallFile}
use Rattle.std.specs.declared.alloc.AllocError.{AllocError}
use Rattle.small_form.proofs.Groups as group

-- the groups of which one variant counts
abbrev pub is_integer : Literal → Bool
is_integer (literal.Integer z) = true
is_integer _ = false

abbrev pub is_text : Literal → Bool
is_text (literal.String f) = true
is_text _ = false

abbrev pub is_local : Variable → Bool
is_local (variable.Local f) = true
is_local _ = false

abbrev pub is_single : Assignment Node → Bool
is_single (assignment.Single v g) = true
is_single _ = false

abbrev pub is_sent : Call Node → Bool
is_sent (call.Send (Some a) ts ks v f by_itself b) = true
is_sent _ = false

abbrev pub is_own : Call Node → Bool
is_own (call.Send None ts ks v f by_itself b) = true
is_own _ = false

module _ (texts : Texts) (n : ℕ) (names : Names) (o : SourcePosition) where
  other_literal : (x : Literal) → is_integer x ≡ false → operand_of n names (at o (literal_form texts x)) ≡ None
  other_literal literal.Nil q = refl
  other_literal literal.True q = refl
  other_literal literal.False q = refl
  other_literal (literal.Integer z) q = absurd cc
  other_literal (literal.Symbol f) q = refl
  other_literal (literal.String f) q = refl
  other_literal literal.SelfValue q = refl
  other_literal literal.File q = refl
  other_literal literal.Folder q = refl
  other_literal literal.Line q = refl

  other_variable : (x : Variable) → is_local x ≡ false → operand_of n names (at o (variable_form texts x)) ≡ None
  other_variable (variable.Local f) q = absurd cc
  other_variable (variable.Instance f) q = refl
  other_variable (variable.Global f) q = refl

  text_literal : (x : Literal) → is_text x ≡ false → text_line n (at o (literal_form texts x)) ≡ None
  text_literal literal.Nil q = refl
  text_literal literal.True q = refl
  text_literal literal.False q = refl
  text_literal (literal.Integer z) q = refl
  text_literal (literal.Symbol f) q = refl
  text_literal (literal.String f) q = absurd cc
  text_literal literal.SelfValue q = refl
  text_literal literal.File q = refl
  text_literal literal.Folder q = refl
  text_literal literal.Line q = refl

  other_call : (x : Call Node) → is_sent x ≡ false → sum_of n names (at o (read_call texts x)) ≡ None
  other_call (call.Send None ts ks v f by_itself b) q = refl
  other_call (call.Send (Some a) ts ks v f by_itself b) q = absurd cc
  other_call (call.SafeSend a ts ks v f b) q = refl
  other_call (call.Yield ts ks) q = refl
  other_call (call.Super ts ks v b) q = refl
  other_call (call.BareSuper b) q = refl
  other_call call.BareRaise q = refl

  line_call : (x : Call Node) → is_own x ≡ false → line_of n names (at o (read_call texts x)) ≡ None
  line_call (call.Send None ts ks v f by_itself b) q = absurd cc
  line_call (call.Send (Some a) ts ks v f by_itself b) q = refl
  line_call (call.SafeSend a ts ks v f b) q = refl
  line_call (call.Yield ts ks) q = refl
  line_call (call.Super ts ks v b) q = refl
  line_call (call.BareSuper b) q = refl
  line_call call.BareRaise q = refl

  line_assignment : (x : Assignment Node) → is_single x ≡ false → line_of n names (at o (read_assignment texts x)) ≡ None
  line_assignment (assignment.Single v g) q = absurd cc
  line_assignment (assignment.Multiple vs gs) q = refl
  line_assignment (assignment.Attribute a v f) q = refl
  line_assignment (assignment.Index a i v) q = refl
  line_assignment (assignment.AttributeOperator a f v p m l) q = refl
  line_assignment (assignment.AttributeOr a f v m) q = refl
  line_assignment (assignment.AttributeAnd a f v m) q = refl
  line_assignment (assignment.IndexOperator a i v p l) q = refl
  line_assignment (assignment.IndexOr a i v) q = refl
  line_assignment (assignment.IndexAnd a i v) q = refl

both : (b c : Bool) → b ≡ true → c ≡ true → (b && c) ≡ true
both true c e f = f
both false c e f = absurd cc

chosen : {A : Type 0} (b : Bool) (x y : A) → b ≡ true → cond b x y ≡ x
chosen true x y e = refl
chosen false x y e = absurd cc

first_off : {A : Type 0} (b c : Bool) (x : Option A) → b ≡ false → cond (b && c) x None ≡ None
first_off true c x e = absurd cc
first_off false c x e = refl

second_off : {A : Type 0} (b c : Bool) (x : Option A) → c ≡ false → cond (b && c) x None ≡ None
second_off true c x e = rw e refl
second_off false c x e = refl

-- where a node stands
abbrev pub place_of : Node → SourcePosition
place_of node = record { first = (out-Node node).first; line = (out-Node node).line; place = (out-Node node).place }

module _ (texts : Texts) (n : ℕ) (names : Names) (node : Node) where
  -- the tree of a node of such a kind
  kind_is : (k : Kind Node) → (out-Node node).kind ≡ k → tree_of texts node ≡ at (place_of node) (read_kind texts k)
  kind_is k e = tree_of-is texts node ∙ ap (λ j. at (place_of node) (read_kind texts j)) e

  stands_is : (b : Bool) → stands_in n (spot_in (tree_of texts node)) ≡ b → stands_in n (place_of node) ≡ b
  stands_is b e = ap (λ t. stands_in n (spot_in t)) (sym (tree_of-is texts node)) ∙ e

  pub operand_elsewhere : stands_in n (spot_in (tree_of texts node)) ≡ false → operand_of n names (tree_of texts node) ≡ None
  operand_elsewhere e = group.operand_off n names (tree_of texts node) e

  pub line_elsewhere : stands_in n (spot_in (tree_of texts node)) ≡ false → line_of n names (tree_of texts node) ≡ None
  line_elsewhere e = group.line_off n names (tree_of texts node) e

  pub operand_integer : (z : ℤ) → (out-Node node).kind ≡ kind.Literal (literal.Integer z) → stands_in n (spot_in (tree_of texts node)) ≡ true → operand_of n names (tree_of texts node) ≡ number_by z
  operand_integer z k e = ap (operand_of n names) (kind_is _ k) ∙ chosen (stands_in n (place_of node)) (number_by z) None (stands_is true e)

  pub operand_local : (f : Name) → (out-Node node).kind ≡ kind.Variable (variable.Local f) → stands_in n (spot_in (tree_of texts node)) ≡ true → operand_of n names (tree_of texts node) ≡ cond (map.contains_key names (text_of_name texts f)) (Some (operand.Name (text_of_name texts f))) None
  operand_local f k e = ap (operand_of n names) (kind_is _ k) ∙ ap (λ b. cond (b && map.contains_key names (text_of_name texts f)) (Some (operand.Name (text_of_name texts f))) None) (stands_is true e)

  pub operand_literal : (x : Literal) → (out-Node node).kind ≡ kind.Literal x → is_integer x ≡ false → operand_of n names (tree_of texts node) ≡ None
  operand_literal x k e = ap (operand_of n names) (kind_is _ k) ∙ other_literal texts n names (place_of node) x e

  pub operand_variable : (x : Variable) → (out-Node node).kind ≡ kind.Variable x → is_local x ≡ false → operand_of n names (tree_of texts node) ≡ None
  operand_variable x k e = ap (operand_of n names) (kind_is _ k) ∙ other_variable texts n names (place_of node) x e

  -- ---- sums

  sent_form : (a : Box Node Global) (ts : Vec Node Global) (ks : Vec ℕ Global) (v : Option (Box Node Global)) (f : Name) (by_itself : Bool) (b : Option (Box Node Global)) → (out-Node node).kind ≡ kind.Call (call.Send (Some a) ts ks v f by_itself b)
      → sum_of n names (tree_of texts node) ≡ cond (stands_in n (place_of node) && is_plain ks.items (read_other texts v) by_itself (read_other texts b)) (with_term (sum_of n names (tree_of texts a.value)) (operator_of (text_of_name texts f)) (only_operand n names (read_all texts ts.items))) None
  sent_form a ts ks v f by_itself b k = ap (sum_of n names) (kind_is _ k)

  pub sent_sum : (a : Box Node Global) (ts : Vec Node Global) (ks : Vec ℕ Global) (v : Option (Box Node Global)) (f : Name) (by_itself : Bool) (b : Option (Box Node Global)) → (out-Node node).kind ≡ kind.Call (call.Send (Some a) ts ks v f by_itself b)
      → stands_in n (spot_in (tree_of texts node)) ≡ true → is_plain ks.items (read_other texts v) by_itself (read_other texts b) ≡ true
      → sum_of n names (tree_of texts node) ≡ with_term (sum_of n names (tree_of texts a.value)) (operator_of (text_of_name texts f)) (only_operand n names (read_all texts ts.items))
  sent_sum a ts ks v f by_itself b k e p = sent_form a ts ks v f by_itself b k ∙ chosen (stands_in n (place_of node) && is_plain ks.items (read_other texts v) by_itself (read_other texts b)) _ None (both _ _ (stands_is true e) p)

  pub sent_elsewhere : (a : Box Node Global) (ts : Vec Node Global) (ks : Vec ℕ Global) (v : Option (Box Node Global)) (f : Name) (by_itself : Bool) (b : Option (Box Node Global)) → (out-Node node).kind ≡ kind.Call (call.Send (Some a) ts ks v f by_itself b)
      → stands_in n (spot_in (tree_of texts node)) ≡ false → sum_of n names (tree_of texts node) ≡ None
  sent_elsewhere a ts ks v f by_itself b k e = sent_form a ts ks v f by_itself b k ∙ first_off (stands_in n (place_of node)) (is_plain ks.items (read_other texts v) by_itself (read_other texts b)) _ (stands_is false e)

  pub sent_with_more : (a : Box Node Global) (ts : Vec Node Global) (ks : Vec ℕ Global) (v : Option (Box Node Global)) (f : Name) (by_itself : Bool) (b : Option (Box Node Global)) → (out-Node node).kind ≡ kind.Call (call.Send (Some a) ts ks v f by_itself b)
      → is_plain ks.items (read_other texts v) by_itself (read_other texts b) ≡ false → sum_of n names (tree_of texts node) ≡ None
  sent_with_more a ts ks v f by_itself b k p = sent_form a ts ks v f by_itself b k ∙ second_off (stands_in n (place_of node)) (is_plain ks.items (read_other texts v) by_itself (read_other texts b)) _ p

  pub sum_call : (x : Call Node) → (out-Node node).kind ≡ kind.Call x → is_sent x ≡ false → sum_of n names (tree_of texts node) ≡ None
  sum_call x k e = ap (sum_of n names) (kind_is _ k) ∙ other_call texts n names (place_of node) x e

  -- ---- what is put

  pub text_string : (f : Bytes) → (out-Node node).kind ≡ kind.Literal (literal.String f) → text_line n (tree_of texts node) ≡ cond (stands_in n (spot_in (tree_of texts node)) && list_all is_text_byte f) (Some (line.PutsText f)) None
  text_string f k = ap (text_line n) (kind_is _ k) ∙ ap (λ b. cond (b && list_all is_text_byte f) (Some (line.PutsText f)) None) (ap (λ t. stands_in n (spot_in t)) (sym (kind_is _ k)))

  pub text_other : (x : Literal) → (out-Node node).kind ≡ kind.Literal x → is_text x ≡ false → text_line n (tree_of texts node) ≡ None
  text_other x k e = ap (text_line n) (kind_is _ k) ∙ text_literal texts n names (place_of node) x e

  -- ---- lines

  pub line_single : (v : Box Node Global) (g : Target) → (out-Node node).kind ≡ kind.Assignment (assignment.Single v g) → stands_in n (spot_in (tree_of texts node)) ≡ true
      → line_of n names (tree_of texts node) ≡ assigned (goal_of texts g) (short_sum (sum_of n names (tree_of texts v.value)))
  line_single v g k e = ap (line_of n names) (kind_is _ k) ∙ chosen (stands_in n (place_of node)) _ None (stands_is true e)

  own_form : (ts : Vec Node Global) (ks : Vec ℕ Global) (v : Option (Box Node Global)) (f : Name) (by_itself : Bool) (b : Option (Box Node Global)) → (out-Node node).kind ≡ kind.Call (call.Send None ts ks v f by_itself b)
      → line_of n names (tree_of texts node) ≡ cond (stands_in n (place_of node) && (is_plain ks.items (read_other texts v) by_itself (read_other texts b) && same_bytes (text_of_name texts f) (codes "puts"))) (only_put n names (read_all texts ts.items)) None
  own_form ts ks v f by_itself b k = ap (line_of n names) (kind_is _ k)

  pub line_puts : (ts : Vec Node Global) (ks : Vec ℕ Global) (v : Option (Box Node Global)) (f : Name) (by_itself : Bool) (b : Option (Box Node Global)) → (out-Node node).kind ≡ kind.Call (call.Send None ts ks v f by_itself b)
      → stands_in n (spot_in (tree_of texts node)) ≡ true → is_plain ks.items (read_other texts v) by_itself (read_other texts b) ≡ true → same_bytes (text_of_name texts f) (codes "puts") ≡ true
      → line_of n names (tree_of texts node) ≡ only_put n names (read_all texts ts.items)
  line_puts ts ks v f by_itself b k e p q = own_form ts ks v f by_itself b k ∙ chosen (stands_in n (place_of node) && (is_plain ks.items (read_other texts v) by_itself (read_other texts b) && same_bytes (text_of_name texts f) (codes "puts"))) _ None (both _ _ (stands_is true e) (both _ _ p q))

  pub line_of_more : (ts : Vec Node Global) (ks : Vec ℕ Global) (v : Option (Box Node Global)) (f : Name) (by_itself : Bool) (b : Option (Box Node Global)) → (out-Node node).kind ≡ kind.Call (call.Send None ts ks v f by_itself b)
      → is_plain ks.items (read_other texts v) by_itself (read_other texts b) ≡ false → line_of n names (tree_of texts node) ≡ None
  line_of_more ts ks v f by_itself b k p =
      own_form ts ks v f by_itself b k ∙ second_off (stands_in n (place_of node)) (is_plain ks.items (read_other texts v) by_itself (read_other texts b) && same_bytes (text_of_name texts f) (codes "puts")) _ (ap (λ c. c && same_bytes (text_of_name texts f) (codes "puts")) p)

  pub line_no_puts : (ts : Vec Node Global) (ks : Vec ℕ Global) (v : Option (Box Node Global)) (f : Name) (by_itself : Bool) (b : Option (Box Node Global)) → (out-Node node).kind ≡ kind.Call (call.Send None ts ks v f by_itself b)
      → same_bytes (text_of_name texts f) (codes "puts") ≡ false → line_of n names (tree_of texts node) ≡ None
  line_no_puts ts ks v f by_itself b k q =
      own_form ts ks v f by_itself b k ∙ second_off (stands_in n (place_of node)) (is_plain ks.items (read_other texts v) by_itself (read_other texts b) && same_bytes (text_of_name texts f) (codes "puts")) _ (no_second (is_plain ks.items (read_other texts v) by_itself (read_other texts b)) _ q)
    where
      no_second : (b c : Bool) → c ≡ false → (b && c) ≡ false
      no_second true c e = e
      no_second false c e = refl

  pub line_assignment_other : (x : Assignment Node) → (out-Node node).kind ≡ kind.Assignment x → is_single x ≡ false → line_of n names (tree_of texts node) ≡ None
  line_assignment_other x k e = ap (line_of n names) (kind_is _ k) ∙ line_assignment texts n names (place_of node) x e

  pub line_call_other : (x : Call Node) → (out-Node node).kind ≡ kind.Call x → is_own x ≡ false → line_of n names (tree_of texts node) ≡ None
  line_call_other x k e = ap (line_of n names) (kind_is _ k) ∙ line_call texts n names (place_of node) x e

  -- ---- the other groups

  pub operand_node_collection : (x : Collection Node) → (out-Node node).kind ≡ kind.Collection x → operand_of n names (tree_of texts node) ≡ None
  operand_node_collection x k = ap (λ t. operand_of n names t) (kind_is _ k) ∙ group.operand_collection texts n names (place_of node) x

  pub operand_node_assignment : (x : Assignment Node) → (out-Node node).kind ≡ kind.Assignment x → operand_of n names (tree_of texts node) ≡ None
  operand_node_assignment x k = ap (λ t. operand_of n names t) (kind_is _ k) ∙ group.operand_assignment texts n names (place_of node) x

  pub operand_node_call : (x : Call Node) → (out-Node node).kind ≡ kind.Call x → operand_of n names (tree_of texts node) ≡ None
  operand_node_call x k = ap (λ t. operand_of n names t) (kind_is _ k) ∙ group.operand_call texts n names (place_of node) x

  pub operand_node_control : (x : Control Node) → (out-Node node).kind ≡ kind.Control x → operand_of n names (tree_of texts node) ≡ None
  operand_node_control x k = ap (λ t. operand_of n names t) (kind_is _ k) ∙ group.operand_control texts n names (place_of node) x

  pub operand_node_exit : (x : Exit Node) → (out-Node node).kind ≡ kind.Exit x → operand_of n names (tree_of texts node) ≡ None
  operand_node_exit x k = ap (λ t. operand_of n names t) (kind_is _ k) ∙ group.operand_exit texts n names (place_of node) x

  pub operand_node_handler : (x : Handler Node) → (out-Node node).kind ≡ kind.Handler x → operand_of n names (tree_of texts node) ≡ None
  operand_node_handler x k = ap (λ t. operand_of n names t) (kind_is _ k) ∙ group.operand_handler texts n names (place_of node) x

  pub operand_node_definition : (x : Definition Node) → (out-Node node).kind ≡ kind.Definition x → operand_of n names (tree_of texts node) ≡ None
  operand_node_definition x k = ap (λ t. operand_of n names t) (kind_is _ k) ∙ group.operand_definition texts n names (place_of node) x

  pub sum_node_literal : (x : Literal) → (out-Node node).kind ≡ kind.Literal x → sum_of n names (tree_of texts node) ≡ alone (operand_of n names (tree_of texts node))
  sum_node_literal x k = ap (λ t. sum_of n names t) (kind_is _ k) ∙ group.sum_literal texts n names (place_of node) x ∙ ap (λ t. alone (operand_of n names t)) (sym (kind_is _ k))

  pub sum_node_variable : (x : Variable) → (out-Node node).kind ≡ kind.Variable x → sum_of n names (tree_of texts node) ≡ alone (operand_of n names (tree_of texts node))
  sum_node_variable x k = ap (λ t. sum_of n names t) (kind_is _ k) ∙ group.sum_variable texts n names (place_of node) x ∙ ap (λ t. alone (operand_of n names t)) (sym (kind_is _ k))

  pub sum_node_collection : (x : Collection Node) → (out-Node node).kind ≡ kind.Collection x → sum_of n names (tree_of texts node) ≡ alone (operand_of n names (tree_of texts node))
  sum_node_collection x k = ap (λ t. sum_of n names t) (kind_is _ k) ∙ group.sum_collection texts n names (place_of node) x ∙ ap (λ t. alone (operand_of n names t)) (sym (kind_is _ k))

  pub sum_node_assignment : (x : Assignment Node) → (out-Node node).kind ≡ kind.Assignment x → sum_of n names (tree_of texts node) ≡ alone (operand_of n names (tree_of texts node))
  sum_node_assignment x k = ap (λ t. sum_of n names t) (kind_is _ k) ∙ group.sum_assignment texts n names (place_of node) x ∙ ap (λ t. alone (operand_of n names t)) (sym (kind_is _ k))

  pub sum_node_control : (x : Control Node) → (out-Node node).kind ≡ kind.Control x → sum_of n names (tree_of texts node) ≡ alone (operand_of n names (tree_of texts node))
  sum_node_control x k = ap (λ t. sum_of n names t) (kind_is _ k) ∙ group.sum_control texts n names (place_of node) x ∙ ap (λ t. alone (operand_of n names t)) (sym (kind_is _ k))

  pub sum_node_exit : (x : Exit Node) → (out-Node node).kind ≡ kind.Exit x → sum_of n names (tree_of texts node) ≡ alone (operand_of n names (tree_of texts node))
  sum_node_exit x k = ap (λ t. sum_of n names t) (kind_is _ k) ∙ group.sum_exit texts n names (place_of node) x ∙ ap (λ t. alone (operand_of n names t)) (sym (kind_is _ k))

  pub sum_node_handler : (x : Handler Node) → (out-Node node).kind ≡ kind.Handler x → sum_of n names (tree_of texts node) ≡ alone (operand_of n names (tree_of texts node))
  sum_node_handler x k = ap (λ t. sum_of n names t) (kind_is _ k) ∙ group.sum_handler texts n names (place_of node) x ∙ ap (λ t. alone (operand_of n names t)) (sym (kind_is _ k))

  pub sum_node_definition : (x : Definition Node) → (out-Node node).kind ≡ kind.Definition x → sum_of n names (tree_of texts node) ≡ alone (operand_of n names (tree_of texts node))
  sum_node_definition x k = ap (λ t. sum_of n names t) (kind_is _ k) ∙ group.sum_definition texts n names (place_of node) x ∙ ap (λ t. alone (operand_of n names t)) (sym (kind_is _ k))

  pub text_node_variable : (x : Variable) → (out-Node node).kind ≡ kind.Variable x → text_line n (tree_of texts node) ≡ None
  text_node_variable x k = ap (text_line n) (kind_is _ k) ∙ group.text_variable texts n names (place_of node) x

  pub text_node_collection : (x : Collection Node) → (out-Node node).kind ≡ kind.Collection x → text_line n (tree_of texts node) ≡ None
  text_node_collection x k = ap (text_line n) (kind_is _ k) ∙ group.text_collection texts n names (place_of node) x

  pub text_node_assignment : (x : Assignment Node) → (out-Node node).kind ≡ kind.Assignment x → text_line n (tree_of texts node) ≡ None
  text_node_assignment x k = ap (text_line n) (kind_is _ k) ∙ group.text_assignment texts n names (place_of node) x

  pub text_node_call : (x : Call Node) → (out-Node node).kind ≡ kind.Call x → text_line n (tree_of texts node) ≡ None
  text_node_call x k = ap (text_line n) (kind_is _ k) ∙ group.text_call texts n names (place_of node) x

  pub text_node_control : (x : Control Node) → (out-Node node).kind ≡ kind.Control x → text_line n (tree_of texts node) ≡ None
  text_node_control x k = ap (text_line n) (kind_is _ k) ∙ group.text_control texts n names (place_of node) x

  pub text_node_exit : (x : Exit Node) → (out-Node node).kind ≡ kind.Exit x → text_line n (tree_of texts node) ≡ None
  text_node_exit x k = ap (text_line n) (kind_is _ k) ∙ group.text_exit texts n names (place_of node) x

  pub text_node_handler : (x : Handler Node) → (out-Node node).kind ≡ kind.Handler x → text_line n (tree_of texts node) ≡ None
  text_node_handler x k = ap (text_line n) (kind_is _ k) ∙ group.text_handler texts n names (place_of node) x

  pub text_node_definition : (x : Definition Node) → (out-Node node).kind ≡ kind.Definition x → text_line n (tree_of texts node) ≡ None
  text_node_definition x k = ap (text_line n) (kind_is _ k) ∙ group.text_definition texts n names (place_of node) x

  pub line_node_literal : (x : Literal) → (out-Node node).kind ≡ kind.Literal x → line_of n names (tree_of texts node) ≡ None
  line_node_literal x k = ap (λ t. line_of n names t) (kind_is _ k) ∙ group.line_literal texts n names (place_of node) x

  pub line_node_variable : (x : Variable) → (out-Node node).kind ≡ kind.Variable x → line_of n names (tree_of texts node) ≡ None
  line_node_variable x k = ap (λ t. line_of n names t) (kind_is _ k) ∙ group.line_variable texts n names (place_of node) x

  pub line_node_collection : (x : Collection Node) → (out-Node node).kind ≡ kind.Collection x → line_of n names (tree_of texts node) ≡ None
  line_node_collection x k = ap (λ t. line_of n names t) (kind_is _ k) ∙ group.line_collection texts n names (place_of node) x

  pub line_node_control : (x : Control Node) → (out-Node node).kind ≡ kind.Control x → line_of n names (tree_of texts node) ≡ None
  line_node_control x k = ap (λ t. line_of n names t) (kind_is _ k) ∙ group.line_control texts n names (place_of node) x

  pub line_node_exit : (x : Exit Node) → (out-Node node).kind ≡ kind.Exit x → line_of n names (tree_of texts node) ≡ None
  line_node_exit x k = ap (λ t. line_of n names t) (kind_is _ k) ∙ group.line_exit texts n names (place_of node) x

  pub line_node_handler : (x : Handler Node) → (out-Node node).kind ≡ kind.Handler x → line_of n names (tree_of texts node) ≡ None
  line_node_handler x k = ap (λ t. line_of n names t) (kind_is _ k) ∙ group.line_handler texts n names (place_of node) x

  pub line_node_definition : (x : Definition Node) → (out-Node node).kind ≡ kind.Definition x → line_of n names (tree_of texts node) ≡ None
  line_node_definition x k = ap (λ t. line_of n names t) (kind_is _ k) ∙ group.line_definition texts n names (place_of node) x

module _ (texts : Texts) (node : Node) where
  file_kind : (k : Kind Node) → (out-Node node).kind ≡ k → tree_of texts node ≡ at (place_of node) (read_kind texts k)
  file_kind k e = tree_of-is texts node ∙ ap (λ j. at (place_of node) (read_kind texts j)) e

  pub small_control : (x : Control Node) (result : Result (Option SmallFile) AllocError) → (out-Node node).kind ≡ kind.Control x → ((o : SourcePosition) → o.line ≡ (out-Node node).line → IfOk result (λ file. file ≡ small_of (at o (read_control texts x)))) → IfOk result (λ file. file ≡ small_of (tree_of texts node))
  small_control x result k is = subst (λ t. IfOk result (λ file. file ≡ small_of t)) (sym (file_kind _ k)) (is (place_of node) refl)

  pub small_node_literal : (x : Literal) → (out-Node node).kind ≡ kind.Literal x → small_of (tree_of texts node) ≡ None
  small_node_literal x k = ap small_of (file_kind _ k) ∙ group.small_literal texts (place_of node) x

  pub small_node_variable : (x : Variable) → (out-Node node).kind ≡ kind.Variable x → small_of (tree_of texts node) ≡ None
  small_node_variable x k = ap small_of (file_kind _ k) ∙ group.small_variable texts (place_of node) x

  pub small_node_collection : (x : Collection Node) → (out-Node node).kind ≡ kind.Collection x → small_of (tree_of texts node) ≡ None
  small_node_collection x k = ap small_of (file_kind _ k) ∙ group.small_collection texts (place_of node) x

  pub small_node_assignment : (x : Assignment Node) → (out-Node node).kind ≡ kind.Assignment x → small_of (tree_of texts node) ≡ None
  small_node_assignment x k = ap small_of (file_kind _ k) ∙ group.small_assignment texts (place_of node) x

  pub small_node_call : (x : Call Node) → (out-Node node).kind ≡ kind.Call x → small_of (tree_of texts node) ≡ None
  small_node_call x k = ap small_of (file_kind _ k) ∙ group.small_call texts (place_of node) x

  pub small_node_exit : (x : Exit Node) → (out-Node node).kind ≡ kind.Exit x → small_of (tree_of texts node) ≡ None
  small_node_exit x k = ap small_of (file_kind _ k) ∙ group.small_exit texts (place_of node) x

  pub small_node_handler : (x : Handler Node) → (out-Node node).kind ≡ kind.Handler x → small_of (tree_of texts node) ≡ None
  small_node_handler x k = ap small_of (file_kind _ k) ∙ group.small_handler texts (place_of node) x

  pub small_node_definition : (x : Definition Node) → (out-Node node).kind ≡ kind.Definition x → small_of (tree_of texts node) ≡ None
  small_node_definition x k = ap small_of (file_kind _ k) ∙ group.small_definition texts (place_of node) x

pub ruleset operands = (operand_elsewhere, operand_integer, operand_local, operand_literal, operand_variable, operand_node_collection, operand_node_assignment, operand_node_call, operand_node_control, operand_node_exit, operand_node_handler, operand_node_definition)

pub ruleset sums = (sent_sum, sent_elsewhere, sent_with_more, sum_call, sum_node_literal, sum_node_variable, sum_node_collection, sum_node_assignment, sum_node_control, sum_node_exit, sum_node_handler, sum_node_definition)

pub ruleset puts = (text_string, text_other, text_node_variable, text_node_collection, text_node_assignment, text_node_call, text_node_control, text_node_exit, text_node_handler, text_node_definition)

pub ruleset lines = (line_elsewhere, line_single, line_puts, line_of_more, line_no_puts, line_assignment_other, line_call_other, line_node_literal, line_node_variable, line_node_collection, line_node_control, line_node_exit, line_node_handler, line_node_definition)

pub ruleset smalls = (small_node_literal, small_node_variable, small_node_collection, small_node_assignment, small_node_call, small_node_exit, small_node_handler, small_node_definition)

-- statements, by what their lines are
module _ (texts : Texts) (o : SourcePosition) (n : ℕ) (ts : Vec Node Global) (ns : List Node) where
  pub no_file : o.line ≡ n → ns ≡ ts.items → begins_in_line_1 n (read_all texts ns) ≡ false → small_of (at o (read_control texts (control.Statements ts))) ≡ None
  no_file l is e = ap (λ b. cond b (file_with (lines_from 1 map.empty (read_all texts ts.items))) None) (ap (λ m. begins_in_line_1 m (read_all texts ts.items)) l ∙ ap (λ xs. begins_in_line_1 n (read_all texts xs)) (sym is) ∙ e)

  pub a_file : o.line ≡ n → ns ≡ ts.items → begins_in_line_1 n (read_all texts ns) ≡ true → (ms : List Node) → ms ≡ ts.items → (lines : Option (List Line)) → lines ≡ lines_from 1 map.empty (read_all texts ms) → small_of (at o (read_control texts (control.Statements ts))) ≡ file_with lines
  a_file l is e ms same lines are = ap (λ b. cond b (file_with (lines_from 1 map.empty (read_all texts ts.items))) None) (ap (λ m. begins_in_line_1 m (read_all texts ts.items)) l ∙ ap (λ xs. begins_in_line_1 n (read_all texts xs)) (sym is) ∙ e) ∙ ap (λ xs. file_with (lines_from 1 map.empty (read_all texts xs))) (sym same) ∙ ap file_with (sym are)
