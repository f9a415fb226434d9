-- The tree that a node is, with its names read by a table.
use Rattle.std.specs.Prelude.{List, [], ◌∷◌, map, Option, Some, None, Vec, slice_get, unwrap_or}
use Rattle.std.specs.declared.boxed.Box.{Box}
use Rattle.std.specs.declared.alloc.Global.{Global}
use Rattle.ruby_tree.specs.declared.names.Name.{Name}
use Rattle.ruby_tree.specs.declared.node.Kind.{Kind}
use Rattle.ruby_tree.specs.declared.node.Kind.TheVariants as kind
use Rattle.ruby_tree.specs.declared.node.Literal.{Literal}
use Rattle.ruby_tree.specs.declared.node.Literal.TheVariants as literal
use Rattle.ruby_tree.specs.declared.node.Variable.{Variable}
use Rattle.ruby_tree.specs.declared.node.Variable.TheVariants as variable
use Rattle.ruby_tree.specs.declared.node.Collection.{Collection}
use Rattle.ruby_tree.specs.declared.node.Collection.TheVariants as collection
use Rattle.ruby_tree.specs.declared.node.TextPart.{TextPart}
use Rattle.ruby_tree.specs.declared.node.TextPart.TheVariants as text_part
use Rattle.ruby_tree.specs.declared.node.Target.{Target}
use Rattle.ruby_tree.specs.declared.node.Target.TheVariants as target
use Rattle.ruby_tree.specs.declared.node.Assignment.{Assignment}
use Rattle.ruby_tree.specs.declared.node.Assignment.TheVariants as assignment
use Rattle.ruby_tree.specs.declared.node.Call.{Call}
use Rattle.ruby_tree.specs.declared.node.Call.TheVariants as call
use Rattle.ruby_tree.specs.declared.node.Control.{Control}
use Rattle.ruby_tree.specs.declared.node.Control.TheVariants as control
use Rattle.ruby_tree.specs.declared.node.Exit.{Exit}
use Rattle.ruby_tree.specs.declared.node.Exit.TheVariants as exit
use Rattle.ruby_tree.specs.declared.node.Handler.{Handler}
use Rattle.ruby_tree.specs.declared.node.Handler.TheVariants as handler
use Rattle.ruby_tree.specs.declared.node.Definition.{Definition}
use Rattle.ruby_tree.specs.declared.node.Definition.TheVariants as definition
use Rattle.ruby_tree.specs.declared.node.Param.{Param}
use Rattle.ruby_tree.specs.declared.node.Param.TheVariants as param
use Rattle.ruby_tree.specs.declared.node.Node.{Node}
use Rattle.ruby_tree.specs.declared.node.Node.TheOpen.{Node-F}
use Rattle.ruby_tree.specs.declared.node.Node.TheFolds.{fold-Node}
use Rattle.ruby_tree.specs.Names.{Bytes, Texts}
use Rattle.ruby_tree.specs.Tree.{Goal, to_local, to_instance, to_global, to_constant, Tree, at, Form, nil_value, true_value, false_value, integer, symbol, text, self_value, file_name, folder_name, line_number, local, instance, global, joined, array, hash, range, constant_path, assign, assign_all, assign_attribute, assign_index, operate_attribute, or_attribute, and_attribute, operate_index, or_index, and_index, send, safe_send, yield, super, bare_super, bare_raise, statements, both, either, negated, if_else, while_loop, case_of, case_tests, return_with, break_with, next_with, retry, rescue, ensure, rescue_sequence, ensure_sequence, method, class, module_named, body, trees_of, Other, without, with, Pairs, no_pair, pair, Pieces, no_piece, plain_piece, code_piece, Whens, no_when, when, Rescues, no_clause, clause, Params, no_param, required, optional, rest_param, block_param}

abbrev pub other_of : Option (Box Tree Global) → Other
other_of None = without
other_of (Some b) = with b.value

abbrev pub pairs_of : List (Tree × Tree) → Pairs
pairs_of [] = no_pair
pairs_of (p ∷ ps) = pair p.0 p.1 (pairs_of ps)

abbrev pub whens_of : List (Vec Tree Global × Tree) → Whens
whens_of [] = no_when
whens_of (p ∷ ps) = when (trees_of p.0.items) p.1 (whens_of ps)

abbrev pub part_then : TextPart Tree → Pieces → Pieces
part_then (text_part.Plain f) ps = plain_piece f ps
part_then (text_part.Code t) ps = code_piece t ps

abbrev pub pieces_of : List (TextPart Tree) → Pieces
pieces_of [] = no_piece
pieces_of (p ∷ ps) = part_then p (pieces_of ps)

-- the names that the table has
module _ (texts : Texts) where
  abbrev pub text_of_name : Name → Bytes
  text_of_name n = unwrap_or (slice_get texts n.number) []

  abbrev pub text_of_option : Option Name → Option Bytes
  text_of_option None = None
  text_of_option (Some n) = Some (text_of_name n)

  abbrev pub goal_of : Target → Goal
  goal_of (target.Local n) = to_local (text_of_name n)
  goal_of (target.Instance n) = to_instance (text_of_name n)
  goal_of (target.Global n) = to_global (text_of_name n)
  goal_of (target.Constant n) = to_constant (text_of_name n)

  abbrev pub clauses_of : List (Vec Tree Global × Option Name × Tree) → Rescues
  clauses_of [] = no_clause
  clauses_of (c ∷ cs) = clause (trees_of c.0.items) (text_of_option c.1) c.2 (clauses_of cs)

  abbrev pub param_then : Param Tree → Params → Params
  param_then (param.Required n) ps = required (text_of_name n) ps
  param_then (param.Optional n t) ps = optional (text_of_name n) t ps
  param_then (param.Rest n) ps = rest_param (text_of_name n) ps
  param_then (param.Block n) ps = block_param (text_of_name n) ps

  abbrev pub params_of : List (Param Tree) → Params
  params_of [] = no_param
  params_of (p ∷ ps) = param_then p (params_of ps)

  abbrev pub literal_form : Literal → Form
  literal_form literal.Nil = nil_value
  literal_form literal.True = true_value
  literal_form literal.False = false_value
  literal_form (literal.Integer z) = integer z
  literal_form (literal.Symbol n) = symbol (text_of_name n)
  literal_form (literal.String f) = text f
  literal_form literal.SelfValue = self_value
  literal_form literal.File = file_name
  literal_form literal.Folder = folder_name
  literal_form literal.Line = line_number

  abbrev pub variable_form : Variable → Form
  variable_form (variable.Local n) = local (text_of_name n)
  variable_form (variable.Instance n) = instance (text_of_name n)
  variable_form (variable.Global n) = global (text_of_name n)

  abbrev pub collection_form : Collection Tree → Form
  collection_form (collection.Text ps) = joined (pieces_of ps.items)
  collection_form (collection.Array ts ks) = array (trees_of ts.items) ks.items
  collection_form (collection.Hash ps) = hash (pairs_of ps.items)
  collection_form (collection.Range a b e) = range a.value b.value e
  collection_form (collection.ConstantPath v b ns) = constant_path (other_of v) b (map text_of_name ns.items)

  abbrev pub assignment_form : Assignment Tree → Form
  assignment_form (assignment.Single v g) = assign v.value (goal_of g)
  assignment_form (assignment.Multiple vs gs) = assign_all (trees_of vs.items) (map goal_of gs.items)
  assignment_form (assignment.Attribute a v n) = assign_attribute a.value v.value (text_of_name n)
  assignment_form (assignment.Index a i v) = assign_index a.value i.value v.value
  assignment_form (assignment.AttributeOperator a n v o m l) = operate_attribute a.value (text_of_name n) v.value (text_of_name o) (text_of_name m) l
  assignment_form (assignment.AttributeOr a n v m) = or_attribute a.value (text_of_name n) v.value (text_of_name m)
  assignment_form (assignment.AttributeAnd a n v m) = and_attribute a.value (text_of_name n) v.value (text_of_name m)
  assignment_form (assignment.IndexOperator a i v o l) = operate_index a.value i.value v.value (text_of_name o) l
  assignment_form (assignment.IndexOr a i v) = or_index a.value i.value v.value
  assignment_form (assignment.IndexAnd a i v) = and_index a.value i.value v.value

  abbrev pub call_form : Call Tree → Form
  call_form (call.Send a ts ks v n alone b) = send (other_of a) (trees_of ts.items) ks.items (other_of v) (text_of_name n) alone (other_of b)
  call_form (call.SafeSend a ts ks v n b) = safe_send a.value (trees_of ts.items) ks.items (other_of v) (text_of_name n) (other_of b)
  call_form (call.Yield ts ks) = yield (trees_of ts.items) ks.items
  call_form (call.Super ts ks v b) = super (trees_of ts.items) ks.items (other_of v) (other_of b)
  call_form (call.BareSuper b) = bare_super (other_of b)
  call_form call.BareRaise = bare_raise

  abbrev pub control_form : Control Tree → Form
  control_form (control.Statements ts) = statements (trees_of ts.items)
  control_form (control.And a b) = both a.value b.value
  control_form (control.Or a b) = either a.value b.value
  control_form (control.Not a) = negated a.value
  control_form (control.If c a b) = if_else c.value a.value (other_of b)
  control_form (control.While a c u f) = while_loop a.value c.value u f
  control_form (control.Case a ws e) = case_of a.value (whens_of ws.items) (other_of e)
  control_form (control.CaseTests ws e) = case_tests (whens_of ws.items) (other_of e)

  abbrev pub exit_form : Exit Tree → Form
  exit_form (exit.Return ts) = return_with (trees_of ts.items)
  exit_form (exit.Break ts) = break_with (trees_of ts.items)
  exit_form (exit.Next ts) = next_with (trees_of ts.items)
  exit_form exit.Retry = retry

  abbrev pub handler_form : Handler Tree → Form
  handler_form (handler.Rescue a e c) = rescue a.value (other_of e) c.value
  handler_form (handler.Ensure a c) = ensure a.value c.value
  handler_form (handler.RescueSequence cs) = rescue_sequence (clauses_of cs.items)
  handler_form (handler.EnsureSequence a) = ensure_sequence a.value

  abbrev pub definition_form : Definition Tree → Form
  definition_form (definition.Method n a s) = method (text_of_name n) a.value s
  definition_form (definition.Class c n a) = class (other_of c) (text_of_name n) a.value
  definition_form (definition.Module n a) = module_named (text_of_name n) a.value
  definition_form (definition.Body ps a) = body (params_of ps.items) a.value

  abbrev pub kind_form : Kind Tree → Form
  kind_form (kind.Literal x) = literal_form x
  kind_form (kind.Variable x) = variable_form x
  kind_form (kind.Collection x) = collection_form x
  kind_form (kind.Assignment x) = assignment_form x
  kind_form (kind.Call x) = call_form x
  kind_form (kind.Control x) = control_form x
  kind_form (kind.Exit x) = exit_form x
  kind_form (kind.Handler x) = handler_form x
  kind_form (kind.Definition x) = definition_form x

  abbrev pub node_step : Node-F Tree → Tree
  node_step n = at (record { first = n.first; line = n.line; place = n.place }) (kind_form n.kind)

  -- the tree that a node is
  abbrev pub tree_of : Node → Tree
  tree_of = fold-Node Tree node_step
