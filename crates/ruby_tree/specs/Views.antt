-- What the parts of a node are, with its names read by a table: the forms of each group of kinds, and of the lists in them.
use Rattle.std.specs.Prelude.{List, [], ◌∷◌, map, Option, Some, None, Vec}
use Rattle.std.specs.declared.boxed.Box.{Box}
use Rattle.std.specs.declared.alloc.Global.{Global}
use Rattle.ruby_tree.specs.declared.names.Name.{Name}
use Rattle.ruby_tree.specs.declared.node.Kind.{Kind}
use Rattle.ruby_tree.specs.declared.node.Kind.TheVariants as kind
use Rattle.ruby_tree.specs.declared.node.Collection.{Collection}
use Rattle.ruby_tree.specs.declared.node.Collection.TheVariants as collection
use Rattle.ruby_tree.specs.declared.node.TextPart.{TextPart}
use Rattle.ruby_tree.specs.declared.node.TextPart.TheVariants as text_part
use Rattle.ruby_tree.specs.declared.node.Assignment.{Assignment}
use Rattle.ruby_tree.specs.declared.node.Assignment.TheVariants as assignment
use Rattle.ruby_tree.specs.declared.node.Call.{Call}
use Rattle.ruby_tree.specs.declared.node.Call.TheVariants as call
use Rattle.ruby_tree.specs.declared.node.Control.{Control}
use Rattle.ruby_tree.specs.declared.node.Control.TheVariants as control
use Rattle.ruby_tree.specs.declared.node.Exit.{Exit}
use Rattle.ruby_tree.specs.declared.node.Exit.TheVariants as exit
use Rattle.ruby_tree.specs.declared.node.Handler.{Handler}
use Rattle.ruby_tree.specs.declared.node.Handler.TheVariants as handler
use Rattle.ruby_tree.specs.declared.node.Definition.{Definition}
use Rattle.ruby_tree.specs.declared.node.Definition.TheVariants as definition
use Rattle.ruby_tree.specs.declared.node.Param.{Param}
use Rattle.ruby_tree.specs.declared.node.Param.TheVariants as param
use Rattle.ruby_tree.specs.declared.node.Node.{Node}
use Rattle.ruby_tree.specs.Names.{Texts}
use Rattle.ruby_tree.specs.Tree.{Form, joined, array, hash, range, constant_path, assign, assign_all, assign_attribute, assign_index, operate_attribute, or_attribute, and_attribute, operate_index, or_index, and_index, send, safe_send, yield, super, bare_super, bare_raise, statements, both, either, negated, if_else, while_loop, case_of, case_tests, return_with, break_with, next_with, retry, rescue, ensure, rescue_sequence, ensure_sequence, method, class, module_named, body, trees_of, Trees, Other, without, with, Pairs, no_pair, pair, Pieces, no_piece, plain_piece, code_piece, Whens, no_when, when, Rescues, no_clause, clause, Params, no_param, required, optional, rest_param, block_param}
use Rattle.ruby_tree.specs.Read.{text_of_name, text_of_option, goal_of, literal_form, variable_form, tree_of}

module _ (texts : Texts) where
  abbrev pub read_all : List Node → Trees
  read_all ns = trees_of (map (tree_of texts) ns)

  abbrev pub read_other : Option (Box Node Global) → Other
  read_other None = without
  read_other (Some b) = with (tree_of texts b.value)

  abbrev pub read_pairs : List (Node × Node) → Pairs
  read_pairs [] = no_pair
  read_pairs (p ∷ ps) = pair (tree_of texts p.0) (tree_of texts p.1) (read_pairs ps)

  abbrev pub read_part : TextPart Node → Pieces → Pieces
  read_part (text_part.Plain f) ps = plain_piece f ps
  read_part (text_part.Code n) ps = code_piece (tree_of texts n) ps

  abbrev pub read_parts : List (TextPart Node) → Pieces
  read_parts [] = no_piece
  read_parts (p ∷ ps) = read_part p (read_parts ps)

  abbrev pub read_whens : List (Vec Node Global × Node) → Whens
  read_whens [] = no_when
  read_whens (p ∷ ps) = when (read_all p.0.items) (tree_of texts p.1) (read_whens ps)

  abbrev pub read_clauses : List (Vec Node Global × Option Name × Node) → Rescues
  read_clauses [] = no_clause
  read_clauses (c ∷ cs) = clause (read_all c.0.items) (text_of_option texts c.1) (tree_of texts c.2) (read_clauses cs)

  abbrev pub read_param : Param Node → Params → Params
  read_param (param.Required n) ps = required (text_of_name texts n) ps
  read_param (param.Optional n a) ps = optional (text_of_name texts n) (tree_of texts a) ps
  read_param (param.Rest n) ps = rest_param (text_of_name texts n) ps
  read_param (param.Block n) ps = block_param (text_of_name texts n) ps

  abbrev pub read_params : List (Param Node) → Params
  read_params [] = no_param
  read_params (p ∷ ps) = read_param p (read_params ps)

  abbrev pub read_collection : Collection Node → Form
  read_collection (collection.Text ps) = joined (read_parts ps.items)
  read_collection (collection.Array ts ks) = array (read_all ts.items) ks.items
  read_collection (collection.Hash ps) = hash (read_pairs ps.items)
  read_collection (collection.Range a b e) = range (tree_of texts a.value) (tree_of texts b.value) e
  read_collection (collection.ConstantPath v b ns) = constant_path (read_other v) b (map (text_of_name texts) ns.items)

  abbrev pub read_assignment : Assignment Node → Form
  read_assignment (assignment.Single v g) = assign (tree_of texts v.value) (goal_of texts g)
  read_assignment (assignment.Multiple vs gs) = assign_all (read_all vs.items) (map (goal_of texts) gs.items)
  read_assignment (assignment.Attribute a v n) = assign_attribute (tree_of texts a.value) (tree_of texts v.value) (text_of_name texts n)
  read_assignment (assignment.Index a i v) = assign_index (tree_of texts a.value) (tree_of texts i.value) (tree_of texts v.value)
  read_assignment (assignment.AttributeOperator a n v o m l) = operate_attribute (tree_of texts a.value) (text_of_name texts n) (tree_of texts v.value) (text_of_name texts o) (text_of_name texts m) l
  read_assignment (assignment.AttributeOr a n v m) = or_attribute (tree_of texts a.value) (text_of_name texts n) (tree_of texts v.value) (text_of_name texts m)
  read_assignment (assignment.AttributeAnd a n v m) = and_attribute (tree_of texts a.value) (text_of_name texts n) (tree_of texts v.value) (text_of_name texts m)
  read_assignment (assignment.IndexOperator a i v o l) = operate_index (tree_of texts a.value) (tree_of texts i.value) (tree_of texts v.value) (text_of_name texts o) l
  read_assignment (assignment.IndexOr a i v) = or_index (tree_of texts a.value) (tree_of texts i.value) (tree_of texts v.value)
  read_assignment (assignment.IndexAnd a i v) = and_index (tree_of texts a.value) (tree_of texts i.value) (tree_of texts v.value)

  abbrev pub read_call : Call Node → Form
  read_call (call.Send a ts ks v n alone b) = send (read_other a) (read_all ts.items) ks.items (read_other v) (text_of_name texts n) alone (read_other b)
  read_call (call.SafeSend a ts ks v n b) = safe_send (tree_of texts a.value) (read_all ts.items) ks.items (read_other v) (text_of_name texts n) (read_other b)
  read_call (call.Yield ts ks) = yield (read_all ts.items) ks.items
  read_call (call.Super ts ks v b) = super (read_all ts.items) ks.items (read_other v) (read_other b)
  read_call (call.BareSuper b) = bare_super (read_other b)
  read_call call.BareRaise = bare_raise

  abbrev pub read_control : Control Node → Form
  read_control (control.Statements ts) = statements (read_all ts.items)
  read_control (control.And a b) = both (tree_of texts a.value) (tree_of texts b.value)
  read_control (control.Or a b) = either (tree_of texts a.value) (tree_of texts b.value)
  read_control (control.Not a) = negated (tree_of texts a.value)
  read_control (control.If c a b) = if_else (tree_of texts c.value) (tree_of texts a.value) (read_other b)
  read_control (control.While a c u f) = while_loop (tree_of texts a.value) (tree_of texts c.value) u f
  read_control (control.Case a ws e) = case_of (tree_of texts a.value) (read_whens ws.items) (read_other e)
  read_control (control.CaseTests ws e) = case_tests (read_whens ws.items) (read_other e)

  abbrev pub read_exit : Exit Node → Form
  read_exit (exit.Return ts) = return_with (read_all ts.items)
  read_exit (exit.Break ts) = break_with (read_all ts.items)
  read_exit (exit.Next ts) = next_with (read_all ts.items)
  read_exit exit.Retry = retry

  abbrev pub read_handler : Handler Node → Form
  read_handler (handler.Rescue a e c) = rescue (tree_of texts a.value) (read_other e) (tree_of texts c.value)
  read_handler (handler.Ensure a c) = ensure (tree_of texts a.value) (tree_of texts c.value)
  read_handler (handler.RescueSequence cs) = rescue_sequence (read_clauses cs.items)
  read_handler (handler.EnsureSequence a) = ensure_sequence (tree_of texts a.value)

  abbrev pub read_definition : Definition Node → Form
  read_definition (definition.Method n a s) = method (text_of_name texts n) (tree_of texts a.value) s
  read_definition (definition.Class c n a) = class (read_other c) (text_of_name texts n) (tree_of texts a.value)
  read_definition (definition.Module n a) = module_named (text_of_name texts n) (tree_of texts a.value)
  read_definition (definition.Body ps a) = body (read_params ps.items) (tree_of texts a.value)

  abbrev pub read_kind : Kind Node → Form
  read_kind (kind.Literal x) = literal_form texts x
  read_kind (kind.Variable x) = variable_form texts x
  read_kind (kind.Collection x) = read_collection x
  read_kind (kind.Assignment x) = read_assignment x
  read_kind (kind.Call x) = read_call x
  read_kind (kind.Control x) = read_control x
  read_kind (kind.Exit x) = read_exit x
  read_kind (kind.Handler x) = read_handler x
  read_kind (kind.Definition x) = read_definition x
