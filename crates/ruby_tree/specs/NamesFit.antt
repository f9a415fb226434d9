-- Whether the names in a node are of a table.
use Rattle.std.specs.Prelude.{ℕ, Bool, true, ◌&&◌, nat_lt, List, Option, Some, None, Vec}
use Rattle.std.specs.List.{list_all}
use Rattle.std.specs.declared.boxed.Box.{Box}
use Rattle.std.specs.declared.alloc.Global.{Global}
use Rattle.ruby_tree.specs.declared.names.Name.{Name}
use Rattle.ruby_tree.specs.declared.node.Kind.{Kind}
use Rattle.ruby_tree.specs.declared.node.Kind.TheVariants as kind
use Rattle.ruby_tree.specs.declared.node.Literal.{Literal}
use Rattle.ruby_tree.specs.declared.node.Literal.TheVariants as literal
use Rattle.ruby_tree.specs.declared.node.Variable.{Variable}
use Rattle.ruby_tree.specs.declared.node.Variable.TheVariants as variable
use Rattle.ruby_tree.specs.declared.node.Collection.{Collection}
use Rattle.ruby_tree.specs.declared.node.Collection.TheVariants as collection
use Rattle.ruby_tree.specs.declared.node.TextPart.{TextPart}
use Rattle.ruby_tree.specs.declared.node.TextPart.TheVariants as text_part
use Rattle.ruby_tree.specs.declared.node.Target.{Target}
use Rattle.ruby_tree.specs.declared.node.Target.TheVariants as target
use Rattle.ruby_tree.specs.declared.node.Assignment.{Assignment}
use Rattle.ruby_tree.specs.declared.node.Assignment.TheVariants as assignment
use Rattle.ruby_tree.specs.declared.node.Call.{Call}
use Rattle.ruby_tree.specs.declared.node.Call.TheVariants as call
use Rattle.ruby_tree.specs.declared.node.Control.{Control}
use Rattle.ruby_tree.specs.declared.node.Control.TheVariants as control
use Rattle.ruby_tree.specs.declared.node.Exit.{Exit}
use Rattle.ruby_tree.specs.declared.node.Exit.TheVariants as exit
use Rattle.ruby_tree.specs.declared.node.Handler.{Handler}
use Rattle.ruby_tree.specs.declared.node.Handler.TheVariants as handler
use Rattle.ruby_tree.specs.declared.node.Definition.{Definition}
use Rattle.ruby_tree.specs.declared.node.Definition.TheVariants as definition
use Rattle.ruby_tree.specs.declared.node.Param.{Param}
use Rattle.ruby_tree.specs.declared.node.Param.TheVariants as param
use Rattle.ruby_tree.specs.declared.node.Node.{Node}
use Rattle.ruby_tree.specs.declared.node.Node.TheOpen.{Node-F}
use Rattle.ruby_tree.specs.declared.node.Node.TheFolds.{fold-Node}

abbrev pub all_fit : List Bool → Bool
all_fit bs = list_all (λ b. b) bs

abbrev pub other_fits : Option (Box Bool Global) → Bool
other_fits None = true
other_fits (Some b) = b.value

abbrev pub pair_fits : Bool × Bool → Bool
pair_fits p = p.0 && p.1

abbrev pub when_fits : Vec Bool Global × Bool → Bool
when_fits p = all_fit p.0.items && p.1

abbrev pub part_fits : TextPart Bool → Bool
part_fits (text_part.Plain f) = true
part_fits (text_part.Code b) = b

-- the table has so many names
module _ (count : ℕ) where
  abbrev pub name_fits : Name → Bool
  name_fits n = nat_lt n.number count

  abbrev pub option_fits : Option Name → Bool
  option_fits None = true
  option_fits (Some n) = name_fits n

  abbrev pub target_fits : Target → Bool
  target_fits (target.Local n) = name_fits n
  target_fits (target.Instance n) = name_fits n
  target_fits (target.Global n) = name_fits n
  target_fits (target.Constant n) = name_fits n

  abbrev pub clause_fits : Vec Bool Global × Option Name × Bool → Bool
  clause_fits c = all_fit c.0.items && option_fits c.1 && c.2

  abbrev pub param_fits : Param Bool → Bool
  param_fits (param.Required n) = name_fits n
  param_fits (param.Optional n b) = name_fits n && b
  param_fits (param.Rest n) = name_fits n
  param_fits (param.Block n) = name_fits n

  abbrev pub literal_fits : Literal → Bool
  literal_fits (literal.Symbol n) = name_fits n
  literal_fits _ = true

  abbrev pub variable_fits : Variable → Bool
  variable_fits (variable.Local n) = name_fits n
  variable_fits (variable.Instance n) = name_fits n
  variable_fits (variable.Global n) = name_fits n

  abbrev pub collection_fits : Collection Bool → Bool
  collection_fits (collection.Text ps) = list_all part_fits ps.items
  collection_fits (collection.Array ts ks) = all_fit ts.items
  collection_fits (collection.Hash ps) = list_all pair_fits ps.items
  collection_fits (collection.Range a b e) = a.value && b.value
  collection_fits (collection.ConstantPath v b ns) = other_fits v && list_all name_fits ns.items

  abbrev pub assignment_fits : Assignment Bool → Bool
  assignment_fits (assignment.Single v g) = v.value && target_fits g
  assignment_fits (assignment.Multiple vs gs) = all_fit vs.items && list_all target_fits gs.items
  assignment_fits (assignment.Attribute a v n) = a.value && v.value && name_fits n
  assignment_fits (assignment.Index a i v) = a.value && i.value && v.value
  assignment_fits (assignment.AttributeOperator a n v o m l) = a.value && name_fits n && v.value && name_fits o && name_fits m
  assignment_fits (assignment.AttributeOr a n v m) = a.value && name_fits n && v.value && name_fits m
  assignment_fits (assignment.AttributeAnd a n v m) = a.value && name_fits n && v.value && name_fits m
  assignment_fits (assignment.IndexOperator a i v o l) = a.value && i.value && v.value && name_fits o
  assignment_fits (assignment.IndexOr a i v) = a.value && i.value && v.value
  assignment_fits (assignment.IndexAnd a i v) = a.value && i.value && v.value

  abbrev pub call_fits : Call Bool → Bool
  call_fits (call.Send a ts ks v n alone b) = other_fits a && all_fit ts.items && other_fits v && name_fits n && other_fits b
  call_fits (call.SafeSend a ts ks v n b) = a.value && all_fit ts.items && other_fits v && name_fits n && other_fits b
  call_fits (call.Yield ts ks) = all_fit ts.items
  call_fits (call.Super ts ks v b) = all_fit ts.items && other_fits v && other_fits b
  call_fits (call.BareSuper b) = other_fits b
  call_fits call.BareRaise = true

  abbrev pub control_fits : Control Bool → Bool
  control_fits (control.Statements ts) = all_fit ts.items
  control_fits (control.And a b) = a.value && b.value
  control_fits (control.Or a b) = a.value && b.value
  control_fits (control.Not a) = a.value
  control_fits (control.If c a b) = c.value && a.value && other_fits b
  control_fits (control.While a c u f) = a.value && c.value
  control_fits (control.Case a ws e) = a.value && list_all when_fits ws.items && other_fits e
  control_fits (control.CaseTests ws e) = list_all when_fits ws.items && other_fits e

  abbrev pub exit_fits : Exit Bool → Bool
  exit_fits (exit.Return ts) = all_fit ts.items
  exit_fits (exit.Break ts) = all_fit ts.items
  exit_fits (exit.Next ts) = all_fit ts.items
  exit_fits exit.Retry = true

  abbrev pub handler_fits : Handler Bool → Bool
  handler_fits (handler.Rescue a e c) = a.value && other_fits e && c.value
  handler_fits (handler.Ensure a c) = a.value && c.value
  handler_fits (handler.RescueSequence cs) = list_all clause_fits cs.items
  handler_fits (handler.EnsureSequence a) = a.value

  abbrev pub definition_fits : Definition Bool → Bool
  definition_fits (definition.Method n a s) = name_fits n && a.value
  definition_fits (definition.Class c n a) = other_fits c && name_fits n && a.value
  definition_fits (definition.Module n a) = name_fits n && a.value
  definition_fits (definition.Body ps a) = list_all param_fits ps.items && a.value

  abbrev pub kind_fits : Kind Bool → Bool
  kind_fits (kind.Literal x) = literal_fits x
  kind_fits (kind.Variable x) = variable_fits x
  kind_fits (kind.Collection x) = collection_fits x
  kind_fits (kind.Assignment x) = assignment_fits x
  kind_fits (kind.Call x) = call_fits x
  kind_fits (kind.Control x) = control_fits x
  kind_fits (kind.Exit x) = exit_fits x
  kind_fits (kind.Handler x) = handler_fits x
  kind_fits (kind.Definition x) = definition_fits x

  abbrev pub node_fits : Node-F Bool → Bool
  node_fits n = kind_fits n.kind

  -- each name in the node is of the table
  abbrev pub names_fit : Node → Bool
  names_fit = fold-Node Bool node_fits
