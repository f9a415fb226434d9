-- The tree of a node, opened by one layer: the parts of its kind are read one by one.
use Rattle.std.proofs.Common.{◌≡◌, List, [], ◌∷◌, refl, ap, ◌∙◌, Option, Some, None, Vec, map}
use Rattle.std.specs.declared.alloc.Global.{Global}
use Rattle.ruby_tree.specs.declared.names.Name.{Name}
use Rattle.ruby_tree.specs.declared.node.Kind.{Kind}
use Rattle.ruby_tree.specs.declared.node.Kind.TheVariants as kind
use Rattle.ruby_tree.specs.declared.node.Collection.{Collection}
use Rattle.ruby_tree.specs.declared.node.Collection.TheVariants as collection
use Rattle.ruby_tree.specs.declared.node.TextPart.{TextPart}
use Rattle.ruby_tree.specs.declared.node.TextPart.TheVariants as text_part
use Rattle.ruby_tree.specs.declared.node.Assignment.{Assignment}
use Rattle.ruby_tree.specs.declared.node.Assignment.TheVariants as assignment
use Rattle.ruby_tree.specs.declared.node.Call.{Call}
use Rattle.ruby_tree.specs.declared.node.Call.TheVariants as call
use Rattle.ruby_tree.specs.declared.node.Control.{Control}
use Rattle.ruby_tree.specs.declared.node.Control.TheVariants as control
use Rattle.ruby_tree.specs.declared.node.Exit.{Exit}
use Rattle.ruby_tree.specs.declared.node.Exit.TheVariants as exit
use Rattle.ruby_tree.specs.declared.node.Handler.{Handler}
use Rattle.ruby_tree.specs.declared.node.Handler.TheVariants as handler
use Rattle.ruby_tree.specs.declared.node.Definition.{Definition}
use Rattle.ruby_tree.specs.declared.node.Definition.TheVariants as definition
use Rattle.ruby_tree.specs.declared.node.Param.{Param}
use Rattle.ruby_tree.specs.declared.node.Param.TheVariants as param
use Rattle.ruby_tree.specs.declared.node.Node.{Node}
use Rattle.ruby_tree.specs.declared.node.Node.TheFolds.{fold_out-Node, map-Node}
use Rattle.ruby_tree.specs.declared.node.Node.TheViews.{out-Node}
use Rattle.ruby_tree.specs.Names.{Bytes, Texts}
use Rattle.ruby_tree.specs.Tree.{Tree, Form, at, joined, hash, case_of, case_tests, rescue_sequence, body, without, with, plain_piece, code_piece}
use Rattle.ruby_tree.specs.Read.{tree_of, node_step, kind_form, pieces_of, part_then, pairs_of, whens_of, clauses_of, params_of}
use Rattle.ruby_tree.specs.Views.{read_kind, read_pairs, read_parts, read_whens, read_clauses, read_params}

module _ (texts : Texts) where
  -- the form of a kind whose nodes are trees already
  abbrev form_of : Kind Node → Form
  form_of k = kind_form texts (map-Node Node Tree (tree_of texts) (record { first = 0; line = 0; place = 0; kind = k })).kind

  -- The lists in a node, whatever the function is that reads their items, if it reads each of them so.
  parts-is : (F : TextPart Node → TextPart Tree) → ((f : Bytes) → F (text_part.Plain f) ≡ text_part.Plain f) → ((n : Node) → F (text_part.Code n) ≡ text_part.Code (tree_of texts n)) → (ps : List (TextPart Node)) → pieces_of (map F ps) ≡ read_parts texts ps
  parts-is F plain code [] = refl
  parts-is F plain code (text_part.Plain f ∷ ps) = ap (λ x. part_then x (pieces_of (map F ps))) (plain f) ∙ ap (plain_piece f) (parts-is F plain code ps)
  parts-is F plain code (text_part.Code n ∷ ps) = ap (λ x. part_then x (pieces_of (map F ps))) (code n) ∙ ap (code_piece (tree_of texts n)) (parts-is F plain code ps)

  pairs-is : (F : Node × Node → Tree × Tree) → ((p : Node × Node) → (F p).0 ≡ tree_of texts p.0) → ((p : Node × Node) → (F p).1 ≡ tree_of texts p.1) → (ps : List (Node × Node)) → pairs_of (map F ps) ≡ read_pairs texts ps
  pairs-is F key value [] = refl
  pairs-is F key value (p ∷ ps) = rw (key p, value p, pairs-is F key value ps) refl

  whens-is : (F : Vec Node Global × Node → Vec Tree Global × Tree) → ((p : Vec Node Global × Node) → (F p).0.items ≡ map (tree_of texts) p.0.items) → ((p : Vec Node Global × Node) → (F p).1 ≡ tree_of texts p.1) → (ps : List (Vec Node Global × Node)) → whens_of (map F ps) ≡ read_whens texts ps
  whens-is F values part [] = refl
  whens-is F values part (p ∷ ps) = rw (values p, part p, whens-is F values part ps) refl

  clauses-is : (F : Vec Node Global × Option Name × Node → Vec Tree Global × Option Name × Tree) → ((c : Vec Node Global × Option Name × Node) → (F c).0.items ≡ map (tree_of texts) c.0.items) → ((c : Vec Node Global × Option Name × Node) → (F c).1 ≡ c.1) → ((c : Vec Node Global × Option Name × Node) → (F c).2 ≡ tree_of texts c.2) → (cs : List (Vec Node Global × Option Name × Node)) → clauses_of texts (map F cs) ≡ read_clauses texts cs
  clauses-is F classes named part [] = refl
  clauses-is F classes named part (c ∷ cs) = rw (classes c, named c, part c, clauses-is F classes named part cs) refl

  params-is : (F : Param Node → Param Tree) → ((n : Name) → F (param.Required n) ≡ param.Required n) → ((n : Name) (a : Node) → F (param.Optional n a) ≡ param.Optional n (tree_of texts a)) → ((n : Name) → F (param.Rest n) ≡ param.Rest n) → ((n : Name) → F (param.Block n) ≡ param.Block n) → (ps : List (Param Node)) → params_of texts (map F ps) ≡ read_params texts ps
  params-is F one default left block [] = refl
  params-is F one default left block (param.Required n ∷ ps) = rw (one n, params-is F one default left block ps) refl
  params-is F one default left block (param.Optional n a ∷ ps) = rw (default n a, params-is F one default left block ps) refl
  params-is F one default left block (param.Rest n ∷ ps) = rw (left n, params-is F one default left block ps) refl
  params-is F one default left block (param.Block n ∷ ps) = rw (block n, params-is F one default left block ps) refl

  pub read_collection-is : (x : Collection Node) → form_of (kind.Collection x) ≡ read_kind texts (kind.Collection x)
  read_collection-is (collection.Text ps) = ap joined (parts-is _ (λ f. refl) (λ n. refl) ps.items)
  read_collection-is (collection.Array ts ks) = refl
  read_collection-is (collection.Hash ps) = ap hash (pairs-is _ (λ p. refl) (λ p. refl) ps.items)
  read_collection-is (collection.Range a b e) = refl
  read_collection-is (collection.ConstantPath None b ns) = refl
  read_collection-is (collection.ConstantPath (Some v) b ns) = refl

  pub read_assignment-is : (x : Assignment Node) → form_of (kind.Assignment x) ≡ read_kind texts (kind.Assignment x)
  read_assignment-is (assignment.Single v g) = refl
  read_assignment-is (assignment.Multiple vs gs) = refl
  read_assignment-is (assignment.Attribute a v n) = refl
  read_assignment-is (assignment.Index a i v) = refl
  read_assignment-is (assignment.AttributeOperator a n v o m l) = refl
  read_assignment-is (assignment.AttributeOr a n v m) = refl
  read_assignment-is (assignment.AttributeAnd a n v m) = refl
  read_assignment-is (assignment.IndexOperator a i v o l) = refl
  read_assignment-is (assignment.IndexOr a i v) = refl
  read_assignment-is (assignment.IndexAnd a i v) = refl

  pub read_call-is : (x : Call Node) → form_of (kind.Call x) ≡ read_kind texts (kind.Call x)
  read_call-is (call.Send None ts ks None n alone None) = refl
  read_call-is (call.Send None ts ks None n alone (Some b)) = refl
  read_call-is (call.Send None ts ks (Some v) n alone None) = refl
  read_call-is (call.Send None ts ks (Some v) n alone (Some b)) = refl
  read_call-is (call.Send (Some a) ts ks None n alone None) = refl
  read_call-is (call.Send (Some a) ts ks None n alone (Some b)) = refl
  read_call-is (call.Send (Some a) ts ks (Some v) n alone None) = refl
  read_call-is (call.Send (Some a) ts ks (Some v) n alone (Some b)) = refl
  read_call-is (call.SafeSend a ts ks None n None) = refl
  read_call-is (call.SafeSend a ts ks None n (Some b)) = refl
  read_call-is (call.SafeSend a ts ks (Some v) n None) = refl
  read_call-is (call.SafeSend a ts ks (Some v) n (Some b)) = refl
  read_call-is (call.Yield ts ks) = refl
  read_call-is (call.Super ts ks None None) = refl
  read_call-is (call.Super ts ks None (Some b)) = refl
  read_call-is (call.Super ts ks (Some v) None) = refl
  read_call-is (call.Super ts ks (Some v) (Some b)) = refl
  read_call-is (call.BareSuper None) = refl
  read_call-is (call.BareSuper (Some b)) = refl
  read_call-is call.BareRaise = refl

  pub read_control-is : (x : Control Node) → form_of (kind.Control x) ≡ read_kind texts (kind.Control x)
  read_control-is (control.Statements ts) = refl
  read_control-is (control.And a b) = refl
  read_control-is (control.Or a b) = refl
  read_control-is (control.Not a) = refl
  read_control-is (control.If c a None) = refl
  read_control-is (control.If c a (Some b)) = refl
  read_control-is (control.While a c u f) = refl
  read_control-is (control.Case a ws None) = ap (λ x. case_of (tree_of texts a.value) x without) (whens-is _ (λ p. refl) (λ p. refl) ws.items)
  read_control-is (control.Case a ws (Some e)) = ap (λ x. case_of (tree_of texts a.value) x (with (tree_of texts e.value))) (whens-is _ (λ p. refl) (λ p. refl) ws.items)
  read_control-is (control.CaseTests ws None) = ap (λ x. case_tests x without) (whens-is _ (λ p. refl) (λ p. refl) ws.items)
  read_control-is (control.CaseTests ws (Some e)) = ap (λ x. case_tests x (with (tree_of texts e.value))) (whens-is _ (λ p. refl) (λ p. refl) ws.items)

  pub read_exit-is : (x : Exit Node) → form_of (kind.Exit x) ≡ read_kind texts (kind.Exit x)
  read_exit-is (exit.Return ts) = refl
  read_exit-is (exit.Break ts) = refl
  read_exit-is (exit.Next ts) = refl
  read_exit-is exit.Retry = refl

  pub read_handler-is : (x : Handler Node) → form_of (kind.Handler x) ≡ read_kind texts (kind.Handler x)
  read_handler-is (handler.Rescue a None c) = refl
  read_handler-is (handler.Rescue a (Some e) c) = refl
  read_handler-is (handler.Ensure a c) = refl
  read_handler-is (handler.RescueSequence cs) = ap rescue_sequence (clauses-is _ (λ c. refl) (λ c. refl) (λ c. refl) cs.items)
  read_handler-is (handler.EnsureSequence a) = refl

  pub read_definition-is : (x : Definition Node) → form_of (kind.Definition x) ≡ read_kind texts (kind.Definition x)
  read_definition-is (definition.Method n a s) = refl
  read_definition-is (definition.Class None n a) = refl
  read_definition-is (definition.Class (Some c) n a) = refl
  read_definition-is (definition.Module n a) = refl
  read_definition-is (definition.Body ps a) = ap (λ x. body x (tree_of texts a.value)) (params-is _ (λ n. refl) (λ n b. refl) (λ n. refl) (λ n. refl) ps.items)

  read_kind-is : (k : Kind Node) → form_of k ≡ read_kind texts k
  read_kind-is (kind.Literal x) = refl
  read_kind-is (kind.Variable x) = refl
  read_kind-is (kind.Collection x) = read_collection-is x
  read_kind-is (kind.Assignment x) = read_assignment-is x
  read_kind-is (kind.Call x) = read_call-is x
  read_kind-is (kind.Control x) = read_control-is x
  read_kind-is (kind.Exit x) = read_exit-is x
  read_kind-is (kind.Handler x) = read_handler-is x
  read_kind-is (kind.Definition x) = read_definition-is x

  -- the tree of a node, by its kind
  pub tree_of-is : (n : Node) → tree_of texts n ≡ at (record { first = (out-Node n).first; line = (out-Node n).line; place = (out-Node n).place }) (read_kind texts (out-Node n).kind)
  tree_of-is n = fold_out-Node Tree (node_step texts) n ∙ ap (at (record { first = (out-Node n).first; line = (out-Node n).line; place = (out-Node n).place })) (read_kind-is (out-Node n).kind)

-- for `using(..)` on a function that looks into a node
pub ruleset opened = (tree_of-is)
