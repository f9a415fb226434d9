-- Whether the names in a node fit, opened by one layer: the parts of its kind one by one.
use Rattle.std.proofs.Common.{◌≡◌, ℕ, Bool, List, [], ◌∷◌, refl, sym, ◌∙◌, ap, subst, Option, Vec, map, length}
use Rattle.std.specs.List.{list_all}
use Rattle.std.specs.declared.alloc.Global.{Global}
use Rattle.ruby_tree.specs.declared.names.Name.{Name}
use Rattle.ruby_tree.specs.declared.node.Kind.{Kind}
use Rattle.ruby_tree.specs.declared.node.TextPart.{TextPart}
use Rattle.ruby_tree.specs.declared.node.TextPart.TheVariants as text_part
use Rattle.ruby_tree.specs.declared.node.Param.{Param}
use Rattle.ruby_tree.specs.declared.node.Param.TheVariants as param
use Rattle.ruby_tree.specs.declared.node.Node.{Node}
use Rattle.ruby_tree.specs.declared.node.Node.TheFolds.{fold_out-Node}
use Rattle.ruby_tree.specs.declared.node.Node.TheOpen.{Node-F}
use Rattle.ruby_tree.specs.declared.node.Node.TheViews.{out-Node, roll-Node, out-roll-Node}
use Rattle.ruby_tree.specs.Names.{Bytes, Texts}
use Rattle.ruby_tree.specs.Tree.{Form, at}
use Rattle.ruby_tree.specs.NamesFit.{pair_fits, part_fits, when_fits, clause_fits, param_fits, node_fits, names_fit}
use Rattle.tree_builder.specs.Subtrees.{pair_nodes_fit, part_node_fits, when_nodes_fit, clause_nodes_fit, param_node_fits, kind_names_fit, IsKind, IsNode}
use Rattle.ruby_tree.proofs.Opened.{tree_of-is}

module _ (count : ℕ) where
  pub names_fit-is : (n : Node) → names_fit count n ≡ kind_names_fit count (out-Node n).kind
  names_fit-is n = fold_out-Node Bool (node_fits count) n

  -- The lists in a node, whatever the function is that looks at their items, if it looks at each of them so.
  pub pairs_fit-is : (F : Node × Node → Bool × Bool) → ((p : Node × Node) → (F p).0 ≡ names_fit count p.0) → ((p : Node × Node) → (F p).1 ≡ names_fit count p.1) → (ns : List (Node × Node)) → list_all pair_fits (map F ns) ≡ list_all (pair_nodes_fit count) ns
  pairs_fit-is F key value [] = refl
  pairs_fit-is F key value (p ∷ ps) = rw (key p, value p, pairs_fit-is F key value ps) refl

  pub parts_fit-is : (F : TextPart Node → TextPart Bool) → ((f : Bytes) → F (text_part.Plain f) ≡ text_part.Plain f) → ((n : Node) → F (text_part.Code n) ≡ text_part.Code (names_fit count n)) → (ns : List (TextPart Node)) → list_all part_fits (map F ns) ≡ list_all (part_node_fits count) ns
  parts_fit-is F plain code [] = refl
  parts_fit-is F plain code (text_part.Plain f ∷ ps) = rw (plain f, parts_fit-is F plain code ps) refl
  parts_fit-is F plain code (text_part.Code n ∷ ps) = rw (code n, parts_fit-is F plain code ps) refl

  pub whens_fit-is : (F : Vec Node Global × Node → Vec Bool Global × Bool) → ((p : Vec Node Global × Node) → (F p).0.items ≡ map (names_fit count) p.0.items) → ((p : Vec Node Global × Node) → (F p).1 ≡ names_fit count p.1) → (ns : List (Vec Node Global × Node)) → list_all when_fits (map F ns) ≡ list_all (when_nodes_fit count) ns
  whens_fit-is F values part [] = refl
  whens_fit-is F values part (p ∷ ps) = rw (values p, part p, whens_fit-is F values part ps) refl

  pub clauses_fit-is : (F : Vec Node Global × Option Name × Node → Vec Bool Global × Option Name × Bool) → ((c : Vec Node Global × Option Name × Node) → (F c).0.items ≡ map (names_fit count) c.0.items) → ((c : Vec Node Global × Option Name × Node) → (F c).1 ≡ c.1) → ((c : Vec Node Global × Option Name × Node) → (F c).2 ≡ names_fit count c.2) → (ns : List (Vec Node Global × Option Name × Node)) → list_all (clause_fits count) (map F ns) ≡ list_all (clause_nodes_fit count) ns
  clauses_fit-is F classes named part [] = refl
  clauses_fit-is F classes named part (c ∷ cs) = rw (classes c, named c, part c, clauses_fit-is F classes named part cs) refl

  pub params_fit-is : (F : Param Node → Param Bool) → ((n : Name) → F (param.Required n) ≡ param.Required n) → ((n : Name) (a : Node) → F (param.Optional n a) ≡ param.Optional n (names_fit count a)) → ((n : Name) → F (param.Rest n) ≡ param.Rest n) → ((n : Name) → F (param.Block n) ≡ param.Block n) → (ns : List (Param Node)) → list_all (param_fits count) (map F ns) ≡ list_all (param_node_fits count) ns
  params_fit-is F one default left block [] = refl
  params_fit-is F one default left block (param.Required n ∷ ps) = rw (one n, params_fit-is F one default left block ps) refl
  params_fit-is F one default left block (param.Optional n a ∷ ps) = rw (default n a, params_fit-is F one default left block ps) refl
  params_fit-is F one default left block (param.Rest n ∷ ps) = rw (left n, params_fit-is F one default left block ps) refl
  params_fit-is F one default left block (param.Block n ∷ ps) = rw (block n, params_fit-is F one default left block ps) refl

-- a node of a kind that is as a form says
pub node_is : (U : Texts) (n : Node) (f : Form) → IsKind U (out-Node n).kind f → IsNode U n (at (record { first = (out-Node n).first; line = (out-Node n).line; place = (out-Node n).place }) f)
node_is U n f is = record {
  fits = names_fit-is (length U) n ∙ is.fits;
  tree = tree_of-is U n ∙ ap (at (record { first = (out-Node n).first; line = (out-Node n).line; place = (out-Node n).place })) is.form;
}

-- the same of a node that is made
pub made_node_is : (U : Texts) (first line place : ℕ) (k : Kind Node) (f : Form) → IsKind U k f → IsNode U (roll-Node (record { first = first; line = line; place = place; kind = k })) (at (record { first = first; line = line; place = place }) f)
made_node_is U first line place k f is =
    let r : Node-F Node = record { first = first; line = line; place = place; kind = k } in
    let e : out-Node (roll-Node r) ≡ r = out-roll-Node r in
    let kind_is : IsKind U (out-Node (roll-Node r)).kind f = subst (λ (x : Node-F Node). IsKind U x.kind f) (sym e) is in
    subst (λ (x : Node-F Node). IsNode U (roll-Node r) (at (record { first = x.first; line = x.line; place = x.place }) f)) e (node_is U (roll-Node r) f kind_is)
