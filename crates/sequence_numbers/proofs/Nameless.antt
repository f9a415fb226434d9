-- The places in a tree are the same whatever the names in it are.
use Rattle.std.proofs.Common.{◌≡◌, ℕ, List, [], ◌∷◌, ◌++◌, map, refl, ap, sym, subst, ◌∙◌, Option, Some, None, Vec}
use Rattle.std.specs.declared.alloc.Global.{Global}
use Rattle.bs_outside.specs.declared.text.Bytes.{Bytes}
use Rattle.ruby_tree.specs.declared.names.Name.{Name}
use Rattle.ruby_tree.specs.declared.node.Kind.{Kind}
use Rattle.ruby_tree.specs.declared.node.Kind.TheVariants as kind
use Rattle.ruby_tree.specs.declared.node.Literal.{Literal}
use Rattle.ruby_tree.specs.declared.node.Literal.TheVariants as literal
use Rattle.ruby_tree.specs.declared.node.Variable.{Variable}
use Rattle.ruby_tree.specs.declared.node.Variable.TheVariants as variable
use Rattle.ruby_tree.specs.declared.node.Collection.{Collection}
use Rattle.ruby_tree.specs.declared.node.Collection.TheVariants as collection
use Rattle.ruby_tree.specs.declared.node.TextPart.{TextPart}
use Rattle.ruby_tree.specs.declared.node.TextPart.TheVariants as text_part
use Rattle.ruby_tree.specs.declared.node.Assignment.{Assignment}
use Rattle.ruby_tree.specs.declared.node.Assignment.TheVariants as assignment
use Rattle.ruby_tree.specs.declared.node.Call.{Call}
use Rattle.ruby_tree.specs.declared.node.Call.TheVariants as call
use Rattle.ruby_tree.specs.declared.node.Control.{Control}
use Rattle.ruby_tree.specs.declared.node.Control.TheVariants as control
use Rattle.ruby_tree.specs.declared.node.Exit.{Exit}
use Rattle.ruby_tree.specs.declared.node.Exit.TheVariants as exit
use Rattle.ruby_tree.specs.declared.node.Handler.{Handler}
use Rattle.ruby_tree.specs.declared.node.Handler.TheVariants as handler
use Rattle.ruby_tree.specs.declared.node.Definition.{Definition}
use Rattle.ruby_tree.specs.declared.node.Definition.TheVariants as definition
use Rattle.ruby_tree.specs.declared.node.Param.{Param}
use Rattle.ruby_tree.specs.declared.node.Param.TheVariants as param
use Rattle.ruby_tree.specs.declared.node.Node.{Node}
use Rattle.ruby_tree.specs.declared.node.Node.TheOpen.{Node-F}
use Rattle.ruby_tree.specs.declared.node.Node.TheViews.{roll-Node, out-roll-Node}
use Rattle.ruby_tree.specs.declared.node.Node.TheFolds.{ind-Node, map-Node}
use Rattle.ruby_tree.specs.Names.{Texts}
use Rattle.ruby_tree.specs.Read.{tree_of}
use Rattle.ruby_tree.specs.Views.{read_kind, read_all, read_parts, read_pairs, read_whens, read_clauses, read_params}
use Rattle.ruby_tree.proofs.Opened.{tree_of-is}
use Rattle.ruby_meaning.specs.Sequences.{places, form_places, trees_places, pairs_places, pieces_places, whens_places, clauses_places, params_places}

-- what is behind one another
both-same : (a b c d : List ℕ) → a ≡ b → c ≡ d → a ++ c ≡ b ++ d
both-same a b c d first second = ap (λ x. x ++ c) first ∙ ap (λ x. b ++ x) second

module _ (texts : Texts) where
  abbrev Same : Node → Type 0
  Same n = places (tree_of texts n) ≡ places (tree_of [] n)

  abbrev SameAll : List Node → Type 0
  SameAll ns = trees_places (read_all texts ns) ≡ trees_places (read_all [] ns)

  -- a node whose parts are S, of which each gives a node with the same places
  module _ {S : Type 0} (node : S → Node) (same : (s : S) → Same (node s)) where
    all-same : (F : S → Node) → ((s : S) → Same (F s)) → (ss : List S) → SameAll (map F ss)
    all-same F each [] = refl
    all-same F each (s ∷ ss) = both-same _ _ _ _ (each s) (all-same F each ss)

    listed-same : (ns : List Node) (ss : List S) → ns ≡ map node ss → SameAll ns
    listed-same ns ss is = subst SameAll (sym is) (all-same node same ss)

    pairs-same : (F : S × S → Node × Node) → ((p : S × S) → Same (F p).0) → ((p : S × S) → Same (F p).1) → (ps : List (S × S)) → pairs_places (read_pairs texts (map F ps)) ≡ pairs_places (read_pairs [] (map F ps))
    pairs-same F key value [] = refl
    pairs-same F key value (p ∷ ps) = both-same _ _ _ _ (key p) (both-same _ _ _ _ (value p) (pairs-same F key value ps))

    parts-same : (F : TextPart S → TextPart Node) → ((f : Bytes) → F (text_part.Plain f) ≡ text_part.Plain f) → ((s : S) → F (text_part.Code s) ≡ text_part.Code (node s)) → (ps : List (TextPart S)) → pieces_places (read_parts texts (map F ps)) ≡ pieces_places (read_parts [] (map F ps))
    parts-same F plain code [] = refl
    parts-same F plain code (text_part.Plain f ∷ ps) = rw (plain f) (parts-same F plain code ps)
    parts-same F plain code (text_part.Code s ∷ ps) = rw (code s) (both-same _ _ _ _ (same s) (parts-same F plain code ps))

    whens-same : (F : Vec S Global × S → Vec Node Global × Node) → ((p : Vec S Global × S) → (F p).0.items ≡ map node p.0.items) → ((p : Vec S Global × S) → Same (F p).1) → (ps : List (Vec S Global × S)) → whens_places (read_whens texts (map F ps)) ≡ whens_places (read_whens [] (map F ps))
    whens-same F values part [] = refl
    whens-same F values part (p ∷ ps) = both-same _ _ _ _ (listed-same _ _ (values p)) (both-same _ _ _ _ (part p) (whens-same F values part ps))

    clauses-same : (F : Vec S Global × Option Name × S → Vec Node Global × Option Name × Node) → ((c : Vec S Global × Option Name × S) → (F c).0.items ≡ map node c.0.items) → ((c : Vec S Global × Option Name × S) → Same (F c).2) → (cs : List (Vec S Global × Option Name × S)) → clauses_places (read_clauses texts (map F cs)) ≡ clauses_places (read_clauses [] (map F cs))
    clauses-same F classes part [] = refl
    clauses-same F classes part (c ∷ cs) = both-same _ _ _ _ (listed-same _ _ (classes c)) (both-same _ _ _ _ (part c) (clauses-same F classes part cs))

    params-same : (F : Param S → Param Node) → ((n : Name) → F (param.Required n) ≡ param.Required n) → ((n : Name) (s : S) → F (param.Optional n s) ≡ param.Optional n (node s)) → ((n : Name) → F (param.Rest n) ≡ param.Rest n) → ((n : Name) → F (param.Block n) ≡ param.Block n) → (ps : List (Param S)) → params_places (read_params texts (map F ps)) ≡ params_places (read_params [] (map F ps))
    params-same F one default left block [] = refl
    params-same F one default left block (param.Required n ∷ ps) = rw (one n) (params-same F one default left block ps)
    params-same F one default left block (param.Optional n s ∷ ps) = rw (default n s) (both-same _ _ _ _ (same s) (params-same F one default left block ps))
    params-same F one default left block (param.Rest n ∷ ps) = rw (left n) (params-same F one default left block ps)
    params-same F one default left block (param.Block n ∷ ps) = rw (block n) (params-same F one default left block ps)

    abbrev read : Kind S → Kind Node
    read k = (map-Node S Node node (record { first = 0; line = 0; place = 0; kind = k })).kind

    abbrev SameKind : ℕ → Kind S → Type 0
    SameKind p k = form_places p (read_kind texts (read k)) ≡ form_places p (read_kind [] (read k))

    literal-same : (p : ℕ) (x : Literal) → SameKind p (kind.Literal x)
    literal-same p literal.Nil = refl
    literal-same p literal.True = refl
    literal-same p literal.False = refl
    literal-same p (literal.Integer z) = refl
    literal-same p (literal.Symbol n) = refl
    literal-same p (literal.String f) = refl
    literal-same p literal.SelfValue = refl
    literal-same p literal.File = refl
    literal-same p literal.Folder = refl
    literal-same p literal.Line = refl

    variable-same : (p : ℕ) (x : Variable) → SameKind p (kind.Variable x)
    variable-same p (variable.Local n) = refl
    variable-same p (variable.Instance n) = refl
    variable-same p (variable.Global n) = refl

    collection-same : (p : ℕ) (x : Collection S) → SameKind p (kind.Collection x)
    collection-same p (collection.Text ps) = parts-same _ (λ f. refl) (λ s. refl) ps.items
    collection-same p (collection.Array ts ks) = all-same _ same ts.items
    collection-same p (collection.Hash ps) = pairs-same _ (λ q. same q.0) (λ q. same q.1) ps.items
    collection-same p (collection.Range a b e) = both-same _ _ _ _ (same a.value) (same b.value)
    collection-same p (collection.ConstantPath None b ns) = refl
    collection-same p (collection.ConstantPath (Some v) b ns) = same v.value

    assignment-same : (p : ℕ) (x : Assignment S) → SameKind p (kind.Assignment x)
    assignment-same p (assignment.Single v g) = same v.value
    assignment-same p (assignment.Multiple vs gs) = all-same _ same vs.items
    assignment-same p (assignment.Attribute a v n) = both-same _ _ _ _ (same a.value) (same v.value)
    assignment-same p (assignment.Index a i v) = both-same _ _ _ _ (same a.value) (both-same _ _ _ _ (same i.value) (same v.value))
    assignment-same p (assignment.AttributeOperator a n v o m l) = both-same _ _ _ _ (same a.value) (same v.value)
    assignment-same p (assignment.AttributeOr a n v m) = both-same _ _ _ _ (same a.value) (same v.value)
    assignment-same p (assignment.AttributeAnd a n v m) = both-same _ _ _ _ (same a.value) (same v.value)
    assignment-same p (assignment.IndexOperator a i v o l) = both-same _ _ _ _ (same a.value) (both-same _ _ _ _ (same i.value) (same v.value))
    assignment-same p (assignment.IndexOr a i v) = both-same _ _ _ _ (same a.value) (both-same _ _ _ _ (same i.value) (same v.value))
    assignment-same p (assignment.IndexAnd a i v) = both-same _ _ _ _ (same a.value) (both-same _ _ _ _ (same i.value) (same v.value))

    call-same : (p : ℕ) (x : Call S) → SameKind p (kind.Call x)
    call-same p (call.Send None ts ks None n alone None) = both-same _ _ _ _ (all-same _ same ts.items) refl
    call-same p (call.Send None ts ks None n alone (Some b)) = both-same _ _ _ _ (all-same _ same ts.items) (same b.value)
    call-same p (call.Send None ts ks (Some v) n alone None) = both-same _ _ _ _ (all-same _ same ts.items) (both-same _ _ _ _ (same v.value) refl)
    call-same p (call.Send None ts ks (Some v) n alone (Some b)) = both-same _ _ _ _ (all-same _ same ts.items) (both-same _ _ _ _ (same v.value) (same b.value))
    call-same p (call.Send (Some a) ts ks None n alone None) = both-same _ _ _ _ (same a.value) (both-same _ _ _ _ (all-same _ same ts.items) refl)
    call-same p (call.Send (Some a) ts ks None n alone (Some b)) = both-same _ _ _ _ (same a.value) (both-same _ _ _ _ (all-same _ same ts.items) (same b.value))
    call-same p (call.Send (Some a) ts ks (Some v) n alone None) = both-same _ _ _ _ (same a.value) (both-same _ _ _ _ (all-same _ same ts.items) (both-same _ _ _ _ (same v.value) refl))
    call-same p (call.Send (Some a) ts ks (Some v) n alone (Some b)) = both-same _ _ _ _ (same a.value) (both-same _ _ _ _ (all-same _ same ts.items) (both-same _ _ _ _ (same v.value) (same b.value)))
    call-same p (call.SafeSend a ts ks None n None) = both-same _ _ _ _ (same a.value) (both-same _ _ _ _ (all-same _ same ts.items) refl)
    call-same p (call.SafeSend a ts ks None n (Some b)) = both-same _ _ _ _ (same a.value) (both-same _ _ _ _ (all-same _ same ts.items) (same b.value))
    call-same p (call.SafeSend a ts ks (Some v) n None) = both-same _ _ _ _ (same a.value) (both-same _ _ _ _ (all-same _ same ts.items) (both-same _ _ _ _ (same v.value) refl))
    call-same p (call.SafeSend a ts ks (Some v) n (Some b)) = both-same _ _ _ _ (same a.value) (both-same _ _ _ _ (all-same _ same ts.items) (both-same _ _ _ _ (same v.value) (same b.value)))
    call-same p (call.Yield ts ks) = all-same _ same ts.items
    call-same p (call.Super ts ks None None) = both-same _ _ _ _ (all-same _ same ts.items) refl
    call-same p (call.Super ts ks None (Some b)) = both-same _ _ _ _ (all-same _ same ts.items) (same b.value)
    call-same p (call.Super ts ks (Some v) None) = both-same _ _ _ _ (all-same _ same ts.items) (both-same _ _ _ _ (same v.value) refl)
    call-same p (call.Super ts ks (Some v) (Some b)) = both-same _ _ _ _ (all-same _ same ts.items) (both-same _ _ _ _ (same v.value) (same b.value))
    call-same p (call.BareSuper None) = refl
    call-same p (call.BareSuper (Some b)) = same b.value
    call-same p call.BareRaise = refl

    control-same : (p : ℕ) (x : Control S) → SameKind p (kind.Control x)
    control-same p (control.Statements ts) = all-same _ same ts.items
    control-same p (control.And a b) = both-same _ _ _ _ (same a.value) (same b.value)
    control-same p (control.Or a b) = both-same _ _ _ _ (same a.value) (same b.value)
    control-same p (control.Not a) = same a.value
    control-same p (control.If c a None) = both-same _ _ _ _ (same c.value) (both-same _ _ _ _ (same a.value) refl)
    control-same p (control.If c a (Some b)) = both-same _ _ _ _ (same c.value) (both-same _ _ _ _ (same a.value) (same b.value))
    control-same p (control.While a c u f) = both-same _ _ _ _ (same a.value) (same c.value)
    control-same p (control.Case a ws None) = both-same _ _ _ _ (same a.value) (both-same _ _ _ _ (whens-same _ (λ q. refl) (λ q. same q.1) ws.items) refl)
    control-same p (control.Case a ws (Some e)) = both-same _ _ _ _ (same a.value) (both-same _ _ _ _ (whens-same _ (λ q. refl) (λ q. same q.1) ws.items) (same e.value))
    control-same p (control.CaseTests ws None) = both-same _ _ _ _ (whens-same _ (λ q. refl) (λ q. same q.1) ws.items) refl
    control-same p (control.CaseTests ws (Some e)) = both-same _ _ _ _ (whens-same _ (λ q. refl) (λ q. same q.1) ws.items) (same e.value)

    exit-same : (p : ℕ) (x : Exit S) → SameKind p (kind.Exit x)
    exit-same p (exit.Return ts) = all-same _ same ts.items
    exit-same p (exit.Break ts) = all-same _ same ts.items
    exit-same p (exit.Next ts) = all-same _ same ts.items
    exit-same p exit.Retry = refl

    handler-same : (p : ℕ) (x : Handler S) → SameKind p (kind.Handler x)
    handler-same p (handler.Rescue a None c) = both-same _ _ _ _ (same a.value) (same c.value)
    handler-same p (handler.Rescue a (Some e) c) = both-same _ _ _ _ (same a.value) (both-same _ _ _ _ (same e.value) (same c.value))
    handler-same p (handler.Ensure a c) = both-same _ _ _ _ (same a.value) (same c.value)
    handler-same p (handler.RescueSequence cs) = ap (λ x. p ∷ x) (clauses-same _ (λ c. refl) (λ c. same c.2) cs.items)
    handler-same p (handler.EnsureSequence a) = ap (λ x. p ∷ x) (same a.value)

    definition-same : (p : ℕ) (x : Definition S) → SameKind p (kind.Definition x)
    definition-same p (definition.Method n a s) = same a.value
    definition-same p (definition.Class None n a) = same a.value
    definition-same p (definition.Class (Some c) n a) = both-same _ _ _ _ (same c.value) (same a.value)
    definition-same p (definition.Module n a) = same a.value
    definition-same p (definition.Body ps a) = ap (λ x. p ∷ x) (both-same _ _ _ _ (params-same _ (λ n. refl) (λ n s. refl) (λ n. refl) (λ n. refl) ps.items) (same a.value))

    kind-same : (p : ℕ) (k : Kind S) → SameKind p k
    kind-same p (kind.Literal x) = literal-same p x
    kind-same p (kind.Variable x) = variable-same p x
    kind-same p (kind.Collection x) = collection-same p x
    kind-same p (kind.Assignment x) = assignment-same p x
    kind-same p (kind.Call x) = call-same p x
    kind-same p (kind.Control x) = control-same p x
    kind-same p (kind.Exit x) = exit-same p x
    kind-same p (kind.Handler x) = handler-same p x
    kind-same p (kind.Definition x) = definition-same p x

  rolled-places : (ts : Texts) (x : Node-F Node) → places (tree_of ts (roll-Node x)) ≡ form_places x.place (read_kind ts x.kind)
  rolled-places ts x = ap places (tree_of-is ts (roll-Node x)) ∙ ap (λ o. form_places o.place (read_kind ts o.kind)) (out-roll-Node x)

  pub names-same : (n : Node) → Same n
  names-same n = ind-Node Same (λ x y is. subst (λ z. Same (roll-Node z)) is (rolled-places texts (map-Node _ Node (λ e. e.0) y) ∙ (kind-same (λ e. e.0) (λ e. e.1) y.place y.kind ∙ sym (rolled-places [] (map-Node _ Node (λ e. e.0) y))))) n
