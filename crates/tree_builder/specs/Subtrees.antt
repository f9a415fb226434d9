-- Parts of a tree, as a reader holds them while the table of names still grows: a part says what it says in each table that goes on from the
-- one of now. A part that is deeper than 200 is not kept, and nothing is known of it but that.
use Rattle.std.specs.Prelude.{◌≡◌, ℕ, suc, ◌<◌, ◌≤◌, min, Bool, true, false, ◌&&◌, List, length, map, Option, Some, None, is_some, Vec}
use Rattle.std.specs.List.{list_all}
use Rattle.std.specs.declared.boxed.Box.{Box}
use Rattle.std.specs.declared.alloc.Global.{Global}
use Rattle.ruby_tree.specs.declared.names.Name.{Name}
use Rattle.ruby_tree.specs.declared.node.Node.{Node}
use Rattle.ruby_tree.specs.declared.node.Node.TheFolds.{map-Node}
use Rattle.ruby_tree.specs.declared.node.Kind.{Kind}
use Rattle.ruby_tree.specs.declared.node.Kind.TheVariants as kind
use Rattle.ruby_tree.specs.declared.node.Literal.TheVariants as literal
use Rattle.ruby_tree.specs.declared.node.Collection.TheVariants as collection
use Rattle.ruby_tree.specs.declared.node.Control.TheVariants as control
use Rattle.ruby_tree.specs.declared.node.Handler.TheVariants as handler
use Rattle.ruby_tree.specs.declared.node.Target.{Target}
use Rattle.ruby_tree.specs.declared.node.TextPart.{TextPart}
use Rattle.ruby_tree.specs.declared.node.TextPart.TheVariants as text_part
use Rattle.ruby_tree.specs.declared.node.Param.{Param}
use Rattle.ruby_tree.specs.declared.node.Param.TheVariants as param
use Rattle.tree_builder.specs.declared.Subtree.{Subtree}
use Rattle.tree_builder.specs.declared.lists.Subtrees.{Subtrees}
use Rattle.tree_builder.specs.declared.lists.ElseSubtree.{ElseSubtree}
use Rattle.tree_builder.specs.declared.lists.PairSubtrees.{PairSubtrees}
use Rattle.tree_builder.specs.declared.lists.PieceSubtrees.{PieceSubtrees}
use Rattle.tree_builder.specs.declared.lists.WhenSubtrees.{WhenSubtrees}
use Rattle.tree_builder.specs.declared.lists.RescueSubtrees.{RescueSubtrees}
use Rattle.tree_builder.specs.declared.lists.ParamSubtrees.{ParamSubtrees}
use Rattle.ruby_tree.specs.Names.{Bytes, Texts, Extends}
use Rattle.ruby_tree.specs.Tree.{Goal, Tree, Form, Trees, no_more, more, Other, Pairs, no_pair, pair, Pieces, no_piece, plain_piece, code_piece, Whens, no_when, when, Rescues, no_clause, clause, Params, no_param, required, optional, rest_param, block_param}
use Rattle.ruby_tree.specs.Depth.{depth, form_depth, trees_depth, other_depth, pairs_depth, pieces_depth, whens_depth, rescues_depth, params_depth}
use Rattle.ruby_tree.specs.Read.{text_of_name, text_of_option, goal_of, tree_of}
use Rattle.ruby_tree.specs.Views.{read_all, read_other, read_pairs, read_parts, read_whens, read_clauses, read_params, read_kind}
use Rattle.ruby_tree.specs.NamesFit.{all_fit, name_fits, option_fits, target_fits, kind_fits, names_fit}
use Rattle.ruby_tree.specs.Build.{is_there}

-- the depth that a part shows: all above 200 are one
abbrev pub shown : ℕ → ℕ
shown d = min d 201

-- what a kind is: a symbol; statements, with clauses or without; a path of constants
abbrev pub symbol_in : Kind Node → Option Name
symbol_in (kind.Literal (literal.Symbol n)) = Some n
symbol_in _ = None

abbrev pub is_body_kind : Kind Node → Bool
is_body_kind (kind.Control (control.Statements ts)) = true
is_body_kind (kind.Handler (handler.Rescue a e c)) = true
is_body_kind (kind.Handler (handler.Ensure a c)) = true
is_body_kind _ = false

abbrev pub is_path : Kind Node → Bool
is_path (kind.Collection (collection.ConstantPath v b ns)) = true
is_path _ = false

abbrev pub trees_count : Trees → ℕ
trees_count no_more = 0
trees_count (more t ts) = suc (trees_count ts)

-- the first ones, and then the others
abbrev pub pairs_then : Pairs → Pairs → Pairs
pairs_then no_pair qs = qs
pairs_then (pair k v ps) qs = pair k v (pairs_then ps qs)

abbrev pub pieces_then : Pieces → Pieces → Pieces
pieces_then no_piece qs = qs
pieces_then (plain_piece f ps) qs = plain_piece f (pieces_then ps qs)
pieces_then (code_piece t ps) qs = code_piece t (pieces_then ps qs)

abbrev pub whens_then : Whens → Whens → Whens
whens_then no_when vs = vs
whens_then (when ts t ws) vs = when ts t (whens_then ws vs)

abbrev pub rescues_then : Rescues → Rescues → Rescues
rescues_then no_clause ds = ds
rescues_then (clause ts x t cs) ds = clause ts x t (rescues_then cs ds)

abbrev pub params_then : Params → Params → Params
params_then no_param qs = qs
params_then (required n ps) qs = required n (params_then ps qs)
params_then (optional n t ps) qs = optional n t (params_then ps qs)
params_then (rest_param n ps) qs = rest_param n (params_then ps qs)
params_then (block_param n ps) qs = block_param n (params_then ps qs)

-- The names in the parts of a node are of a table with so many.
module _ (count : ℕ) where
  abbrev pub nodes_fit : List Node → Bool
  nodes_fit ns = all_fit (map (names_fit count) ns)

  abbrev pub other_node_fits : Option (Box Node Global) → Bool
  other_node_fits None = true
  other_node_fits (Some b) = names_fit count b.value

  abbrev pub pair_nodes_fit : Node × Node → Bool
  pair_nodes_fit p = names_fit count p.0 && names_fit count p.1

  abbrev pub part_node_fits : TextPart Node → Bool
  part_node_fits (text_part.Plain f) = true
  part_node_fits (text_part.Code n) = names_fit count n

  abbrev pub when_nodes_fit : Vec Node Global × Node → Bool
  when_nodes_fit p = nodes_fit p.0.items && names_fit count p.1

  abbrev pub clause_nodes_fit : Vec Node Global × Option Name × Node → Bool
  clause_nodes_fit c = nodes_fit c.0.items && option_fits count c.1 && names_fit count c.2

  abbrev pub param_node_fits : Param Node → Bool
  param_node_fits (param.Required n) = name_fits count n
  param_node_fits (param.Optional n a) = name_fits count n && names_fit count a
  param_node_fits (param.Rest n) = name_fits count n
  param_node_fits (param.Block n) = name_fits count n

  abbrev pub kind_names_fit : Kind Node → Bool
  kind_names_fit k = kind_fits count (map-Node Node Bool (names_fit count) (record { first = 0; line = 0; place = 0; kind = k })).kind

-- What parts of a node are in one table: their names are of it, and they are read as these parts of a tree.
module _ (U : Texts) where
  pub record IsNode (n : Node) (t : Tree) : Type 0 where
    pub fits : names_fit (length U) n ≡ true
    pub tree : tree_of U n ≡ t

  pub record AreNodes (ns : List Node) (ts : Trees) : Type 0 where
    pub fits : nodes_fit (length U) ns ≡ true
    pub trees : read_all U ns ≡ ts

  pub record IsOther (b : Option (Box Node Global)) (o : Other) : Type 0 where
    pub fits : other_node_fits (length U) b ≡ true
    pub other : read_other U b ≡ o

  pub record ArePairs (ns : List (Node × Node)) (ps : Pairs) : Type 0 where
    pub fits : list_all (pair_nodes_fit (length U)) ns ≡ true
    pub pairs : read_pairs U ns ≡ ps

  pub record ArePieces (ns : List (TextPart Node)) (ps : Pieces) : Type 0 where
    pub fits : list_all (part_node_fits (length U)) ns ≡ true
    pub pieces : read_parts U ns ≡ ps

  pub record AreWhens (ns : List (Vec Node Global × Node)) (ws : Whens) : Type 0 where
    pub fits : list_all (when_nodes_fit (length U)) ns ≡ true
    pub whens : read_whens U ns ≡ ws

  pub record AreClauses (ns : List (Vec Node Global × Option Name × Node)) (cs : Rescues) : Type 0 where
    pub fits : list_all (clause_nodes_fit (length U)) ns ≡ true
    pub clauses : read_clauses U ns ≡ cs

  pub record AreParams (ns : List (Param Node)) (ps : Params) : Type 0 where
    pub fits : list_all (param_node_fits (length U)) ns ≡ true
    pub params : read_params U ns ≡ ps

  pub record IsKind (k : Kind Node) (f : Form) : Type 0 where
    pub fits : kind_names_fit (length U) k ≡ true
    pub form : read_kind U k ≡ f

-- What parts are in each table that goes on from T.
module _ (T : Texts) where
  pub record IsNamed (n : Name) (f : Bytes) : Type 0 where
    pub within : (U : Texts) → Extends T U → n.number < length U
    pub text : (U : Texts) → Extends T U → text_of_name U n ≡ f

  pub record AreNamed (ns : List Name) (fs : List Bytes) : Type 0 where
    pub within : (U : Texts) → Extends T U → list_all (name_fits (length U)) ns ≡ true
    pub texts : (U : Texts) → Extends T U → map (text_of_name U) ns ≡ fs

  -- a name that may be missing
  pub record IsOtherName (n : Option Name) (x : Option Bytes) : Type 0 where
    pub within : (U : Texts) → Extends T U → option_fits (length U) n ≡ true
    pub text : (U : Texts) → Extends T U → text_of_option U n ≡ x

  pub record IsTarget (t : Target) (g : Goal) : Type 0 where
    pub within : (U : Texts) → Extends T U → target_fits (length U) t ≡ true
    pub goal : (U : Texts) → Extends T U → goal_of U t ≡ g

  pub record AreTargets (ts : List Target) (gs : List Goal) : Type 0 where
    pub within : (U : Texts) → Extends T U → list_all (target_fits (length U)) ts ≡ true
    pub goals : (U : Texts) → Extends T U → map (goal_of U) ts ≡ gs

  -- a node that is a part, with the depth that it shows
  pub record IsPart (n : Node) (d : ℕ) (t : Tree) : Type 0 where
    pub shows : d ≡ shown (depth t)
    pub reads : depth t ≤ 200 → (U : Texts) → Extends T U → IsNode U n t

  pub record Holds (s : Subtree) (t : Tree) : Type 0 where
    pub shows : s.depth ≡ shown (depth t)
    pub reads : depth t ≤ 200 → (U : Texts) → Extends T U → IsNode U s.node t

  pub record HoldsAll (s : Subtrees) (ts : Trees) : Type 0 where
    pub counts : length s.nodes.items ≡ trees_count ts
    pub shows : s.depth ≡ shown (trees_depth ts)
    pub reads : trees_depth ts ≤ 200 → (U : Texts) → Extends T U → AreNodes U s.nodes.items ts

  pub record HoldsOther (s : ElseSubtree) (o : Other) : Type 0 where
    pub present : is_some s.node ≡ is_there o
    pub shows : s.depth ≡ shown (other_depth o)
    pub reads : other_depth o ≤ 200 → (U : Texts) → Extends T U → IsOther U s.node o

  pub record HoldsPairs (s : PairSubtrees) (ps : Pairs) : Type 0 where
    pub shows : s.depth ≡ shown (pairs_depth ps)
    pub reads : pairs_depth ps ≤ 200 → (U : Texts) → Extends T U → ArePairs U s.pairs.items ps

  pub record HoldsPieces (s : PieceSubtrees) (ps : Pieces) : Type 0 where
    pub shows : s.depth ≡ shown (pieces_depth ps)
    pub reads : pieces_depth ps ≤ 200 → (U : Texts) → Extends T U → ArePieces U s.pieces.items ps

  pub record HoldsWhens (s : WhenSubtrees) (ws : Whens) : Type 0 where
    pub shows : s.depth ≡ shown (whens_depth ws)
    pub reads : whens_depth ws ≤ 200 → (U : Texts) → Extends T U → AreWhens U s.whens.items ws

  pub record HoldsRescues (s : RescueSubtrees) (cs : Rescues) : Type 0 where
    pub shows : s.depth ≡ shown (rescues_depth cs)
    pub reads : rescues_depth cs ≤ 200 → (U : Texts) → Extends T U → AreClauses U s.clauses.items cs

  pub record HoldsParams (s : ParamSubtrees) (ps : Params) : Type 0 where
    pub shows : s.depth ≡ shown (params_depth ps)
    pub reads : params_depth ps ≤ 200 → (U : Texts) → Extends T U → AreParams U s.params.items ps

  -- a kind, with the depth that its parts show
  pub record HoldsKind (k : Kind Node) (d : ℕ) (f : Form) : Type 0 where
    pub shows : d ≡ shown (form_depth f)
    pub reads : form_depth f ≤ 199 → (U : Texts) → Extends T U → IsKind U k f
