-- Lists of parts with one more part.
use Rattle.std.proofs.Common.{◌≡◌, ℕ, ◌+◌, max, Bool, true, List, [], ◌∷◌, ◌++◌, length, map, Option, Vec, refl, sym, ap, ◌∙◌, arith}
use Rattle.std.specs.Cmp.Derive.{both_true}
use Rattle.std.specs.List.{list_all}
use Rattle.std.proofs.lemmas.Bool.{lt-ltb}
use Rattle.std.proofs.lemmas.List.{map-append, length-append}
use Rattle.std.proofs.lemmas.List.Folds.{list_all-append}
use Rattle.std.specs.declared.alloc.Global.{Global}
use Rattle.ruby_tree.specs.declared.names.Name.{Name}
use Rattle.ruby_tree.specs.declared.node.Node.{Node}
use Rattle.ruby_tree.specs.declared.node.TextPart.{TextPart}
use Rattle.ruby_tree.specs.declared.node.TextPart.TheVariants as text_part
use Rattle.ruby_tree.specs.declared.node.Param.{Param}
use Rattle.ruby_tree.specs.declared.node.Param.TheVariants as param
use Rattle.tree_builder.specs.declared.Subtree.{Subtree}
use Rattle.tree_builder.specs.declared.lists.Subtrees.{Subtrees}
use Rattle.tree_builder.specs.declared.lists.PairSubtrees.{PairSubtrees}
use Rattle.tree_builder.specs.declared.lists.PieceSubtrees.{PieceSubtrees}
use Rattle.tree_builder.specs.declared.lists.WhenSubtrees.{WhenSubtrees}
use Rattle.tree_builder.specs.declared.lists.RescueSubtrees.{RescueSubtrees}
use Rattle.tree_builder.specs.declared.lists.ParamSubtrees.{ParamSubtrees}
use Rattle.ruby_tree.specs.Names.{Bytes, Texts}
use Rattle.ruby_tree.specs.Tree.{Tree, Trees, no_more, more, trees_then, Pairs, no_pair, pair, Pieces, no_piece, plain_piece, code_piece, Whens, no_when, when, Rescues, no_clause, clause, Params, no_param, required, optional, rest_param, block_param}
use Rattle.ruby_tree.specs.Depth.{depth, trees_depth, pairs_depth, pieces_depth, whens_depth, rescues_depth, params_depth}
use Rattle.ruby_tree.specs.Read.{tree_of}
use Rattle.ruby_tree.specs.Views.{read_all, read_pairs, read_part, read_parts, read_whens, read_clauses, read_param, read_params}
use Rattle.ruby_tree.specs.Read.{text_of_option}
use Rattle.ruby_tree.specs.NamesFit.{names_fit}
use Rattle.ruby_tree.specs.Build.{one}
use Rattle.tree_builder.specs.Subtrees.{trees_count, pairs_then, pieces_then, whens_then, rescues_then, params_then, nodes_fit, pair_nodes_fit, part_node_fits, when_nodes_fit, clause_nodes_fit, param_node_fits, IsNode, AreNodes, ArePairs, ArePieces, AreWhens, AreClauses, AreParams, IsNamed, IsOtherName, Holds, HoldsAll, HoldsPairs, HoldsPieces, HoldsWhens, HoldsRescues, HoldsParams}

-- how deep the first ones are with the others
trees_then-depth : (ts us : Trees) → trees_depth (trees_then ts us) ≡ max (trees_depth ts) (trees_depth us)
trees_then-depth no_more us = omega arith
trees_then-depth (more t ts) us = omega (arith, trees_then-depth ts us)

pairs_then-depth : (ps qs : Pairs) → pairs_depth (pairs_then ps qs) ≡ max (pairs_depth ps) (pairs_depth qs)
pairs_then-depth no_pair qs = omega arith
pairs_then-depth (pair k v ps) qs = omega (arith, pairs_then-depth ps qs)

pieces_then-depth : (ps qs : Pieces) → pieces_depth (pieces_then ps qs) ≡ max (pieces_depth ps) (pieces_depth qs)
pieces_then-depth no_piece qs = omega arith
pieces_then-depth (plain_piece f ps) qs = pieces_then-depth ps qs
pieces_then-depth (code_piece t ps) qs = omega (arith, pieces_then-depth ps qs)

whens_then-depth : (ws vs : Whens) → whens_depth (whens_then ws vs) ≡ max (whens_depth ws) (whens_depth vs)
whens_then-depth no_when vs = omega arith
whens_then-depth (when ts t ws) vs = omega (arith, whens_then-depth ws vs)

rescues_then-depth : (cs ds : Rescues) → rescues_depth (rescues_then cs ds) ≡ max (rescues_depth cs) (rescues_depth ds)
rescues_then-depth no_clause ds = omega arith
rescues_then-depth (clause ts x t cs) ds = omega (arith, rescues_then-depth cs ds)

params_then-depth : (ps qs : Params) → params_depth (params_then ps qs) ≡ max (params_depth ps) (params_depth qs)
params_then-depth no_param qs = omega arith
params_then-depth (required n ps) qs = params_then-depth ps qs
params_then-depth (optional n t ps) qs = omega (arith, params_then-depth ps qs)
params_then-depth (rest_param n ps) qs = params_then-depth ps qs
params_then-depth (block_param n ps) qs = params_then-depth ps qs

trees_then-count : (ts us : Trees) → trees_count (trees_then ts us) ≡ trees_count ts + trees_count us
trees_then-count no_more us = omega arith
trees_then-count (more t ts) us = omega (arith, trees_then-count ts us)

-- one more that passes
all_more : {X : Type 0} (p : X → Bool) (xs : List X) (x : X) → list_all p xs ≡ true → p x ≡ true → list_all p (xs ++ x ∷ []) ≡ true
all_more p xs x before last = list_all-append p xs (x ∷ []) ∙ both_true before (both_true last refl)

nodes_fit_more : (count : ℕ) (ns : List Node) (n : Node) → nodes_fit count ns ≡ true → names_fit count n ≡ true → nodes_fit count (ns ++ n ∷ []) ≡ true
nodes_fit_more count ns n before last =
    ap (list_all (λ (b : Bool). b)) (map-append (names_fit count) ns (n ∷ [])) ∙ all_more (λ (b : Bool). b) (map (names_fit count) ns) (names_fit count n) before last

-- Lists with one more item are read so.
module _ (U : Texts) where
  read_all_more : (ns : List Node) (n : Node) → read_all U (ns ++ n ∷ []) ≡ trees_then (read_all U ns) (one (tree_of U n))
  read_all_more [] n = refl
  read_all_more (m ∷ ns) n = ap (more (tree_of U m)) (read_all_more ns n)

  read_pairs_more : (ns : List (Node × Node)) (n : Node × Node) → read_pairs U (ns ++ n ∷ []) ≡ pairs_then (read_pairs U ns) (pair (tree_of U n.0) (tree_of U n.1) no_pair)
  read_pairs_more [] n = refl
  read_pairs_more (m ∷ ns) n = ap (pair (tree_of U m.0) (tree_of U m.1)) (read_pairs_more ns n)

  read_parts_more : (ns : List (TextPart Node)) (n : TextPart Node) → read_parts U (ns ++ n ∷ []) ≡ pieces_then (read_parts U ns) (read_part U n no_piece)
  read_parts_more [] n = refl
  read_parts_more (text_part.Plain f ∷ ns) n = ap (plain_piece f) (read_parts_more ns n)
  read_parts_more (text_part.Code m ∷ ns) n = ap (code_piece (tree_of U m)) (read_parts_more ns n)

  read_whens_more : (ns : List (Vec Node Global × Node)) (n : Vec Node Global × Node) → read_whens U (ns ++ n ∷ []) ≡ whens_then (read_whens U ns) (when (read_all U n.0.items) (tree_of U n.1) no_when)
  read_whens_more [] n = refl
  read_whens_more (m ∷ ns) n = ap (when (read_all U m.0.items) (tree_of U m.1)) (read_whens_more ns n)

  read_clauses_more : (ns : List (Vec Node Global × Option Name × Node)) (n : Vec Node Global × Option Name × Node) → read_clauses U (ns ++ n ∷ []) ≡ rescues_then (read_clauses U ns) (clause (read_all U n.0.items) (text_of_option U n.1) (tree_of U n.2) no_clause)
  read_clauses_more [] n = refl
  read_clauses_more (m ∷ ns) n = ap (clause (read_all U m.0.items) (text_of_option U m.1) (tree_of U m.2)) (read_clauses_more ns n)

  read_params_more : (ns : List (Param Node)) (n : Param Node) → read_params U (ns ++ n ∷ []) ≡ params_then (read_params U ns) (read_param U n no_param)
  read_params_more [] n = refl
  read_params_more (param.Required m ∷ ns) n = ap (read_param U (param.Required m)) (read_params_more ns n)
  read_params_more (param.Optional m a ∷ ns) n = ap (read_param U (param.Optional m a)) (read_params_more ns n)
  read_params_more (param.Rest m ∷ ns) n = ap (read_param U (param.Rest m)) (read_params_more ns n)
  read_params_more (param.Block m ∷ ns) n = ap (read_param U (param.Block m)) (read_params_more ns n)

module _ (T : Texts) where
  pub tree_pushed : (old new : Subtrees) (part : Subtree) (ts : Trees) (t : Tree) → new.nodes.items ≡ old.nodes.items ++ part.node ∷ [] → new.depth ≡ max old.depth part.depth → HoldsAll T old ts → Holds T part t → HoldsAll T new (trees_then ts (one t))
  tree_pushed old new part ts t items deep h p =
      let both : trees_depth (trees_then ts (one t)) ≡ max (trees_depth ts) (depth t) = omega (arith, trees_then-depth ts (one t)) in
      record {
        counts = ap length items ∙ length-append old.nodes.items (part.node ∷ []) ∙ ap (λ (n : ℕ). n + 1) h.counts ∙ sym (trees_then-count ts (one t));
        shows = omega (arith, both, h.shows, p.shows);
        reads = λ small U on.
            let m : AreNodes U old.nodes.items ts = h.reads (omega (arith, both)) U on in
            let n : IsNode U part.node t = p.reads (omega (arith, both)) U on in
            record {
              fits = ap (nodes_fit (length U)) items ∙ nodes_fit_more (length U) old.nodes.items part.node m.fits n.fits;
              trees = ap (read_all U) items ∙ read_all_more U old.nodes.items part.node ∙ rw (m.trees, n.tree) refl;
            };
      }

  pub pair_pushed : (old new : PairSubtrees) (key value : Subtree) (ps : Pairs) (k v : Tree) → new.pairs.items ≡ old.pairs.items ++ (key.node, value.node) ∷ [] → new.depth ≡ max old.depth (max key.depth value.depth) → HoldsPairs T old ps → Holds T key k → Holds T value v → HoldsPairs T new (pairs_then ps (pair k v no_pair))
  pair_pushed old new key value ps k v items deep h p q =
      let both : pairs_depth (pairs_then ps (pair k v no_pair)) ≡ max (pairs_depth ps) (max (depth k) (depth v)) = omega (arith, pairs_then-depth ps (pair k v no_pair)) in
      record {
        shows = omega (arith, both, h.shows, p.shows, q.shows);
        reads = λ small U on.
            let m : ArePairs U old.pairs.items ps = h.reads (omega (arith, both)) U on in
            let n : IsNode U key.node k = p.reads (omega (arith, both)) U on in
            let o : IsNode U value.node v = q.reads (omega (arith, both)) U on in
            record {
              fits = ap (list_all (pair_nodes_fit (length U))) items ∙ all_more (pair_nodes_fit (length U)) old.pairs.items (key.node, value.node) m.fits (both_true n.fits o.fits);
              pairs = ap (read_pairs U) items ∙ read_pairs_more U old.pairs.items (key.node, value.node) ∙ rw (m.pairs, n.tree, o.tree) refl;
            };
      }

  pub plain_pushed : (old new : PieceSubtrees) (f : Bytes) (ps : Pieces) → new.pieces.items ≡ old.pieces.items ++ text_part.Plain f ∷ [] → new.depth ≡ old.depth → HoldsPieces T old ps → HoldsPieces T new (pieces_then ps (plain_piece f no_piece))
  plain_pushed old new f ps items deep h =
      let both : pieces_depth (pieces_then ps (plain_piece f no_piece)) ≡ pieces_depth ps = omega (arith, pieces_then-depth ps (plain_piece f no_piece)) in
      record {
        shows = omega (arith, both, h.shows);
        reads = λ small U on.
            let m : ArePieces U old.pieces.items ps = h.reads (omega (arith, both)) U on in
            record {
              fits = ap (list_all (part_node_fits (length U))) items ∙ all_more (part_node_fits (length U)) old.pieces.items (text_part.Plain f) m.fits refl;
              pieces = ap (read_parts U) items ∙ read_parts_more U old.pieces.items (text_part.Plain f) ∙ rw m.pieces refl;
            };
      }

  pub code_pushed : (old new : PieceSubtrees) (code : Subtree) (ps : Pieces) (t : Tree) → new.pieces.items ≡ old.pieces.items ++ text_part.Code code.node ∷ [] → new.depth ≡ max old.depth code.depth → HoldsPieces T old ps → Holds T code t → HoldsPieces T new (pieces_then ps (code_piece t no_piece))
  code_pushed old new code ps t items deep h p =
      let both : pieces_depth (pieces_then ps (code_piece t no_piece)) ≡ max (pieces_depth ps) (depth t) = omega (arith, pieces_then-depth ps (code_piece t no_piece)) in
      record {
        shows = omega (arith, both, h.shows, p.shows);
        reads = λ small U on.
            let m : ArePieces U old.pieces.items ps = h.reads (omega (arith, both)) U on in
            let n : IsNode U code.node t = p.reads (omega (arith, both)) U on in
            record {
              fits = ap (list_all (part_node_fits (length U))) items ∙ all_more (part_node_fits (length U)) old.pieces.items (text_part.Code code.node) m.fits n.fits;
              pieces = ap (read_parts U) items ∙ read_parts_more U old.pieces.items (text_part.Code code.node) ∙ rw (m.pieces, n.tree) refl;
            };
      }

  pub when_pushed : (old new : WhenSubtrees) (values : Subtrees) (body : Subtree) (ws : Whens) (ts : Trees) (t : Tree) → new.whens.items ≡ old.whens.items ++ (values.nodes, body.node) ∷ [] → new.depth ≡ max old.depth (max values.depth body.depth) → HoldsWhens T old ws → HoldsAll T values ts → Holds T body t → HoldsWhens T new (whens_then ws (when ts t no_when))
  when_pushed old new values body ws ts t items deep h p q =
      let both : whens_depth (whens_then ws (when ts t no_when)) ≡ max (whens_depth ws) (max (trees_depth ts) (depth t)) = omega (arith, whens_then-depth ws (when ts t no_when)) in
      record {
        shows = omega (arith, both, h.shows, p.shows, q.shows);
        reads = λ small U on.
            let m : AreWhens U old.whens.items ws = h.reads (omega (arith, both)) U on in
            let n : AreNodes U values.nodes.items ts = p.reads (omega (arith, both)) U on in
            let o : IsNode U body.node t = q.reads (omega (arith, both)) U on in
            record {
              fits = ap (list_all (when_nodes_fit (length U))) items ∙ all_more (when_nodes_fit (length U)) old.whens.items (values.nodes, body.node) m.fits (both_true n.fits o.fits);
              whens = ap (read_whens U) items ∙ read_whens_more U old.whens.items (values.nodes, body.node) ∙ rw (m.whens, n.trees, o.tree) refl;
            };
      }

  pub clause_pushed : (old new : RescueSubtrees) (classes : Subtrees) (name : Option Name) (body : Subtree) (cs : Rescues) (ts : Trees) (x : Option Bytes) (t : Tree) → new.clauses.items ≡ old.clauses.items ++ (classes.nodes, name, body.node) ∷ [] → new.depth ≡ max old.depth (max classes.depth body.depth) → HoldsRescues T old cs → HoldsAll T classes ts → IsOtherName T name x → Holds T body t → HoldsRescues T new (rescues_then cs (clause ts x t no_clause))
  clause_pushed old new classes name body cs ts x t items deep h p named q =
      let both : rescues_depth (rescues_then cs (clause ts x t no_clause)) ≡ max (rescues_depth cs) (max (trees_depth ts) (depth t)) = omega (arith, rescues_then-depth cs (clause ts x t no_clause)) in
      record {
        shows = omega (arith, both, h.shows, p.shows, q.shows);
        reads = λ small U on.
            let m : AreClauses U old.clauses.items cs = h.reads (omega (arith, both)) U on in
            let n : AreNodes U classes.nodes.items ts = p.reads (omega (arith, both)) U on in
            let o : IsNode U body.node t = q.reads (omega (arith, both)) U on in
            record {
              fits = ap (list_all (clause_nodes_fit (length U))) items ∙ all_more (clause_nodes_fit (length U)) old.clauses.items (classes.nodes, name, body.node) m.fits (both_true (both_true n.fits (named.within U on)) o.fits);
              clauses = ap (read_clauses U) items ∙ read_clauses_more U old.clauses.items (classes.nodes, name, body.node) ∙ rw (m.clauses, n.trees, named.text U on, o.tree) refl;
            };
      }

  pub required_pushed : (old new : ParamSubtrees) (name : Name) (ps : Params) (f : Bytes) → new.params.items ≡ old.params.items ++ param.Required name ∷ [] → new.depth ≡ old.depth → HoldsParams T old ps → IsNamed T name f → HoldsParams T new (params_then ps (required f no_param))
  required_pushed old new name ps f items deep h named =
      let both : params_depth (params_then ps (required f no_param)) ≡ params_depth ps = omega (arith, params_then-depth ps (required f no_param)) in
      record {
        shows = omega (arith, both, h.shows);
        reads = λ small U on.
            let m : AreParams U old.params.items ps = h.reads (omega (arith, both)) U on in
            record {
              fits = ap (list_all (param_node_fits (length U))) items ∙ all_more (param_node_fits (length U)) old.params.items (param.Required name) m.fits (lt-ltb _ _ (named.within U on));
              params = ap (read_params U) items ∙ read_params_more U old.params.items (param.Required name) ∙ rw (m.params, named.text U on) refl;
            };
      }

  pub rest_pushed : (old new : ParamSubtrees) (name : Name) (ps : Params) (f : Bytes) → new.params.items ≡ old.params.items ++ param.Rest name ∷ [] → new.depth ≡ old.depth → HoldsParams T old ps → IsNamed T name f → HoldsParams T new (params_then ps (rest_param f no_param))
  rest_pushed old new name ps f items deep h named =
      let both : params_depth (params_then ps (rest_param f no_param)) ≡ params_depth ps = omega (arith, params_then-depth ps (rest_param f no_param)) in
      record {
        shows = omega (arith, both, h.shows);
        reads = λ small U on.
            let m : AreParams U old.params.items ps = h.reads (omega (arith, both)) U on in
            record {
              fits = ap (list_all (param_node_fits (length U))) items ∙ all_more (param_node_fits (length U)) old.params.items (param.Rest name) m.fits (lt-ltb _ _ (named.within U on));
              params = ap (read_params U) items ∙ read_params_more U old.params.items (param.Rest name) ∙ rw (m.params, named.text U on) refl;
            };
      }

  pub block_pushed : (old new : ParamSubtrees) (name : Name) (ps : Params) (f : Bytes) → new.params.items ≡ old.params.items ++ param.Block name ∷ [] → new.depth ≡ old.depth → HoldsParams T old ps → IsNamed T name f → HoldsParams T new (params_then ps (block_param f no_param))
  block_pushed old new name ps f items deep h named =
      let both : params_depth (params_then ps (block_param f no_param)) ≡ params_depth ps = omega (arith, params_then-depth ps (block_param f no_param)) in
      record {
        shows = omega (arith, both, h.shows);
        reads = λ small U on.
            let m : AreParams U old.params.items ps = h.reads (omega (arith, both)) U on in
            record {
              fits = ap (list_all (param_node_fits (length U))) items ∙ all_more (param_node_fits (length U)) old.params.items (param.Block name) m.fits (lt-ltb _ _ (named.within U on));
              params = ap (read_params U) items ∙ read_params_more U old.params.items (param.Block name) ∙ rw (m.params, named.text U on) refl;
            };
      }

  pub optional_pushed : (old new : ParamSubtrees) (name : Name) (value : Subtree) (ps : Params) (f : Bytes) (t : Tree) → new.params.items ≡ old.params.items ++ param.Optional name value.node ∷ [] → new.depth ≡ max old.depth value.depth → HoldsParams T old ps → IsNamed T name f → Holds T value t → HoldsParams T new (params_then ps (optional f t no_param))
  optional_pushed old new name value ps f t items deep h named p =
      let both : params_depth (params_then ps (optional f t no_param)) ≡ max (params_depth ps) (depth t) = omega (arith, params_then-depth ps (optional f t no_param)) in
      record {
        shows = omega (arith, both, h.shows, p.shows);
        reads = λ small U on.
            let m : AreParams U old.params.items ps = h.reads (omega (arith, both)) U on in
            let n : IsNode U value.node t = p.reads (omega (arith, both)) U on in
            record {
              fits = ap (list_all (param_node_fits (length U))) items ∙ all_more (param_node_fits (length U)) old.params.items (param.Optional name value.node) m.fits (both_true (lt-ltb _ _ (named.within U on)) n.fits);
              params = ap (read_params U) items ∙ read_params_more U old.params.items (param.Optional name value.node) ∙ rw (m.params, named.text U on, n.tree) refl;
            };
      }
