-- Where a table has the body of each of a tree's sequences, each body in the tree is found in it.
use Rattle.std.proofs.Common.{◌≡◌, List, [], ◌∷◌, ◌++◌, Some, None}
use Rattle.std.specs.List.{AllByRecursion}
use Rattle.ruby_tree.specs.Tree.{Tree, at, Form, local, joined, array, hash, range, constant_path, assign, assign_all, assign_attribute, assign_index, operate_attribute, or_attribute, and_attribute, operate_index, or_index, and_index, send, safe_send, yield, super, bare_super, statements, both, either, negated, if_else, while_loop, case_of, case_tests, return_with, break_with, next_with, rescue, ensure, rescue_sequence, ensure_sequence, method, class, module_named, body, Trees, no_more, more, Other, without, with, Pairs, no_pair, pair, Pieces, no_piece, plain_piece, code_piece, Whens, no_when, when, Rescues, no_clause, clause, Params, no_param, required, optional, rest_param, block_param}
use Rattle.iseq_types.specs.declared.sequences.SeqKind.TheVariants as kinds
use Rattle.ruby_meaning.specs.Levels.{BodyTable, IsHoused, FormHoused, BlockHoused, TreesHoused, OtherHoused, PairsHoused, PiecesHoused, WhensHoused, ClausesHoused, ParamsHoused}
use Rattle.compile_table.specs.Shapes.{Where, looped, in_rescue, in_ensure}
use Rattle.compile_table.specs.Sequences.{Compiled, compiled_body, compiled_part, in_body, in_block, sequences, form_sequences, block_sequences, trees_sequences, other_sequences, pairs_sequences, pieces_sequences, whens_sequences, clauses_sequences, params_sequences}
use Rattle.compile_laws.specs.Found.{IsBodyKind}

module _ (table : BodyTable) where
  -- it has the body of the sequence, if it is one of a body
  abbrev pub Has : Compiled → Type 0
  Has c = IsBodyKind c.kind → table c.place ≡ Some (c.inner.sight, c.tree)

  abbrev C : List Compiled → Type 0
  C cs = AllByRecursion Has cs

  split : (xs ys : List Compiled) → C (xs ++ ys) → C xs × C ys
  split [] ys h = (tt, h)
  split (x ∷ xs) ys h = let r = split xs ys h.1 in ((h.0, r.0), r.1)

  mutual
    pub tree_has : (t : Tree) (l : Where) → IsHoused None l.sight t → C (sequences l t) → IsHoused (Some table) l.sight t
    tree_has (at s f) l j h = form_has f l j h

    form_has : (f : Form) (l : Where) → FormHoused None l.sight f → C (form_sequences l f) → FormHoused (Some table) l.sight f
    form_has (local x) l j h = j
    form_has (joined ps) l j h = pieces_has ps l j h
    form_has (array ts ks) l j h = trees_has ts l j h
    form_has (hash ps) l j h = pairs_has ps l j h
    form_has (range a c e) l j h = let d = split (sequences l a) (sequences l c) h in (tree_has a l j.0 d.0, tree_has c l j.1 d.1)
    form_has (constant_path o top xs) l j h = other_has o l j h
    form_has (assign t g) l j h = (j.0, tree_has t l j.1 h)
    form_has (assign_all ts gs) l j h = (j.0, trees_has ts l j.1 h)
    form_has (assign_attribute a t m) l j h = let d = split (sequences l a) (sequences l t) h in (tree_has a l j.0 d.0, tree_has t l j.1 d.1)
    form_has (assign_index a i t) l j h = let d = split (sequences l a) (sequences l i ++ (sequences l t)) h in let e = split (sequences l i) (sequences l t) d.1 in (tree_has a l j.0 d.0, (tree_has i l j.1.0 e.0, tree_has t l j.1.1 e.1))
    form_has (operate_attribute a x t f m n) l j h = let d = split (sequences l a) (sequences l t) h in (tree_has a l j.0 d.0, tree_has t l j.1 d.1)
    form_has (or_attribute a x t m) l j h = let d = split (sequences l a) (sequences l t) h in (tree_has a l j.0 d.0, tree_has t l j.1 d.1)
    form_has (and_attribute a x t m) l j h = let d = split (sequences l a) (sequences l t) h in (tree_has a l j.0 d.0, tree_has t l j.1 d.1)
    form_has (operate_index a i t f n) l j h = let d = split (sequences l a) (sequences l i ++ (sequences l t)) h in let e = split (sequences l i) (sequences l t) d.1 in (tree_has a l j.0 d.0, (tree_has i l j.1.0 e.0, tree_has t l j.1.1 e.1))
    form_has (or_index a i t) l j h = let d = split (sequences l a) (sequences l i ++ (sequences l t)) h in let e = split (sequences l i) (sequences l t) d.1 in (tree_has a l j.0 d.0, (tree_has i l j.1.0 e.0, tree_has t l j.1.1 e.1))
    form_has (and_index a i t) l j h = let d = split (sequences l a) (sequences l i ++ (sequences l t)) h in let e = split (sequences l i) (sequences l t) d.1 in (tree_has a l j.0 d.0, (tree_has i l j.1.0 e.0, tree_has t l j.1.1 e.1))
    form_has (send o ts ks v x bare t) l j h = let d = split (other_sequences l o) (trees_sequences l ts ++ (other_sequences l v ++ (block_sequences l t))) h in let e = split (trees_sequences l ts) (other_sequences l v ++ (block_sequences l t)) d.1 in let f = split (other_sequences l v) (block_sequences l t) e.1 in (other_has o l j.0 d.0, (trees_has ts l j.1.0 e.0, (other_has v l j.1.1.0 f.0, block_has t l j.1.1.1 f.1)))
    form_has (safe_send a ts ks v x t) l j h = let d = split (sequences l a) (trees_sequences l ts ++ (other_sequences l v ++ (block_sequences l t))) h in let e = split (trees_sequences l ts) (other_sequences l v ++ (block_sequences l t)) d.1 in let f = split (other_sequences l v) (block_sequences l t) e.1 in (tree_has a l j.0 d.0, (trees_has ts l j.1.0 e.0, (other_has v l j.1.1.0 f.0, block_has t l j.1.1.1 f.1)))
    form_has (yield ts ks) l j h = trees_has ts l j h
    form_has (super ts ks v t) l j h = let d = split (trees_sequences l ts) (other_sequences l v ++ (block_sequences l t)) h in let e = split (other_sequences l v) (block_sequences l t) d.1 in (trees_has ts l j.0 d.0, (other_has v l j.1.0 e.0, block_has t l j.1.1 e.1))
    form_has (bare_super t) l j h = (j.0, block_has t l j.1 h)
    form_has (statements ts) l j h = trees_has ts l j h
    form_has (both a c) l j h = let d = split (sequences l a) (sequences l c) h in (tree_has a l j.0 d.0, tree_has c l j.1 d.1)
    form_has (either a c) l j h = let d = split (sequences l a) (sequences l c) h in (tree_has a l j.0 d.0, tree_has c l j.1 d.1)
    form_has (negated a) l j h = tree_has a l j h
    form_has (if_else c a o) l j h = let d = split (sequences l c) (sequences l a ++ (other_sequences l o)) h in let e = split (sequences l a) (other_sequences l o) d.1 in (tree_has c l j.0 d.0, (tree_has a l j.1.0 e.0, other_has o l j.1.1 e.1))
    form_has (while_loop a c u f) l j h = let d = split (sequences (looped l) a) (sequences l c) h in (tree_has a (looped l) j.0 d.0, tree_has c l j.1 d.1)
    form_has (case_of a ws o) l j h = let d = split (sequences l a) (whens_sequences l ws ++ (other_sequences l o)) h in let e = split (whens_sequences l ws) (other_sequences l o) d.1 in (tree_has a l j.0 d.0, (whens_has ws l j.1.0 e.0, other_has o l j.1.1 e.1))
    form_has (case_tests ws o) l j h = let d = split (whens_sequences l ws) (other_sequences l o) h in (whens_has ws l j.0 d.0, other_has o l j.1 d.1)
    form_has (return_with ts) l j h = trees_has ts l j h
    form_has (break_with ts) l j h = trees_has ts l j h
    form_has (next_with ts) l j h = trees_has ts l j h
    form_has (rescue a o (at r f)) l j h = let d = split (sequences l a) (other_sequences l o ++ (compiled_part l (in_rescue l (at r f)) kinds.Rescue (at r f) ∷ sequences (in_rescue l (at r f)) (at r f))) h in let e = split (other_sequences l o) (compiled_part l (in_rescue l (at r f)) kinds.Rescue (at r f) ∷ sequences (in_rescue l (at r f)) (at r f)) d.1 in (tree_has a l j.0 d.0, (other_has o l j.1.0 e.0, form_has f (in_rescue l (at r f)) j.1.1 e.1.1))
    form_has (ensure a (at r f)) l j h = let d = split (sequences l a) (compiled_part l (in_ensure l (at r f)) kinds.Ensure (at r f) ∷ sequences (in_ensure l (at r f)) (at r f)) h in (tree_has a l j.0 d.0, form_has f (in_ensure l (at r f)) j.1 d.1.1)
    form_has (rescue_sequence cs) l j h = clauses_has cs l j h
    form_has (ensure_sequence a) l j h = tree_has a l j h
    form_has (method x t f) l j h = (tree_has t (in_body l t) j.0 h.1, h.0 tt)
    form_has (class o x t) l j h = let d = split (other_sequences l o) (compiled_body l (in_body l t) kinds.Class x t ∷ sequences (in_body l t) t) h in (other_has o l j.0 d.0, (tree_has t (in_body l t) j.1.0 d.1.1, d.1.0 tt))
    form_has (module_named x t) l j h = (tree_has t (in_body l t) j.0 h.1, h.0 tt)
    form_has (body ps t) l j h = let d = split (params_sequences l ps) (sequences l t) h in (params_has ps l j.0 d.0, tree_has t l j.1 d.1)
    form_has f l j h = tt

    block_has : (t : Other) (l : Where) → BlockHoused None l.sight t → C (block_sequences l t) → BlockHoused (Some table) l.sight t
    block_has without l j h = tt
    block_has (with t) l j h = (tree_has t (in_block l t) j.0 h.1, h.0 tt)

    trees_has : (ts : Trees) (l : Where) → TreesHoused None l.sight ts → C (trees_sequences l ts) → TreesHoused (Some table) l.sight ts
    trees_has no_more l j h = tt
    trees_has (more t ts) l j h = let d = split (sequences l t) (trees_sequences l ts) h in (tree_has t l j.0 d.0, trees_has ts l j.1 d.1)

    other_has : (o : Other) (l : Where) → OtherHoused None l.sight o → C (other_sequences l o) → OtherHoused (Some table) l.sight o
    other_has without l j h = tt
    other_has (with t) l j h = tree_has t l j h

    pairs_has : (ps : Pairs) (l : Where) → PairsHoused None l.sight ps → C (pairs_sequences l ps) → PairsHoused (Some table) l.sight ps
    pairs_has no_pair l j h = tt
    pairs_has (pair t u ps) l j h = let d = split (sequences l t) (sequences l u ++ (pairs_sequences l ps)) h in let e = split (sequences l u) (pairs_sequences l ps) d.1 in (tree_has t l j.0 d.0, (tree_has u l j.1.0 e.0, pairs_has ps l j.1.1 e.1))

    pieces_has : (ps : Pieces) (l : Where) → PiecesHoused None l.sight ps → C (pieces_sequences l ps) → PiecesHoused (Some table) l.sight ps
    pieces_has no_piece l j h = tt
    pieces_has (plain_piece x ps) l j h = pieces_has ps l j h
    pieces_has (code_piece t ps) l j h = let d = split (sequences l t) (pieces_sequences l ps) h in (tree_has t l j.0 d.0, pieces_has ps l j.1 d.1)

    whens_has : (ws : Whens) (l : Where) → WhensHoused None l.sight ws → C (whens_sequences l ws) → WhensHoused (Some table) l.sight ws
    whens_has no_when l j h = tt
    whens_has (when ts t ws) l j h = let d = split (trees_sequences l ts) (sequences l t ++ (whens_sequences l ws)) h in let e = split (sequences l t) (whens_sequences l ws) d.1 in (trees_has ts l j.0 d.0, (tree_has t l j.1.0 e.0, whens_has ws l j.1.1 e.1))

    clauses_has : (cs : Rescues) (l : Where) → ClausesHoused None l.sight cs → C (clauses_sequences l cs) → ClausesHoused (Some table) l.sight cs
    clauses_has no_clause l j h = tt
    clauses_has (clause ts x t cs) l j h = let d = split (trees_sequences l ts) (sequences l t ++ clauses_sequences l cs) h in let e = split (sequences l t) (clauses_sequences l cs) d.1 in (trees_has ts l j.0 d.0, (j.1.0, (tree_has t l j.1.1.0 e.0, clauses_has cs l j.1.1.1 e.1)))

    params_has : (ps : Params) (l : Where) → ParamsHoused None l.sight ps → C (params_sequences l ps) → ParamsHoused (Some table) l.sight ps
    params_has no_param l j h = tt
    params_has (required x ps) l j h = (j.0, params_has ps l j.1 h)
    params_has (optional x t ps) l j h = let d = split (sequences l t) (params_sequences l ps) h in (j.0, (tree_has t l j.1.0 d.0, params_has ps l j.1.1 d.1))
    params_has (rest_param x ps) l j h = (j.0, params_has ps l j.1 h)
    params_has (block_param x ps) l j h = (j.0, params_has ps l j.1 h)
