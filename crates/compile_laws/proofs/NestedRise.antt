-- Where sequences nest, the rescue parts of each sequence rise.
use Rattle.std.proofs.Common.{List, ℕ, ◌++◌}
use Rattle.ruby_tree.specs.Tree.{Tree, at, Form, nil_value, true_value, false_value, integer, symbol, text, self_value, file_name, folder_name, line_number, local, instance, global, joined, array, hash, range, constant_path, assign, assign_all, assign_attribute, assign_index, operate_attribute, or_attribute, and_attribute, operate_index, or_index, and_index, send, safe_send, yield, super, bare_super, bare_raise, statements, both, either, negated, if_else, while_loop, case_of, case_tests, return_with, break_with, next_with, retry, rescue, ensure, rescue_sequence, ensure_sequence, method, class, module_named, body, Trees, no_more, more, Other, without, with, Pairs, no_pair, pair, Pieces, no_piece, plain_piece, code_piece, Whens, no_when, when, Rescues, no_clause, clause, Params, no_param, required, optional, rest_param, block_param}
use Rattle.ruby_meaning.specs.Sequences.{places, form_places, trees_places, other_places, pairs_places, pieces_places, whens_places, clauses_places, params_places}
use Rattle.tree_laws.specs.Nesting.{Nested, FormNested, TreesNested, OtherNested, PairsNested, PiecesNested, WhensNested, ClausesNested, ParamsNested}
use Rattle.compile_laws.specs.Rising.{Rises, FormRises, TreesRise, OtherRises, PairsRise, PiecesRise, WhensRise, ClausesRise, ParamsRise}
use Rattle.compile_laws.proofs.Inside.{Each, Inside, of_first, of_rest, of_inner, protecting_first}

module _ {Q : ℕ → Type 0} where
  -- two parts
  two : {xs ys : List ℕ} {K L : Type 0} → (Each Q xs → K) → (Each Q ys → L) → Each Q (xs ++ ys) → K × L
  two {xs} {ys} a b i = (a (of_first ys i), b (of_rest xs i))

  three : {xs ys zs : List ℕ} {K L M : Type 0} → (Each Q xs → K) → (Each Q ys → L) → (Each Q zs → M) → Each Q (xs ++ (ys ++ zs)) → K × L × M
  three {xs} {ys} {zs} a b c i = let j = of_rest xs i in (a (of_first (ys ++ zs) i), b (of_first zs j), c (of_rest ys j))

  -- the part before another one
  front : {xs : List ℕ} {K : Type 0} (ys : List ℕ) → (Each Q xs → K) → Each Q (xs ++ ys) → K
  front ys a i = a (of_first ys i)

module _ (all : List ℕ) where
  mutual
    pub rises : (t : Tree) → Nested t → Inside all (places t) → Rises all t
    rises (at s f) n i = form_rises s.place f n i

    form_rises : (p : ℕ) (f : Form) → FormNested p f → Inside all (form_places p f) → FormRises all f
    form_rises p nil_value n i = tt
    form_rises p true_value n i = tt
    form_rises p false_value n i = tt
    form_rises p (integer x) n i = tt
    form_rises p (symbol x) n i = tt
    form_rises p (text x) n i = tt
    form_rises p self_value n i = tt
    form_rises p file_name n i = tt
    form_rises p folder_name n i = tt
    form_rises p line_number n i = tt
    form_rises p (local x) n i = tt
    form_rises p (instance x) n i = tt
    form_rises p (global x) n i = tt
    form_rises p (joined ps) n i = pieces_rise ps n i
    form_rises p (array ts ks) n i = trees_rise ts n i
    form_rises p (hash ps) n i = pairs_rise ps n i
    form_rises p (range a c e) n i = two (rises a n.0) (rises c n.1) i
    form_rises p (constant_path o b xs) n i = other_rises o n i
    form_rises p (assign t g) n i = rises t n i
    form_rises p (assign_all ts gs) n i = trees_rise ts n i
    form_rises p (assign_attribute a t m) n i = two (rises a n.0) (rises t n.1) i
    form_rises p (assign_index a j t) n i = three (rises a n.0) (rises j n.1.0) (rises t n.1.1) i
    form_rises p (operate_attribute a x t f m l) n i = two (rises a n.0) (rises t n.1) i
    form_rises p (or_attribute a x t m) n i = two (rises a n.0) (rises t n.1) i
    form_rises p (and_attribute a x t m) n i = two (rises a n.0) (rises t n.1) i
    form_rises p (operate_index a j t f l) n i = three (rises a n.0) (rises j n.1.0) (rises t n.1.1) i
    form_rises p (or_index a j t) n i = three (rises a n.0) (rises j n.1.0) (rises t n.1.1) i
    form_rises p (and_index a j t) n i = three (rises a n.0) (rises j n.1.0) (rises t n.1.1) i
    form_rises p (send o ts ks v x bare b) n i = three (other_rises o n.0) (trees_rise ts n.1.0) (front (other_places b) (other_rises v n.1.1.0)) i
    form_rises p (safe_send a ts ks v x b) n i = three (rises a n.0) (trees_rise ts n.1.0) (front (other_places b) (other_rises v n.1.1.0)) i
    form_rises p (yield ts ks) n i = trees_rise ts n i
    form_rises p (super ts ks v b) n i = two (trees_rise ts n.0) (front (other_places b) (other_rises v n.1.0)) i
    form_rises p (bare_super b) n i = tt
    form_rises p bare_raise n i = tt
    form_rises p (statements ts) n i = trees_rise ts n i
    form_rises p (both a c) n i = two (rises a n.0) (rises c n.1) i
    form_rises p (either a c) n i = two (rises a n.0) (rises c n.1) i
    form_rises p (negated a) n i = rises a n i
    form_rises p (if_else c a o) n i = three (rises c n.0) (rises a n.1.0) (other_rises o n.1.1) i
    form_rises p (while_loop a c u b) n i = two (rises a n.0) (rises c n.1) i
    form_rises p (case_of a ws o) n i = three (rises a n.0) (whens_rise ws n.1.0) (other_rises o n.1.1) i
    form_rises p (case_tests ws o) n i = two (whens_rise ws n.0) (other_rises o n.1) i
    form_rises p (return_with ts) n i = trees_rise ts n i
    form_rises p (break_with ts) n i = trees_rise ts n i
    form_rises p (next_with ts) n i = trees_rise ts n i
    form_rises p retry n i = tt
    form_rises p (rescue a o c) n i =
        let j = of_first (other_places o ++ places c) i in
        (rises a n.0.0 j, other_rises o n.0.1.0 (of_first (places c) (of_rest (places a) i)), protecting_first all a c n.0.0 n.1.1 j)
    form_rises p (ensure a c) n i = front (places c) (rises a n.0.0) i
    form_rises p (rescue_sequence cs) n i = clauses_rise cs n.0 (of_inner p i)
    form_rises p (ensure_sequence a) n i = rises a n.0 (of_inner p i)
    form_rises p (method x t b) n i = tt
    form_rises p (class o x t) n i = front (places t) (other_rises o n.0) i
    form_rises p (module_named x t) n i = tt
    form_rises p (body ps t) n i = two (params_rise ps n.0.0) (rises t n.0.1) (of_inner p i)

    trees_rise : (ts : Trees) → TreesNested ts → Inside all (trees_places ts) → TreesRise all ts
    trees_rise no_more n i = tt
    trees_rise (more t ts) n i = two (rises t n.0) (trees_rise ts n.1) i

    other_rises : (o : Other) → OtherNested o → Inside all (other_places o) → OtherRises all o
    other_rises without n i = tt
    other_rises (with t) n i = rises t n i

    pairs_rise : (ps : Pairs) → PairsNested ps → Inside all (pairs_places ps) → PairsRise all ps
    pairs_rise no_pair n i = tt
    pairs_rise (pair t u ps) n i = three (rises t n.0) (rises u n.1.0) (pairs_rise ps n.1.1) i

    pieces_rise : (ps : Pieces) → PiecesNested ps → Inside all (pieces_places ps) → PiecesRise all ps
    pieces_rise no_piece n i = tt
    pieces_rise (plain_piece x ps) n i = pieces_rise ps n i
    pieces_rise (code_piece t ps) n i = two (rises t n.0) (pieces_rise ps n.1) i

    whens_rise : (ws : Whens) → WhensNested ws → Inside all (whens_places ws) → WhensRise all ws
    whens_rise no_when n i = tt
    whens_rise (when ts t ws) n i = three (trees_rise ts n.0) (rises t n.1.0) (whens_rise ws n.1.1) i

    clauses_rise : (cs : Rescues) → ClausesNested cs → Inside all (clauses_places cs) → ClausesRise all cs
    clauses_rise no_clause n i = tt
    clauses_rise (clause ts x t cs) n i = three (trees_rise ts n.0) (rises t n.1.0) (clauses_rise cs n.1.1) i

    params_rise : (ps : Params) → ParamsNested ps → Inside all (params_places ps) → ParamsRise all ps
    params_rise no_param n i = tt
    params_rise (required x ps) n i = params_rise ps n i
    params_rise (optional x t ps) n i = two (rises t n.0) (params_rise ps n.1) i
    params_rise (rest_param x ps) n i = params_rise ps n i
    params_rise (block_param x ps) n i = params_rise ps n i
