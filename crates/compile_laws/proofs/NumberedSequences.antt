-- Where sequences nest, each stands behind the one around it, and its rescue parts rise.
use Rattle.std.proofs.Common.{◌≡◌, ℕ, ◌<◌, List, [], ◌∷◌, ◌++◌, refl, sym, subst}
use Rattle.std.specs.List.{AllByRecursion}
use Rattle.ruby_tree.specs.Names.{Bytes}
use Rattle.ruby_tree.specs.Tree.{SourcePosition, Tree, at, Form, nil_value, true_value, false_value, integer, symbol, text, self_value, file_name, folder_name, line_number, local, instance, global, joined, array, hash, range, constant_path, assign, assign_all, assign_attribute, assign_index, operate_attribute, or_attribute, and_attribute, operate_index, or_index, and_index, send, safe_send, yield, super, bare_super, bare_raise, statements, both, either, negated, if_else, while_loop, case_of, case_tests, return_with, break_with, next_with, retry, rescue, ensure, rescue_sequence, ensure_sequence, method, class, module_named, body, Trees, no_more, more, Other, without, with, Pairs, no_pair, pair, Pieces, no_piece, plain_piece, code_piece, Whens, no_when, when, Rescues, no_clause, clause, Params, no_param, required, optional, rest_param, block_param}
use Rattle.iseq_types.specs.declared.sequences.SeqKind.{SeqKind}
use Rattle.iseq_types.specs.declared.sequences.SeqKind.TheVariants as kinds
use Rattle.ruby_meaning.specs.Locals.{place_of}
use Rattle.ruby_meaning.specs.Sequences.{places, form_places, trees_places, other_places, pairs_places, pieces_places, whens_places, clauses_places, params_places, sequence_number}
use Rattle.code_meaning.specs.Code.{rows_of}
use Rattle.compile_table.specs.Shapes.{Where, looped, number_of, in_rescue, in_ensure, shape}
use Rattle.compile_table.specs.Sequences.{Compiled, compiled_body, compiled_part, depth_in, in_body, in_block, sequences, form_sequences, block_sequences, trees_sequences, other_sequences, pairs_sequences, pieces_sequences, whens_sequences, clauses_sequences, params_sequences}
use Rattle.tree_laws.specs.Numbering.{Has}
use Rattle.tree_laws.specs.Nesting.{Behind, Begins, Nested, FormNested, TreesNested, OtherNested, BlockNested, PairsNested, PiecesNested, WhensNested, ClausesNested, ParamsNested}
use Rattle.compile_laws.specs.Rising.{Rises}
use Rattle.compile_laws.proofs.Inside.{Each, Inside, turned, of_first, of_rest, of_inner, begins_there, number_first}
use Rattle.compile_laws.proofs.NestedRise.{rises}

-- The rescue parts of a sequence rise, and it has the rows of its tree.
pub record IsRising (c : Compiled) : Type 0 where
  pub rising : Rises c.inner.places c.tree
  pub depth : ℕ
  pub rows_are : c.body.rows ≡ rows_of depth 0 (shape c.inner c.tree)

-- What is known of a sequence that stands in another one.
pub record IsNumbered (c : Compiled) : Type 0 where
  pub within : c.kind ≡ kinds.File → ⊥
  pub behind_parent : c.parent < c.inner.number
  pub is_rising : IsRising c

pub record AreNumbered (cs : List Compiled) : Type 0 where
  pub each : AllByRecursion IsNumbered cs

-- the place is one of all, and that of a sequence behind the one that l stands in
abbrev Under : Where → ℕ → Type 0
Under l x = Has x l.places × (l.number < sequence_number l.places x)

none : AreNumbered []
none = record { each = tt }

one_more : {c : Compiled} {cs : List Compiled} → IsNumbered c → AreNumbered cs → AreNumbered (c ∷ cs)
one_more h k = record { each = (h, k.each) }

join : (cs ds : List Compiled) → AllByRecursion IsNumbered cs → AllByRecursion IsNumbered ds → AllByRecursion IsNumbered (cs ++ ds)
join [] ds h k = k
join (c ∷ cs) ds h k = (h.0, join cs ds h.1 k)

-- two parts
two : {Q : ℕ → Type 0} {xs ys : List ℕ} {cs ds : List Compiled} → (Each Q xs → AreNumbered cs) → (Each Q ys → AreNumbered ds) → Each Q (xs ++ ys) → AreNumbered (cs ++ ds)
two {xs = xs} {ys} {cs} {ds} a b i = record { each = join cs ds (a (of_first ys i)).each (b (of_rest xs i)).each }

inside : (l : Where) (xs : List ℕ) → Each (Under l) xs → Inside l.places xs
inside l xs i = turned (λ x h. h.0) i

-- the sequence around one has a lesser number
less : (l : Where) (t : Tree) → Begins t → Each (Under l) (places t) → l.number < number_of l t
less l t b i = (i.holds (place_of t) (begins_there t b)).1

a_body : (l inner : Where) (kind : SeqKind) (name : Bytes) (t : Tree) → (kind ≡ kinds.File → ⊥) → l.number < inner.number → Rises inner.places t → IsNumbered (compiled_body l inner kind name t)
a_body l inner kind name t other before r = record { within = other; behind_parent = before; is_rising = record { rising = r; depth = 0; rows_are = refl } }

a_part : (l inner : Where) (kind : SeqKind) (t : Tree) → (kind ≡ kinds.File → ⊥) → l.number < inner.number → Rises inner.places t → IsNumbered (compiled_part l inner kind t)
a_part l inner kind t other before r = record { within = other; behind_parent = before; is_rising = record { rising = r; depth = depth_in kind; rows_are = refl } }

a_rescue : (l : Where) (c : Tree) → Nested c → Begins c → Each (Under l) (places c) → IsNumbered (compiled_part l (in_rescue l c) kinds.Rescue c)
a_rescue l (at r c) n b i = a_part l (in_rescue l (at r c)) kinds.Rescue (at r c) (λ e. absurd cc) (less l (at r c) b i) (rises l.places (at r c) n (inside l (form_places r.place c) i))

an_ensure : (l : Where) (c : Tree) → Nested c → Begins c → Each (Under l) (places c) → IsNumbered (compiled_part l (in_ensure l c) kinds.Ensure c)
an_ensure l (at r c) n b i = a_part l (in_ensure l (at r c)) kinds.Ensure (at r c) (λ e. absurd cc) (less l (at r c) b i) (rises l.places (at r c) n (inside l (form_places r.place c) i))

a_method : (l : Where) (x : Bytes) (t : Tree) → Nested t → Begins t → Each (Under l) (places t) → IsNumbered (compiled_body l (in_body l t) kinds.Method x t)
a_method l x t n b i = a_body l (in_body l t) kinds.Method x t (λ e. absurd cc) (less l t b i) (rises l.places t n (inside l (places t) i))

a_class : (l : Where) (x : Bytes) (t : Tree) → Nested t → Begins t → Each (Under l) (places t) → IsNumbered (compiled_body l (in_body l t) kinds.Class x t)
a_class l x t n b i = a_body l (in_body l t) kinds.Class x t (λ e. absurd cc) (less l t b i) (rises l.places t n (inside l (places t) i))

a_block : (l : Where) (t : Tree) → Nested t → Begins t → Each (Under l) (places t) → IsNumbered (compiled_body l (in_block l t) kinds.Block [] t)
a_block l t n b i = a_body l (in_block l t) kinds.Block [] t (λ e. absurd cc) (less l t b i) (rises l.places t n (inside l (places t) i))

-- where the nodes of a sequence at p stand, all within it are behind it
under : (l : Where) (p : ℕ) (xs : List ℕ) → l.number ≡ sequence_number l.places p → Behind p xs → Inside l.places (p ∷ xs) → Each (Under l) xs
under l p xs e b i = turned (λ x h. (h.0, subst (λ k. k < sequence_number l.places x) (sym e) h.1)) (number_first l.places p xs b i)

mutual
  pub tree_is : (l : Where) (t : Tree) → Nested t → Each (Under l) (places t) → AreNumbered (sequences l t)
  tree_is l (at s f) n i = form_is l s.place f n i

  -- those in the tree of a sequence, whose nodes stand where l says
  begun_is : (l : Where) (s : SourcePosition) (f : Form) → FormNested s.place f → Begins (at s f) → l.number ≡ sequence_number l.places s.place → Inside l.places (form_places s.place f) → AreNumbered (form_sequences l f)
  begun_is l s (rescue_sequence cs) n b e i = clauses_are l cs n.0 (under l s.place (clauses_places cs) e n.1 i)
  begun_is l s (ensure_sequence a) n b e i = tree_is l a n.0 (under l s.place (places a) e n.1 i)
  begun_is l s (body ps t) n b e i = two (params_are l ps n.0.0) (tree_is l t n.0.1) (under l s.place (params_places ps ++ places t) e n.1 i)
  begun_is l s f n b e i = absurd cc

  form_is : (l : Where) (p : ℕ) (f : Form) → FormNested p f → Each (Under l) (form_places p f) → AreNumbered (form_sequences l f)
  form_is l p nil_value n i = none
  form_is l p true_value n i = none
  form_is l p false_value n i = none
  form_is l p (integer z) n i = none
  form_is l p (symbol x) n i = none
  form_is l p (text x) n i = none
  form_is l p self_value n i = none
  form_is l p file_name n i = none
  form_is l p folder_name n i = none
  form_is l p line_number n i = none
  form_is l p (local x) n i = none
  form_is l p (instance x) n i = none
  form_is l p (global x) n i = none
  form_is l p (joined ps) n i = pieces_are l ps n i
  form_is l p (array ts ks) n i = trees_are l ts n i
  form_is l p (hash ps) n i = pairs_are l ps n i
  form_is l p (range a c e) n i = two (tree_is l a n.0) (tree_is l c n.1) i
  form_is l p (constant_path o b xs) n i = other_is l o n i
  form_is l p (assign t g) n i = tree_is l t n i
  form_is l p (assign_all ts gs) n i = trees_are l ts n i
  form_is l p (assign_attribute a t m) n i = two (tree_is l a n.0) (tree_is l t n.1) i
  form_is l p (assign_index a j t) n i = two (tree_is l a n.0) (two (tree_is l j n.1.0) (tree_is l t n.1.1)) i
  form_is l p (operate_attribute a x t f m k) n i = two (tree_is l a n.0) (tree_is l t n.1) i
  form_is l p (or_attribute a x t m) n i = two (tree_is l a n.0) (tree_is l t n.1) i
  form_is l p (and_attribute a x t m) n i = two (tree_is l a n.0) (tree_is l t n.1) i
  form_is l p (operate_index a j t f k) n i = two (tree_is l a n.0) (two (tree_is l j n.1.0) (tree_is l t n.1.1)) i
  form_is l p (or_index a j t) n i = two (tree_is l a n.0) (two (tree_is l j n.1.0) (tree_is l t n.1.1)) i
  form_is l p (and_index a j t) n i = two (tree_is l a n.0) (two (tree_is l j n.1.0) (tree_is l t n.1.1)) i
  form_is l p (send o ts ks v x bare b) n i = two (other_is l o n.0) (two (trees_are l ts n.1.0) (two (other_is l v n.1.1.0) (block_is l b n.1.1.1))) i
  form_is l p (safe_send a ts ks v x b) n i = two (tree_is l a n.0) (two (trees_are l ts n.1.0) (two (other_is l v n.1.1.0) (block_is l b n.1.1.1))) i
  form_is l p (yield ts ks) n i = trees_are l ts n i
  form_is l p (super ts ks v b) n i = two (trees_are l ts n.0) (two (other_is l v n.1.0) (block_is l b n.1.1)) i
  form_is l p (bare_super b) n i = block_is l b n i
  form_is l p bare_raise n i = none
  form_is l p (statements ts) n i = trees_are l ts n i
  form_is l p (both a c) n i = two (tree_is l a n.0) (tree_is l c n.1) i
  form_is l p (either a c) n i = two (tree_is l a n.0) (tree_is l c n.1) i
  form_is l p (negated a) n i = tree_is l a n i
  form_is l p (if_else c a o) n i = two (tree_is l c n.0) (two (tree_is l a n.1.0) (other_is l o n.1.1)) i
  form_is l p (while_loop a c u b) n i = two (tree_is (looped l) a n.0) (tree_is l c n.1) i
  form_is l p (case_of a ws o) n i = two (tree_is l a n.0) (two (whens_are l ws n.1.0) (other_is l o n.1.1)) i
  form_is l p (case_tests ws o) n i = two (whens_are l ws n.0) (other_is l o n.1) i
  form_is l p (return_with ts) n i = trees_are l ts n i
  form_is l p (break_with ts) n i = trees_are l ts n i
  form_is l p (next_with ts) n i = trees_are l ts n i
  form_is l p retry n i = none
  form_is l p (rescue a o (at r c)) n i = two (tree_is l a n.0.0) (two (other_is l o n.0.1.0) (λ j. one_more (a_rescue l (at r c) n.0.1.1 n.1.0 j) (begun_is (in_rescue l (at r c)) r c n.0.1.1 n.1.0 refl (inside l (form_places r.place c) j)))) i
  form_is l p (ensure a (at r c)) n i = two (tree_is l a n.0.0) (λ j. one_more (an_ensure l (at r c) n.0.1 n.1.0 j) (begun_is (in_ensure l (at r c)) r c n.0.1 n.1.0 refl (inside l (form_places r.place c) j))) i
  form_is l p (rescue_sequence cs) n i = clauses_are l cs n.0 (of_inner p i)
  form_is l p (ensure_sequence a) n i = tree_is l a n.0 (of_inner p i)
  form_is l p (method x (at r t) b) n i = one_more (a_method l x (at r t) n.0 n.1 i) (begun_is (in_body l (at r t)) r t n.0 n.1 refl (inside l (form_places r.place t) i))
  form_is l p (class o x (at r t)) n i = two (other_is l o n.0) (λ j. one_more (a_class l x (at r t) n.1.0 n.1.1 j) (begun_is (in_body l (at r t)) r t n.1.0 n.1.1 refl (inside l (form_places r.place t) j))) i
  form_is l p (module_named x (at r t)) n i = one_more (a_class l x (at r t) n.0 n.1 i) (begun_is (in_body l (at r t)) r t n.0 n.1 refl (inside l (form_places r.place t) i))
  form_is l p (body ps t) n i = two (params_are l ps n.0.0) (tree_is l t n.0.1) (of_inner p i)

  block_is : (l : Where) (b : Other) → BlockNested b → Each (Under l) (other_places b) → AreNumbered (block_sequences l b)
  block_is l without n i = none
  block_is l (with (at r t)) n i = one_more (a_block l (at r t) n.0 n.1 i) (begun_is (in_block l (at r t)) r t n.0 n.1 refl (inside l (form_places r.place t) i))

  trees_are : (l : Where) (ts : Trees) → TreesNested ts → Each (Under l) (trees_places ts) → AreNumbered (trees_sequences l ts)
  trees_are l no_more n i = none
  trees_are l (more t ts) n i = two (tree_is l t n.0) (trees_are l ts n.1) i

  other_is : (l : Where) (o : Other) → OtherNested o → Each (Under l) (other_places o) → AreNumbered (other_sequences l o)
  other_is l without n i = none
  other_is l (with t) n i = tree_is l t n i

  pairs_are : (l : Where) (ps : Pairs) → PairsNested ps → Each (Under l) (pairs_places ps) → AreNumbered (pairs_sequences l ps)
  pairs_are l no_pair n i = none
  pairs_are l (pair t u ps) n i = two (tree_is l t n.0) (two (tree_is l u n.1.0) (pairs_are l ps n.1.1)) i

  pieces_are : (l : Where) (ps : Pieces) → PiecesNested ps → Each (Under l) (pieces_places ps) → AreNumbered (pieces_sequences l ps)
  pieces_are l no_piece n i = none
  pieces_are l (plain_piece x ps) n i = pieces_are l ps n i
  pieces_are l (code_piece t ps) n i = two (tree_is l t n.0) (pieces_are l ps n.1) i

  whens_are : (l : Where) (ws : Whens) → WhensNested ws → Each (Under l) (whens_places ws) → AreNumbered (whens_sequences l ws)
  whens_are l no_when n i = none
  whens_are l (when ts t ws) n i = two (trees_are l ts n.0) (two (tree_is l t n.1.0) (whens_are l ws n.1.1)) i

  clauses_are : (l : Where) (cs : Rescues) → ClausesNested cs → Each (Under l) (clauses_places cs) → AreNumbered (clauses_sequences l cs)
  clauses_are l no_clause n i = none
  clauses_are l (clause ts x t cs) n i = two (trees_are l ts n.0) (two (tree_is l t n.1.0) (clauses_are l cs n.1.1)) i

  params_are : (l : Where) (ps : Params) → ParamsNested ps → Each (Under l) (params_places ps) → AreNumbered (params_sequences l ps)
  params_are l no_param n i = none
  params_are l (required x ps) n i = params_are l ps n i
  params_are l (optional x t ps) n i = two (tree_is l t n.0) (params_are l ps n.1) i
  params_are l (rest_param x ps) n i = params_are l ps n i
  params_are l (block_param x ps) n i = params_are l ps n i
