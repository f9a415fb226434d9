-- The code of each tree is tidy.
use Rattle.std.proofs.Common.{◌≡◌, ℕ, suc, ◌+◌, ◌≤◌, ◌<◌, Bool, true, false, refl, arith, List, [], ◌∷◌, length, Option, Some, None}
use Rattle.std.specs.Prelude.{All}
use Rattle.std.proofs.lemmas.Bool.{lt-ltb}
use Rattle.ruby_tree.specs.Tree.{Goal, Tree, at, nil_value, true_value, false_value, integer, symbol, text, self_value, file_name, folder_name, line_number, local, instance, global, joined, array, hash, range, constant_path, assign, assign_all, assign_attribute, assign_index, operate_attribute, or_attribute, and_attribute, operate_index, or_index, and_index, send, safe_send, yield, super, bare_super, bare_raise, statements, both, either, negated, if_else, while_loop, case_of, case_tests, return_with, break_with, next_with, retry, rescue, ensure, rescue_sequence, ensure_sequence, method, class, module_named, body, Trees, no_more, more, Other, without, with, Pairs, no_pair, pair, Pieces, no_piece, plain_piece, code_piece, Whens, no_when, when, Rescues, no_clause, clause, Params, no_param, required, optional, rest_param, block_param}
use Rattle.ruby_tree.specs.Names.{Bytes}
use Rattle.iseq_types.specs.declared.instructions.Instr.{Instr}
use Rattle.iseq_types.specs.declared.instructions.Instr.TheVariants.{Send, InvokeSuper}
use Rattle.iseq_types.specs.declared.sequences.CatchKind.{CatchKind}
use Rattle.iseq_types.specs.declared.sequences.CatchKind.TheVariants as catches
use Rattle.ruby_meaning.specs.Locals.{params_of, names_of_params}
use Rattle.iseq_types.specs.Sound.{IsOrdered}
use Rattle.code_meaning.specs.Code.{finish, Shape, done, part, size, rows_of}
use Rattle.compile_table.specs.Order.{are_in_order, stands_by_kind}
use Rattle.compile_table.specs.Shapes.{Where, looped, number_of, sets, gets, named, turns, with_literal, count, own, receiver_flag, value_flag, bare_flag, self_flag, shape, params_shape, rest_shape, args_shape, pairs_shape, pieces_shape, value_shape, other_shape, last_shape, values_shape, patterns_shape, pattern_shape, cases_shape, tests_shape, test_shape, hits_shape, clauses_shape, clause_shape, classes_shape, bodies_shape}
use Rattle.compile_laws.specs.Rising.{Protects, direct, ensured, inner, first, Rises, TreesRise, OtherRises, PairsRise, PiecesRise, WhensRise, ClausesRise, ParamsRise}
use Rattle.compile_laws.proofs.RowsOrder.{rows_ordered, rows_inside, Tops, Tidy, rows_in_order}

-- ---- no code is empty

mutual
  pos : (l : Where) (t : Tree) → 0 < size (shape l t)
  pos l (at s (nil_value)) = omega arith
  pos l (at s (true_value)) = omega arith
  pos l (at s (false_value)) = omega arith
  pos l (at s (integer i)) = omega arith
  pos l (at s (symbol x)) = omega arith
  pos l (at s (text x)) = omega arith
  pos l (at s (self_value)) = omega arith
  pos l (at s (file_name)) = omega arith
  pos l (at s (folder_name)) = omega arith
  pos l (at s (line_number)) = omega arith
  pos l (at s (local x)) = omega arith
  pos l (at s (instance x)) = omega arith
  pos l (at s (global x)) = omega arith
  pos l (at s (assign_attribute a t m)) = omega arith
  pos l (at s (assign_index a i t)) = omega arith
  pos l (at s (operate_attribute a x t f m n)) = omega arith
  pos l (at s (or_attribute a x t m)) = omega arith
  pos l (at s (and_attribute a x t m)) = omega arith
  pos l (at s (operate_index a i t f n)) = omega arith
  pos l (at s (or_index a i t)) = omega arith
  pos l (at s (and_index a i t)) = omega arith
  pos l (at s (super ts ks v t)) = omega arith
  pos l (at s (bare_super t)) = omega arith
  pos l (at s (bare_raise)) = omega arith
  pos l (at s (retry)) = omega arith
  pos l (at s (method x t f)) = omega arith
  pos l (at s (class without x t)) = omega arith
  pos l (at s (module_named x t)) = omega arith
  pos l (at s (joined ps)) = pieces_pos l _ 0 ps _ (omega arith)
  pos l (at s (array ts ks)) = args_pos l 0 ts _ (omega arith)
  pos l (at s (hash ps)) = pairs_pos l 0 ps _ (omega arith)
  pos l (at s (range a c e)) = let e = pos l a in omega arith
  pos l (at s (constant_path without top xs)) = omega arith
  pos l (at s (constant_path (with t) top xs)) = omega arith
  pos l (at s (assign t g)) = omega arith
  pos l (at s (assign_all ts gs)) = values_pos l ts _ _ (omega arith)
  pos l (at s (send without ts ks v x bare t)) = omega arith
  pos l (at s (send (with a) ts ks v x bare t)) = let e = pos l a in omega arith
  pos l (at s (safe_send a ts ks v x t)) = omega arith
  pos l (at s (yield ts ks)) = args_pos l 0 ts _ (omega arith)
  pos l (at s (statements no_more)) = omega arith
  pos l (at s (statements (more t ts))) = let e = pos l t in omega arith
  pos l (at s (both a c)) = omega arith
  pos l (at s (either a c)) = omega arith
  pos l (at s (negated a)) = omega arith
  pos l (at s (if_else c a o)) = omega arith
  pos l (at s (while_loop a c u false)) = omega arith
  pos l (at s (while_loop a c u true)) = omega arith
  pos l (at s (case_of a ws o)) = let e = pos l a in omega arith
  pos l (at s (case_tests ws o)) = tests_pos l _ ws _ _ (omega arith)
  pos l (at s (return_with ts)) = values_pos l ts _ _ (omega arith)
  pos l (at s (break_with ts)) = values_pos l ts _ _ (omega arith)
  pos l (at s (next_with ts)) = values_pos l ts _ _ (omega arith)
  pos l (at s (rescue a o c)) = let e = pos l a in omega arith
  pos l (at s (ensure a c)) = omega arith
  pos l (at s (rescue_sequence cs)) = clauses_pos l cs _ 0 _ (omega arith)
  pos l (at s (ensure_sequence a)) = omega arith
  pos l (at s (class (with c) x t)) = omega arith
  pos l (at s (body ps t)) = params_pos l ps _ (omega arith)

  args_pos : (l : Where) (d : ℕ) (ts : Trees) (k : Shape) → 0 < size k → 0 < size (args_shape l d ts k)
  args_pos l d no_more k e = e
  args_pos l d (more t ts) k e = let f = args_pos l (suc d) ts k e in omega arith

  pairs_pos : (l : Where) (d : ℕ) (ps : Pairs) (k : Shape) → 0 < size k → 0 < size (pairs_shape l d ps k)
  pairs_pos l d no_pair k e = e
  pairs_pos l d (pair t u ps) k e = let f = pairs_pos l (suc (suc d)) ps k e in omega arith

  pieces_pos : (l : Where) (line d : ℕ) (ps : Pieces) (k : Shape) → 0 < size k → 0 < size (pieces_shape l line d ps k)
  pieces_pos l line d no_piece k e = e
  pieces_pos l line d (plain_piece x ps) k e = omega arith
  pieces_pos l line d (code_piece t ps) k e = omega arith

  values_pos : (l : Where) (ts : Trees) (line : ℕ) (k : Shape) → 0 < size k → 0 < size (values_shape l ts line k)
  values_pos l no_more line k e = omega arith
  values_pos l (more t no_more) line k e = omega arith
  values_pos l (more t (more u us)) line k e = let f = pos l t in omega arith

  tests_pos : (l : Where) (line : ℕ) (ws : Whens) (far : ℕ) (k : Shape) → 0 < size k → 0 < size (tests_shape l line ws far k)
  tests_pos l line no_when far k e = e
  tests_pos l line (when ts t ws) far k e = test_pos l line ts _ _ (tests_pos l line ws _ k e)

  test_pos : (l : Where) (line : ℕ) (ts : Trees) (far : ℕ) (k : Shape) → 0 < size k → 0 < size (test_shape l line ts far k)
  test_pos l line no_more far k e = e
  test_pos l line (more t ts) far k e = omega arith

  clauses_pos : (l : Where) (cs : Rescues) (line far : ℕ) (k : Shape) → 0 < size k → 0 < size (clauses_shape l cs line far k)
  clauses_pos l no_clause line far k e = e
  clauses_pos l (clause no_more x t cs) line far k e = omega arith
  clauses_pos l (clause (more u us) x t cs) line far k e = omega arith

  params_pos : (l : Where) (ps : Params) (k : Shape) → 0 < size k → 0 < size (params_shape l ps k)
  params_pos l no_param k e = e
  params_pos l (required x ps) k e = params_pos l ps k e
  params_pos l (optional x t ps) k e = omega arith
  params_pos l (rest_param x ps) k e = params_pos l ps k e
  params_pos l (block_param x ps) k e = params_pos l ps k e

  patterns_pos : (l : Where) (line : ℕ) (ws : Whens) (far : ℕ) (k : Shape) → 0 < size k → 0 < size (patterns_shape l line ws far k)
  patterns_pos l line no_when far k e = e
  patterns_pos l line (when ts t ws) far k e = pattern_pos l line ts _ _ (patterns_pos l line ws _ k e)

  pattern_pos : (l : Where) (line : ℕ) (ts : Trees) (far : ℕ) (k : Shape) → 0 < size k → 0 < size (pattern_shape l line ts far k)
  pattern_pos l line no_more far k e = e
  pattern_pos l line (more t ts) far k e = omega arith

other_pos : (l : Where) (o : Other) → 0 < size (other_shape l o)
other_pos l without = omega arith
other_pos l (with t) = pos l t

literal_pos : (l : Where) (line : ℕ) (call : ℕ → Instr) (t : Other) → 0 < size (with_literal l line call t)
literal_pos l line call without = omega arith
literal_pos l line call (with t) = omega arith

value_pos : (l : Where) (d : ℕ) (v : Other) (k : Shape) → 0 < size k → 0 < size (value_shape l d v k)
value_pos l d without k e = e
value_pos l d (with t) k e = let f = pos l t in omega arith

call_pos : (l : Where) (d : ℕ) (ts : Trees) (m : ℕ) (v : Other) (line : ℕ) (call : ℕ → Instr) (t : Other) → 0 < size (args_shape l d ts (value_shape l m v (with_literal l line call t)))
call_pos l d ts m v line call t = args_pos l d ts _ (value_pos l m v _ (literal_pos l line call t))

-- ---- only rescue and ensure rows lie over the whole code of a tree

module _ (P : CatchKind → ℕ → Type 0) where
  args_tops : (l : Where) (d : ℕ) (ts : Trees) (k : Shape) → 0 < size k → Tops P k → Tops P (args_shape l d ts k)
  args_tops l d no_more k e o = o
  args_tops l d (more t ts) k e o = λ z. let f = args_pos l (suc d) ts k e in absurd (omega (arith, z))

  pairs_tops : (l : Where) (d : ℕ) (ps : Pairs) (k : Shape) → 0 < size k → Tops P k → Tops P (pairs_shape l d ps k)
  pairs_tops l d no_pair k e o = o
  pairs_tops l d (pair t u ps) k e o = λ z. let f = pairs_pos l (suc (suc d)) ps k e in absurd (omega (arith, z))

  pieces_tops : (l : Where) (line d : ℕ) (ps : Pieces) (k : Shape) → Tops P k → Tops P (pieces_shape l line d ps k)
  pieces_tops l line d no_piece k o = o
  pieces_tops l line d (plain_piece x ps) k o = tt
  pieces_tops l line d (code_piece t ps) k o = λ z. absurd (omega (arith, z))

  values_tops : (l : Where) (ts : Trees) (line : ℕ) (k : Shape) → 0 < size k → Tops P (values_shape l ts line k)
  values_tops l no_more line k e = tt
  values_tops l (more t no_more) line k e = λ z. absurd (omega (arith, z))
  values_tops l (more t (more u us)) line k e = λ z. let f = pos l u in absurd (omega (arith, z))

  test_tops : (l : Where) (line : ℕ) (ts : Trees) (far : ℕ) (k : Shape) → Tops P k → Tops P (test_shape l line ts far k)
  test_tops l line no_more far k o = o
  test_tops l line (more t ts) far k o = λ z. absurd (omega (arith, z))

  tests_tops : (l : Where) (line : ℕ) (ws : Whens) (far : ℕ) (k : Shape) → Tops P k → Tops P (tests_shape l line ws far k)
  tests_tops l line no_when far k o = o
  tests_tops l line (when ts t ws) far k o = test_tops l line ts _ _ (tests_tops l line ws _ k o)

  clauses_tops : (l : Where) (cs : Rescues) (line far : ℕ) (k : Shape) → Tops P k → Tops P (clauses_shape l cs line far k)
  clauses_tops l no_clause line far k o = o
  clauses_tops l (clause no_more x t cs) line far k o = tt
  clauses_tops l (clause (more u us) x t cs) line far k o = tt

  params_tops : (l : Where) (ps : Params) (k : Shape) → Tops P k → Tops P (params_shape l ps k)
  params_tops l no_param k o = o
  params_tops l (required x ps) k o = params_tops l ps k o
  params_tops l (optional x t ps) k o = λ z. absurd (omega (arith, z))
  params_tops l (rest_param x ps) k o = params_tops l ps k o
  params_tops l (block_param x ps) k o = params_tops l ps k o

  patterns_tops : (l : Where) (a : Shape) (line : ℕ) (ws : Whens) (far : ℕ) (k : Shape) → 0 < size k → Tops P (part 0 a (patterns_shape l line ws far k))
  patterns_tops l a line ws far k e = λ z. let f = patterns_pos l line ws far k e in absurd (omega (arith, z))

  tree_tops : (l : Where) (t : Tree) → ((d : Tree) → Protects d t → P catches.Rescue (number_of l d) × P catches.Ensure (number_of l d)) → Tops P (shape l t)
  tree_tops l (at s (nil_value)) g = tt
  tree_tops l (at s (true_value)) g = tt
  tree_tops l (at s (false_value)) g = tt
  tree_tops l (at s (integer i)) g = tt
  tree_tops l (at s (symbol x)) g = tt
  tree_tops l (at s (text x)) g = tt
  tree_tops l (at s (self_value)) g = tt
  tree_tops l (at s (file_name)) g = tt
  tree_tops l (at s (folder_name)) g = tt
  tree_tops l (at s (line_number)) g = tt
  tree_tops l (at s (local x)) g = tt
  tree_tops l (at s (instance x)) g = tt
  tree_tops l (at s (global x)) g = tt
  tree_tops l (at s (assign_attribute a t m)) g = tt
  tree_tops l (at s (assign_index a i t)) g = tt
  tree_tops l (at s (operate_attribute a x t f m n)) g = tt
  tree_tops l (at s (or_attribute a x t m)) g = tt
  tree_tops l (at s (and_attribute a x t m)) g = tt
  tree_tops l (at s (operate_index a i t f n)) g = tt
  tree_tops l (at s (or_index a i t)) g = tt
  tree_tops l (at s (and_index a i t)) g = tt
  tree_tops l (at s (super ts ks v t)) g = tt
  tree_tops l (at s (bare_super t)) g = tt
  tree_tops l (at s (bare_raise)) g = tt
  tree_tops l (at s (retry)) g = tt
  tree_tops l (at s (method x t f)) g = tt
  tree_tops l (at s (class without x t)) g = tt
  tree_tops l (at s (module_named x t)) g = tt
  tree_tops l (at s (joined ps)) g = pieces_tops l _ 0 ps _ tt
  tree_tops l (at s (array ts ks)) g = args_tops l 0 ts _ (omega arith) tt
  tree_tops l (at s (hash ps)) g = pairs_tops l 0 ps _ (omega arith) tt
  tree_tops l (at s (constant_path without top xs)) g = tt
  tree_tops l (at s (assign_all ts gs)) g = values_tops l ts _ _ (omega arith)
  tree_tops l (at s (send without ts ks v x bare t)) g = tt
  tree_tops l (at s (send (with a) ts ks v x bare t)) g = λ z. let e = call_pos l 1 ts (suc (count ts)) v (own l s) (Send x (count ts) ks (receiver_flag (with a) + value_flag v + bare_flag bare)) t in absurd (omega (arith, z))
  tree_tops l (at s (yield ts ks)) g = args_tops l 0 ts _ (omega arith) tt
  tree_tops l (at s (statements no_more)) g = tt
  tree_tops l (at s (statements (more t ts))) g = λ z. tree_tops l t (λ d e. g d (first s t ts e))
  tree_tops l (at s (while_loop a c u false)) g = tt
  tree_tops l (at s (case_of a ws o)) g = patterns_tops l (shape l a) _ ws _ _ (omega arith)
  tree_tops l (at s (case_tests ws o)) g = tests_tops l _ ws _ _ (λ z. absurd (omega (arith, z)))
  tree_tops l (at s (return_with ts)) g = values_tops l ts _ _ (omega arith)
  tree_tops l (at s (break_with ts)) g = values_tops l ts _ _ (omega arith)
  tree_tops l (at s (next_with ts)) g = values_tops l ts _ _ (omega arith)
  tree_tops l (at s (rescue a o c)) g = λ z. ((g c (direct s a o)).0, tree_tops l a (λ d e. g d (inner s a o c e)))
  tree_tops l (at s (ensure a c)) g = λ z. ((g c (ensured s a)).1, λ y. absurd (omega (arith, y)))
  tree_tops l (at s (rescue_sequence cs)) g = clauses_tops l cs _ 0 _ tt
  tree_tops l (at s (body ps t)) g = params_tops l ps _ (λ z. absurd (omega (arith, z)))
  tree_tops l (at s (range a c e)) g = λ z. absurd (omega (arith, z))
  tree_tops l (at s (constant_path (with t) top xs)) g = λ z. absurd (omega (arith, z))
  tree_tops l (at s (assign t g1)) g = λ z. absurd (omega (arith, z))
  tree_tops l (at s (safe_send a ts ks v x t)) g = λ z. absurd (omega (arith, z))
  tree_tops l (at s (both a c)) g = λ z. absurd (omega (arith, z))
  tree_tops l (at s (either a c)) g = λ z. absurd (omega (arith, z))
  tree_tops l (at s (negated a)) g = λ z. absurd (omega (arith, z))
  tree_tops l (at s (if_else c a o)) g = λ z. absurd (omega (arith, z))
  tree_tops l (at s (while_loop a c u true)) g = λ z. absurd (omega (arith, z))
  tree_tops l (at s (ensure_sequence a)) g = λ z. absurd (omega (arith, z))
  tree_tops l (at s (class (with c) x t)) g = λ z. absurd (omega (arith, z))

-- ---- the code is tidy

sets_tidy : (l : Where) (line : ℕ) (gs : List Goal) (k : Shape) → Tidy k → Tidy (sets l line gs k)
sets_tidy l line [] k e = e
sets_tidy l line (g ∷ gs) k e = sets_tidy l line gs k e

gets_tidy : (l : Where) (line : ℕ) (xs : List Bytes) (k : Shape) → Tidy k → Tidy (gets l line xs k)
gets_tidy l line [] k e = e
gets_tidy l line (x ∷ xs) k e = gets_tidy l line xs k e

named_tidy : (l : Where) (line : ℕ) (x : Option Bytes) (k : Shape) → Tidy k → Tidy (named l line x k)
named_tidy l line None k e = e
named_tidy l line (Some x) k e = e

literal_tidy : (l : Where) (line : ℕ) (call : ℕ → Instr) (t : Other) → Tidy (with_literal l line call t)
literal_tidy l line call without = tt
literal_tidy l line call (with t) = (omega arith, tt, tt, tt)

-- the rows over the whole of a protected tree stand before a row of this kind
under_break : (l : Where) (t : Tree) → Tops (λ m n. stands_by_kind m n catches.Break 0 ≡ true) (shape l t)
under_break l t = tree_tops (λ m n. stands_by_kind m n catches.Break 0 ≡ true) l t (λ d e. (refl, refl))

under_next : (l : Where) (t : Tree) → Tops (λ m n. stands_by_kind m n catches.Next 0 ≡ true) (shape l t)
under_next l t = tree_tops (λ m n. stands_by_kind m n catches.Next 0 ≡ true) l t (λ d e. (refl, refl))

turns_tidy : (l : Where) (line : ℕ) (u : Bool) (a : Tree) (c : Shape) → 0 < size c → Tidy (shape l a) → Tidy c → Tidy (turns line u (shape l a) c)
turns_tidy l line u a c e f g =
    (let n = pos l a in omega arith, (pos l a, f, tt, under_break l a), (e, g, tt), λ z. (refl, under_next l a))

mutual
  tidy : (l : Where) (t : Tree) → Rises l.places t → Tidy (shape l t)
  tidy l (at s (nil_value)) r = tt
  tidy l (at s (true_value)) r = tt
  tidy l (at s (false_value)) r = tt
  tidy l (at s (integer i)) r = tt
  tidy l (at s (symbol x)) r = tt
  tidy l (at s (text x)) r = tt
  tidy l (at s (self_value)) r = tt
  tidy l (at s (file_name)) r = tt
  tidy l (at s (folder_name)) r = tt
  tidy l (at s (line_number)) r = tt
  tidy l (at s (local x)) r = tt
  tidy l (at s (instance x)) r = tt
  tidy l (at s (global x)) r = tt
  tidy l (at s (bare_raise)) r = tt
  tidy l (at s (retry)) r = tt
  tidy l (at s (method x t f)) r = tt
  tidy l (at s (class without x t)) r = tt
  tidy l (at s (module_named x t)) r = tt
  tidy l (at s (constant_path without top xs)) r = tt
  tidy l (at s (joined ps)) r = pieces_tidy l _ 0 ps _ r tt
  tidy l (at s (array ts ks)) r = args_tidy l 0 ts _ r tt
  tidy l (at s (hash ps)) r = pairs_tidy l 0 ps _ r tt
  tidy l (at s (range a c e)) r = (pos l a, tidy l a r.0, (pos l c, tidy l c r.1, tt))
  tidy l (at s (constant_path (with t) top xs)) r = (pos l t, tidy l t r, tt)
  tidy l (at s (assign t g)) r = (pos l t, tidy l t r, tt)
  tidy l (at s (assign_all ts gs)) r = values_tidy l ts _ _ r (sets_tidy l _ gs done tt)
  tidy l (at s (assign_attribute a t m)) r = (pos l a, tidy l a r.0, (pos l t, tidy l t r.1, tt))
  tidy l (at s (assign_index a i t)) r = (pos l a, tidy l a r.0, (pos l i, tidy l i r.1, (pos l t, tidy l t r.2, tt)))
  tidy l (at s (operate_attribute a x t f m n)) r = (pos l a, tidy l a r.0, (pos l t, tidy l t r.1, tt))
  tidy l (at s (or_attribute a x t m)) r = (pos l a, tidy l a r.0, (pos l t, tidy l t r.1, tt))
  tidy l (at s (and_attribute a x t m)) r = (pos l a, tidy l a r.0, (pos l t, tidy l t r.1, tt))
  tidy l (at s (operate_index a i t f n)) r = (pos l a, tidy l a r.0, (pos l i, tidy l i r.1, (pos l t, tidy l t r.2, tt)))
  tidy l (at s (or_index a i t)) r = (pos l a, tidy l a r.0, (pos l i, tidy l i r.1, (pos l t, tidy l t r.2, tt)))
  tidy l (at s (and_index a i t)) r = (pos l a, tidy l a r.0, (pos l i, tidy l i r.1, (pos l t, tidy l t r.2, tt)))
  tidy l (at s (send without ts ks v x bare t)) r = args_tidy l 1 ts _ r.1 (value_tidy l _ v _ r.2 (literal_tidy l (own l s) (Send x (count ts) ks (receiver_flag without + value_flag v + bare_flag bare)) t))
  tidy l (at s (send (with a) ts ks v x bare t)) r = (pos l a, tidy l a r.0, args_tidy l 1 ts _ r.1 (value_tidy l _ v _ r.2 (literal_tidy l (own l s) (Send x (count ts) ks (receiver_flag (with a) + value_flag v + bare_flag bare)) t)))
  tidy l (at s (safe_send a ts ks v x t)) r = (pos l a, tidy l a r.0, args_tidy l 1 ts _ r.1 (value_tidy l _ v _ r.2 (literal_tidy l (own l s) (Send x (count ts) ks (self_flag a + value_flag v)) t)))
  tidy l (at s (yield ts ks)) r = args_tidy l 0 ts _ r tt
  tidy l (at s (super ts ks v t)) r = args_tidy l 1 ts _ r.0 (value_tidy l _ v _ r.1 (literal_tidy l (own l s) (InvokeSuper (count ts) ks (1 + value_flag v)) t))
  tidy l (at s (bare_super t)) r = gets_tidy l _ (names_of_params (params_of l.sight.body)) _ (literal_tidy l (own l s) (InvokeSuper (length (names_of_params (params_of l.sight.body))) [] 1) t)
  tidy l (at s (statements no_more)) r = tt
  tidy l (at s (statements (more t ts))) r = (pos l t, tidy l t r.0, rest_tidy l _ ts r.1)
  tidy l (at s (both a c)) r = (pos l a, tidy l a r.0, (pos l c, tidy l c r.1, tt))
  tidy l (at s (either a c)) r = (pos l a, tidy l a r.0, (pos l c, tidy l c r.1, tt))
  tidy l (at s (negated a)) r = (pos l a, tidy l a r, tt)
  tidy l (at s (if_else c a o)) r = (pos l c, tidy l c r.0, (pos l a, tidy l a r.1, (other_pos l o, other_tidy l o r.2, tt)))
  tidy l (at s (while_loop a c u false)) r = turns_tidy (looped l) (own l s) u a (shape l c) (pos l c) (tidy (looped l) a r.0) (tidy l c r.1)
  tidy l (at s (while_loop a c u true)) r = turns_tidy (looped l) (own l s) u a (shape l c) (pos l c) (tidy (looped l) a r.0) (tidy l c r.1)
  tidy l (at s (case_of a ws o)) r = (pos l a, tidy l a r.0, patterns_tidy l _ ws _ _ r.1 (other_pos l o, other_tidy l o r.2, cases_tidy l _ ws r.1))
  tidy l (at s (case_tests ws o)) r = tests_tidy l _ ws _ _ r.0 (other_pos l o, other_tidy l o r.1, hits_tidy l _ ws r.0)
  tidy l (at s (return_with ts)) r = values_tidy l ts _ _ r tt
  tidy l (at s (break_with ts)) r = values_tidy l ts _ _ r tt
  tidy l (at s (next_with ts)) r = values_tidy l ts _ _ r tt
  tidy l (at s (rescue a o c)) r =
      (pos l a, tidy l a r.0, last_tidy l _ o r.1, tree_tops (λ m n. stands_by_kind m n catches.Rescue (number_of l c) ≡ true) l a (λ d e. (lt-ltb _ _ (r.2 d e), lt-ltb _ _ (r.2 d e))))
  tidy l (at s (ensure a c)) r = (omega arith, (pos l a, tidy l a r, tt), tt, λ z. absurd (omega (arith, z)))
  tidy l (at s (rescue_sequence cs)) r = clauses_tidy l cs _ 0 _ r (bodies_tidy l cs _ r)
  tidy l (at s (ensure_sequence a)) r = (pos l a, tidy l a r, tt)
  tidy l (at s (class (with c) x t)) r = (pos l c, tidy l c r, tt)
  tidy l (at s (body ps t)) r = params_tidy l ps _ r.0 (pos l t, tidy l t r.1, tt)

  args_tidy : (l : Where) (d : ℕ) (ts : Trees) (k : Shape) → TreesRise l.places ts → Tidy k → Tidy (args_shape l d ts k)
  args_tidy l d no_more k r e = e
  args_tidy l d (more t ts) k r e = (pos l t, tidy l t r.0, args_tidy l (suc d) ts k r.1 e)

  rest_tidy : (l : Where) (line : ℕ) (ts : Trees) → TreesRise l.places ts → Tidy (rest_shape l line ts)
  rest_tidy l line no_more r = tt
  rest_tidy l line (more t ts) r = (pos l t, tidy l t r.0, rest_tidy l line ts r.1)

  pairs_tidy : (l : Where) (d : ℕ) (ps : Pairs) (k : Shape) → PairsRise l.places ps → Tidy k → Tidy (pairs_shape l d ps k)
  pairs_tidy l d no_pair k r e = e
  pairs_tidy l d (pair t u ps) k r e = (pos l t, tidy l t r.0, (pos l u, tidy l u r.1, pairs_tidy l (suc (suc d)) ps k r.2 e))

  pieces_tidy : (l : Where) (line d : ℕ) (ps : Pieces) (k : Shape) → PiecesRise l.places ps → Tidy k → Tidy (pieces_shape l line d ps k)
  pieces_tidy l line d no_piece k r e = e
  pieces_tidy l line d (plain_piece x ps) k r e = pieces_tidy l line (suc d) ps k r e
  pieces_tidy l line d (code_piece t ps) k r e = (pos l t, tidy l t r.0, pieces_tidy l line (suc d) ps k r.1 e)

  value_tidy : (l : Where) (d : ℕ) (v : Other) (k : Shape) → OtherRises l.places v → Tidy k → Tidy (value_shape l d v k)
  value_tidy l d without k r e = e
  value_tidy l d (with t) k r e = (pos l t, tidy l t r, e)

  other_tidy : (l : Where) (o : Other) → OtherRises l.places o → Tidy (other_shape l o)
  other_tidy l without r = tt
  other_tidy l (with t) r = tidy l t r

  last_tidy : (l : Where) (line : ℕ) (o : Other) → OtherRises l.places o → Tidy (last_shape l line o)
  last_tidy l line without r = tt
  last_tidy l line (with t) r = (pos l t, tidy l t r, tt)

  values_tidy : (l : Where) (ts : Trees) (line : ℕ) (k : Shape) → TreesRise l.places ts → Tidy k → Tidy (values_shape l ts line k)
  values_tidy l no_more line k r e = e
  values_tidy l (more t no_more) line k r e = (pos l t, tidy l t r.0, e)
  values_tidy l (more t (more u us)) line k r e = (pos l t, tidy l t r.0, (pos l u, tidy l u r.1.0, args_tidy l 2 us _ r.1.1 e))

  patterns_tidy : (l : Where) (line : ℕ) (ws : Whens) (far : ℕ) (k : Shape) → WhensRise l.places ws → Tidy k → Tidy (patterns_shape l line ws far k)
  patterns_tidy l line no_when far k r e = e
  patterns_tidy l line (when ts t ws) far k r e = pattern_tidy l line ts _ _ r.0 (patterns_tidy l line ws _ k r.2 e)

  pattern_tidy : (l : Where) (line : ℕ) (ts : Trees) (far : ℕ) (k : Shape) → TreesRise l.places ts → Tidy k → Tidy (pattern_shape l line ts far k)
  pattern_tidy l line no_more far k r e = e
  pattern_tidy l line (more t ts) far k r e = (pos l t, tidy l t r.0, pattern_tidy l line ts far k r.1 e)

  cases_tidy : (l : Where) (line : ℕ) (ws : Whens) → WhensRise l.places ws → Tidy (cases_shape l line ws)
  cases_tidy l line no_when r = tt
  cases_tidy l line (when ts t ws) r = (pos l t, tidy l t r.1, cases_tidy l line ws r.2)

  tests_tidy : (l : Where) (line : ℕ) (ws : Whens) (far : ℕ) (k : Shape) → WhensRise l.places ws → Tidy k → Tidy (tests_shape l line ws far k)
  tests_tidy l line no_when far k r e = e
  tests_tidy l line (when ts t ws) far k r e = test_tidy l line ts _ _ r.0 (tests_tidy l line ws _ k r.2 e)

  test_tidy : (l : Where) (line : ℕ) (ts : Trees) (far : ℕ) (k : Shape) → TreesRise l.places ts → Tidy k → Tidy (test_shape l line ts far k)
  test_tidy l line no_more far k r e = e
  test_tidy l line (more t ts) far k r e = (pos l t, tidy l t r.0, test_tidy l line ts far k r.1 e)

  hits_tidy : (l : Where) (line : ℕ) (ws : Whens) → WhensRise l.places ws → Tidy (hits_shape l line ws)
  hits_tidy l line no_when r = tt
  hits_tidy l line (when ts t ws) r = (pos l t, tidy l t r.1, hits_tidy l line ws r.2)

  clauses_tidy : (l : Where) (cs : Rescues) (line far : ℕ) (k : Shape) → ClausesRise l.places cs → Tidy k → Tidy (clauses_shape l cs line far k)
  clauses_tidy l no_clause line far k r e = e
  clauses_tidy l (clause ts x t cs) line far k r e = clause_tidy l ts line _ _ r.0 (clauses_tidy l cs line _ k r.2 e)

  clause_tidy : (l : Where) (ts : Trees) (line far : ℕ) (k : Shape) → TreesRise l.places ts → Tidy k → Tidy (clause_shape l ts line far k)
  clause_tidy l no_more line far k r e = e
  clause_tidy l (more t ts) line far k r e = (pos l t, tidy l t r.0, classes_tidy l ts line far k r.1 e)

  classes_tidy : (l : Where) (ts : Trees) (line far : ℕ) (k : Shape) → TreesRise l.places ts → Tidy k → Tidy (classes_shape l ts line far k)
  classes_tidy l no_more line far k r e = e
  classes_tidy l (more t ts) line far k r e = (pos l t, tidy l t r.0, classes_tidy l ts line far k r.1 e)

  bodies_tidy : (l : Where) (cs : Rescues) (line : ℕ) → ClausesRise l.places cs → Tidy (bodies_shape l cs line)
  bodies_tidy l no_clause line r = tt
  bodies_tidy l (clause ts x t cs) line r = named_tidy l line x _ (pos l t, tidy l t r.1, bodies_tidy l cs line r.2)

  params_tidy : (l : Where) (ps : Params) (k : Shape) → ParamsRise l.places ps → Tidy k → Tidy (params_shape l ps k)
  params_tidy l no_param k r e = e
  params_tidy l (required x ps) k r e = params_tidy l ps k r e
  params_tidy l (optional x t ps) k r e = (pos l t, tidy l t r.0, params_tidy l ps k r.1 e)
  params_tidy l (rest_param x ps) k r e = params_tidy l ps k r e
  params_tidy l (block_param x ps) k r e = params_tidy l ps k r e

pub in_order : (l : Where) (t : Tree) (h p : ℕ) → Rises l.places t → are_in_order (rows_of h p (shape l t)) ≡ true
in_order l t h p r = rows_in_order (shape l t) h p (tidy l t r)

pub ordered : (l : Where) (t : Tree) (h p : ℕ) → Rises l.places t → All IsOrdered (rows_of h p (shape l t))
ordered l t h p r = rows_ordered (shape l t) h p (tidy l t r)

pub inside : (l : Where) (t : Tree) (h p : ℕ) → Rises l.places t → All (λ row. (p ≤ row.from) × (row.to ≤ finish p (shape l t))) (rows_of h p (shape l t))
inside l t h p r = rows_inside (shape l t) h p (tidy l t r)
