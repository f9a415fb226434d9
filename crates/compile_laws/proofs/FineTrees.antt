-- The code of each tree has operands that are right, where its locals are held and its sequences are known.
use Rattle.std.proofs.Common.{◌≡◌, ℕ, suc, ◌+◌, ◌*◌, ◌%◌, ◌≤◌, ◌<◌, ◌⊎◌, inl, inr, Bool, true, false, refl, sym, subst, ◌∙◌, arith, List, [], ◌∷◌, ◌++◌, length, Some, None}
use Rattle.std.specs.Prelude.{⊤, codes, slice_get}
use Rattle.std.specs.List.{AllByRecursion}
use Rattle.std.proofs.lemmas.List.Elements.{All-nil}
use Rattle.ruby_tree.specs.Names.{Bytes}
use Rattle.ruby_tree.specs.Tree.{Tree, at, nil_value, true_value, false_value, integer, symbol, text, self_value, file_name, folder_name, line_number, local, instance, global, joined, array, hash, range, constant_path, assign, assign_all, assign_attribute, assign_index, operate_attribute, or_attribute, and_attribute, operate_index, or_index, and_index, send, safe_send, yield, super, bare_super, bare_raise, statements, both, either, negated, if_else, while_loop, case_of, case_tests, return_with, break_with, next_with, retry, rescue, ensure, rescue_sequence, ensure_sequence, method, class, module_named, body, Trees, no_more, more, Other, without, with, Pairs, no_pair, pair, Pieces, no_piece, plain_piece, code_piece, Whens, no_when, when, Rescues, no_clause, clause, Params, no_param, required, optional, rest_param, block_param}
use Rattle.iseq_types.specs.declared.instructions.Instr.{Instr}
use Rattle.iseq_types.specs.declared.instructions.Instr.TheVariants.{PutNil, Send, InvokeSuper, Throw, Leave, BranchIf, BranchUnless, NewRange, DefineMethod, DefineClass}
use Rattle.iseq_types.specs.declared.sequences.IndexRow.{IndexRow}
use Rattle.iseq_types.specs.declared.sequences.SeqKind.{SeqKind}
use Rattle.iseq_types.specs.declared.sequences.SeqKind.TheVariants as kinds
use Rattle.iseq_types.specs.Index.{IsChild}
use Rattle.ruby_meaning.specs.Levels.{AllHeld, IsHoused, TreesHoused, OtherHoused, PairsHoused, PiecesHoused, WhensHoused, ClausesHoused, ParamsHoused}
use Rattle.ruby_meaning.specs.Locals.{params_of, names_of_params}
use Rattle.code_meaning.specs.Code.{Shape, done, op, ahead, part, size}
use Rattle.compile_table.specs.Shapes.{Where, looped, plain_send, set_by_send, number_of, count, count_pairs, gets, self_flag, receiver_flag, value_flag, bare_flag, throw_by, with_literal, open_end, on_self, own, start, line_at, in_rescue, in_ensure, shape, params_shape, all_shape, rest_shape, args_shape, pairs_shape, pieces_shape, path_shape, receiver_shape, value_shape, other_shape, last_shape, values_shape, patterns_shape, pattern_shape, cases_shape, tests_shape, test_shape, hits_shape, clauses_shape, clause_shape, classes_shape, bodies_shape}
use Rattle.compile_table.specs.Sequences.{Compiled, compiled_body, compiled_part, in_body, in_block, index_row, sequences, block_sequences, trees_sequences, other_sequences, pairs_sequences, pieces_sequences, whens_sequences, clauses_sequences, params_sequences}
use Rattle.tree_laws.specs.Formed.{IsFormed, IsBody, IsRescuePart, IsEnsurePart, TreesFormed, OtherFormed, PairsFormed, PiecesFormed, WhensFormed, ClausesFormed, ParamsFormed}
use Rattle.compile_laws.proofs.Does.{self_bit}
use Rattle.compile_laws.proofs.TreeFits.{receiver_bit}
use Rattle.compile_laws.proofs.FineCode as code
use Rattle.compile_laws.proofs.FineCode.{MayPend, IsFine, Fine, nothing, plain, leaping, deeply, over, caught, ok, Stands, goal_fine, sets_fine, named_fine, spread_below, KnowsBlock, names, some, literal_fine, send_well, safe_well, super_well, bare_well, plain_well, by_send_fine, or_set_fine, attribute_read_fine, index_read_fine, turns_fine}

-- the index has a row for each of these sequences
abbrev pub Children : List IndexRow → List Compiled → Type 0
Children rows cs = AllByRecursion (λ (c : Compiled). slice_get rows c.inner.number ≡ Some (index_row c)) cs

pub children_split : (rows : List IndexRow) (xs ys : List Compiled) → Children rows (xs ++ ys) → Children rows xs × Children rows ys
children_split rows [] ys a = (tt, a)
children_split rows (x ∷ xs) ys a = let r = children_split rows xs ys a.1 in ((a.0, r.0), r.1)

pub rescue_number : (l : Where) (t : Tree) → (in_rescue l t).number ≡ number_of l t
rescue_number l (at s f) = refl

pub ensure_number : (l : Where) (t : Tree) → (in_ensure l t).number ≡ number_of l t
ensure_number l (at s f) = refl

twice_even : (n : ℕ) → 2 * n % 2 ≡ 0
twice_even n = omega arith

not_both : {X : Type 0} → kinds.Rescue ≡ kinds.Ensure → X
not_both e = absurd cc

module _ (rows : List IndexRow) (id : ℕ) (kind : SeqKind) where
  -- the code of a tree is fine, within a part that an ensure row holds or not
  abbrev pub FineTree : Where → Tree → Type 0
  FineTree l t = (b : Bool) → Fine rows id kind b (shape l t)

  abbrev F : Bool → Shape → Type 0
  F b s = Fine rows id kind b s

  next : {b : Bool} {line : ℕ} {i : Instr} {s : Shape} → IsFine rows id kind b i → F b s → F b (op line i s)
  next = plain rows id kind

  deeper : {b : Bool} {d : ℕ} {a s : Shape} → F b a → F b s → F b (part d a s)
  deeper = over rows id kind

  leap : {b : Bool} {line n : ℕ} {j : ℕ → Instr} {s : Shape} → ((t : ℕ) → IsFine rows id kind b (j t)) → F b s → F b (ahead line j n s)
  leap = leaping rows id kind

  none : {b : Bool} → F b done
  none = nothing rows id kind

  -- of an instruction with operands that may be anything
  free : ⊤ × ⊤ × ⊤ × ⊤ × ⊤
  free = (tt, tt, tt, tt, tt)

  abbrev TreesFine : Where → Trees → Type 0
  TreesFine l no_more = ⊤
  TreesFine l (more t ts) = FineTree l t × TreesFine l ts

  abbrev OtherFine : Where → Other → Type 0
  OtherFine l without = ⊤
  OtherFine l (with t) = FineTree l t

  abbrev PairsFine : Where → Pairs → Type 0
  PairsFine l no_pair = ⊤
  PairsFine l (pair t u ps) = FineTree l t × FineTree l u × PairsFine l ps

  abbrev PiecesFine : Where → Pieces → Type 0
  PiecesFine l no_piece = ⊤
  PiecesFine l (plain_piece x ps) = PiecesFine l ps
  PiecesFine l (code_piece t ps) = FineTree l t × PiecesFine l ps

  abbrev WhensFine : Where → Whens → Type 0
  WhensFine l no_when = ⊤
  WhensFine l (when ts t ws) = TreesFine l ts × FineTree l t × WhensFine l ws

  args_fine : {b : Bool} (l : Where) (d : ℕ) (ts : Trees) {s : Shape} → TreesFine l ts → F b s → F b (args_shape l d ts s)
  args_fine l d no_more w f = f
  args_fine {b} l d (more t ts) w f = deeper (w.0 b) (args_fine l (suc d) ts w.1 f)

  pairs_fine : {b : Bool} (l : Where) (d : ℕ) (ps : Pairs) {s : Shape} → PairsFine l ps → F b s → F b (pairs_shape l d ps s)
  pairs_fine l d no_pair w f = f
  pairs_fine {b} l d (pair t u ps) w f = deeper (w.0 b) (deeper (w.1 b) (pairs_fine l (suc (suc d)) ps w.2 f))

  pieces_fine : {b : Bool} (l : Where) (line d : ℕ) (ps : Pieces) {s : Shape} → PiecesFine l ps → F b s → F b (pieces_shape l line d ps s)
  pieces_fine l line d no_piece w f = f
  pieces_fine l line d (plain_piece x ps) w f = next free (pieces_fine l line (suc d) ps w f)
  pieces_fine {b} l line d (code_piece t ps) w f =
      deeper (w.0 b) (next free (next free (next free (pieces_fine l line (suc d) ps w.1 f))))

  value_fine : {b : Bool} (l : Where) (d : ℕ) (v : Other) {s : Shape} → OtherFine l v → F b s → F b (value_shape l d v s)
  value_fine l d without w f = f
  value_fine {b} l d (with t) w f = deeper (w b) f

  receiver_fine : {b : Bool} (l : Where) (o : Other) (line : ℕ) {s : Shape} → OtherFine l o → F b s → F b (receiver_shape l o line s)
  receiver_fine l without line w f = next free f
  receiver_fine {b} l (with t) line w f = deeper (w b) f

  other_fine : (b : Bool) (l : Where) (o : Other) → OtherFine l o → F b (other_shape l o)
  other_fine b l without w = next free none
  other_fine b l (with t) w = w b

  last_fine : (b : Bool) (l : Where) (line : ℕ) (o : Other) → OtherFine l o → F b (last_shape l line o)
  last_fine b l line without w = none
  last_fine b l line (with t) w = next free (deeper (w b) none)

  values_fine : {b : Bool} (l : Where) (ts : Trees) (line : ℕ) {s : Shape} → TreesFine l ts → F b s → F b (values_shape l ts line s)
  values_fine l no_more line w f = next free f
  values_fine {b} l (more t no_more) line w f = deeper (w.0 b) f
  values_fine {b} l (more t (more u us)) line w f =
      deeper (w.0 b) (deeper (w.1.0 b) (args_fine l 2 us w.1.1 (next (tt, tt, All-nil (λ place. place < suc (suc (count us))), tt, tt) f)))

  rest_fine : (b : Bool) (l : Where) (line : ℕ) (ts : Trees) → TreesFine l ts → F b (rest_shape l line ts)
  rest_fine b l line no_more w = none
  rest_fine b l line (more t ts) w = next free (deeper (w.0 b) (rest_fine b l line ts w.1))

  all_fine : (b : Bool) (l : Where) (line : ℕ) (ts : Trees) → TreesFine l ts → F b (all_shape l line ts)
  all_fine b l line no_more w = next free none
  all_fine b l line (more t ts) w = deeper (w.0 b) (rest_fine b l line ts w.1)

  path_fine : (b : Bool) (l : Where) (o : Other) (top : Bool) (xs : List Bytes) (line : ℕ) → 0 < length xs → OtherFine l o → F b (path_shape l o top xs line)
  path_fine b l without true xs line e w = next (tt, tt, tt, (omega arith, e), tt) none
  path_fine b l without false xs line e w = next (tt, tt, tt, (omega arith, e), tt) none
  path_fine b l (with t) top xs line e w = deeper (w b) (next (tt, tt, tt, (omega arith, e), tt) none)

  call_fine : {b : Bool} (l : Where) (ts : Trees) (v : Other) (line : ℕ) (call : ℕ → Instr) (t : Other) → TreesFine l ts → OtherFine l v → code.CallsWell rows id kind call → KnowsBlock rows id kind l t
      → F b (args_shape l 1 ts (value_shape l (suc (count ts)) v (with_literal l line call t)))
  call_fine l ts v line call t w u e g = args_fine l 1 ts w (value_fine l (suc (count ts)) v u (literal_fine rows id kind l line call t e g))

  gets_fine : {b : Bool} (l : Where) (k : Bool) (line : ℕ) (xs : List Bytes) {s : Shape} → Stands rows id kind l k → AllHeld l.sight xs → F b s → F b (gets l line xs s)
  gets_fine l k line [] a h f = f
  gets_fine l k line (x ∷ xs) a h f = next (a.locals x h.0, tt, tt, tt, tt) (gets_fine l k line xs a h.1 f)

  pattern_fine : {b : Bool} (l : Where) (line : ℕ) (ts : Trees) (far : ℕ) {s : Shape} → TreesFine l ts → F b s → F b (pattern_shape l line ts far s)
  pattern_fine l line no_more far w f = f
  pattern_fine {b} l line (more t ts) far w f =
      deeper (w.0 b) (next free (next (plain_well rows id kind b (codes "===") 1 (self_flag t) (self_bit t)) (leap (λ n. free) (pattern_fine l line ts far w.1 f))))

  patterns_fine : {b : Bool} (l : Where) (line : ℕ) (ws : Whens) (far : ℕ) {s : Shape} → WhensFine l ws → F b s → F b (patterns_shape l line ws far s)
  patterns_fine l line no_when far w f = f
  patterns_fine l line (when ts t ws) far w f = pattern_fine l line ts _ w.0 (patterns_fine l line ws _ w.2 f)

  cases_fine : (b : Bool) (l : Where) (line : ℕ) (ws : Whens) → WhensFine l ws → F b (cases_shape l line ws)
  cases_fine b l line no_when w = none
  cases_fine b l line (when ts t ws) w = next free (deeper (w.1 b) (leap (λ n. free) (cases_fine b l line ws w.2)))

  test_fine : {b : Bool} (l : Where) (line : ℕ) (ts : Trees) (far : ℕ) {s : Shape} → TreesFine l ts → F b s → F b (test_shape l line ts far s)
  test_fine l line no_more far w f = f
  test_fine {b} l line (more t ts) far w f = deeper (w.0 b) (leap (λ n. free) (test_fine l line ts far w.1 f))

  tests_fine : {b : Bool} (l : Where) (line : ℕ) (ws : Whens) (far : ℕ) {s : Shape} → WhensFine l ws → F b s → F b (tests_shape l line ws far s)
  tests_fine l line no_when far w f = f
  tests_fine l line (when ts t ws) far w f = test_fine l line ts _ w.0 (tests_fine l line ws _ w.2 f)

  hits_fine : (b : Bool) (l : Where) (line : ℕ) (ws : Whens) → WhensFine l ws → F b (hits_shape l line ws)
  hits_fine b l line no_when w = none
  hits_fine b l line (when ts t ws) w = deeper (w.1 b) (leap (λ n. free) (hits_fine b l line ws w.2))

  classes_fine : {b : Bool} (l : Where) (ts : Trees) (line far : ℕ) {s : Shape} → TreesFine l ts → F b s → F b (classes_shape l ts line far s)
  classes_fine l no_more line far w f = f
  classes_fine {b} l (more t ts) line far w f = next free (deeper (w.0 b) (next free (leap (λ n. free) (classes_fine l ts line far w.1 f))))

  clause_fine : {b : Bool} (l : Where) (ts : Trees) (line far : ℕ) {s : Shape} → TreesFine l ts → F b s → F b (clause_shape l ts line far s)
  clause_fine l no_more line far w f =
      next free (next (tt, tt, tt, (omega arith, omega arith), tt) (next free (leap (λ n. free) f)))
  clause_fine l (more t ts) line far w f = classes_fine l (more t ts) line far w f

  known : (l : Where) (k : Bool) (t : Tree) (c : Compiled) → Stands rows id kind l k → c.parent ≡ l.number → c.inner.number ≡ number_of l t → slice_get rows c.inner.number ≡ Some (index_row c) → IsChild rows id c.kind (number_of l t)
  known l k t c a p n e = (index_row c, subst (λ m. slice_get rows m ≡ Some (index_row c)) n e, refl, p ∙ a.number)

  block_known : (l : Where) (k : Bool) (t : Other) → Stands rows id kind l k → Children rows (block_sequences l t) → KnowsBlock rows id kind l t
  block_known l k without a c = tt
  block_known l k (with t) a c = known l k t (compiled_body l (in_block l t) kinds.Block [] t) a refl refl c.0

  throw_well : (b : Bool) (n : ℕ) → n ≤ 7 → ¬ (n ≡ 0) → ¬ (n ≡ 7) → ¬ (n ≡ 6) → IsFine rows id kind b (Throw n)
  throw_well b n e f g k = (tt, tt, tt, tt, (e, λ z. pends z, λ z. absurd (k z)))
    where
      pends : (n ≡ 0) ⊎ (n ≡ 7) → MayPend rows id kind
      pends (inl z) = absurd (f z)
      pends (inr z) = absurd (g z)

  break_fine : (b loop : Bool) (line : ℕ) → F b (op line (Throw (throw_by loop 2 4)) done)
  break_fine b true line = next (throw_well b 2 (omega arith) (λ e. absurd (omega (arith, e))) (λ e. absurd (omega (arith, e))) (λ e. absurd (omega (arith, e)))) none
  break_fine b false line = next (throw_well b 4 (omega arith) (λ e. absurd (omega (arith, e))) (λ e. absurd (omega (arith, e))) (λ e. absurd (omega (arith, e)))) none

  next_fine : (b loop : Bool) (line : ℕ) → F b (op line (Throw (throw_by loop 3 5)) done)
  next_fine b true line = next (throw_well b 3 (omega arith) (λ e. absurd (omega (arith, e))) (λ e. absurd (omega (arith, e))) (λ e. absurd (omega (arith, e)))) none
  next_fine b false line = next (throw_well b 5 (omega arith) (λ e. absurd (omega (arith, e))) (λ e. absurd (omega (arith, e))) (λ e. absurd (omega (arith, e)))) none

  range_fine : (b e : Bool) (line : ℕ) → F b (op line (NewRange (open_end e)) done)
  range_fine b true line = next (tt, tt, tt, omega arith, tt) none
  range_fine b false line = next (tt, tt, tt, omega arith, tt) none

  method_fine : (b f : Bool) (line n : ℕ) (x : Bytes) {s : Shape} → IsChild rows id kinds.Method n → F b s → F b (op line (DefineMethod x (suc n) (on_self f)) s)
  method_fine b true line n x c g = next (tt, names rows id kind kinds.Method n c, tt, (some rows id kind n, omega arith), tt) g
  method_fine b false line n x c g = next (tt, names rows id kind kinds.Method n c, tt, (some rows id kind n, omega arith), tt) g

  class_fine : (b : Bool) (form line n : ℕ) (x : Bytes) → form ≤ 2 → IsChild rows id kinds.Class n → F b (op line (DefineClass x (suc n) form) done)
  class_fine b form line n x e c = next (tt, names rows id kind kinds.Class n c, tt, (some rows id kind n, e), tt) none

  -- at the end of what an ensure row holds
  ensured_throw : IsFine rows id kind true (Throw 6)
  ensured_throw = (tt, tt, tt, tt, (omega arith, λ e. pends 6 refl e, λ e. refl))
    where
      pends : (n : ℕ) → n ≡ 6 → (n ≡ 0) ⊎ (n ≡ 7) → MayPend rows id kind
      pends n s (inl z) = absurd (omega (arith, s, z))
      pends n s (inr z) = absurd (omega (arith, s, z))

  looped_stands : (l : Where) (k : Bool) → Stands rows id kind l k → Stands rows id kind (looped l) k
  looped_stands l k a = record { number = a.number; locals = a.locals; pends = a.pends }

  abbrev C : Where → List Compiled → Type 0
  C l cs = Children rows cs

  two : (l : Where) (xs ys : List Compiled) → C l (xs ++ ys) → C l xs × C l ys
  two l xs ys c = children_split rows xs ys c

  three : (l : Where) (xs ys zs : List Compiled) → C l (xs ++ (ys ++ zs)) → C l xs × C l ys × C l zs
  three l xs ys zs c = let r = two l xs (ys ++ zs) c in let q = two l ys zs r.1 in (r.0, q.0, q.1)

  four : (l : Where) (xs ys zs us : List Compiled) → C l (xs ++ (ys ++ (zs ++ us))) → C l xs × C l ys × C l zs × C l us
  four l xs ys zs us c = let r = two l xs (ys ++ (zs ++ us)) c in let q = three l ys zs us r.1 in (r.0, q.0, q.1, q.2)

  abbrev S : Where → Bool → Type 0
  S l k = Stands rows id kind l k

  attribute_fine : {b : Bool} (line call : ℕ) (x : Bytes) (r : ℕ) {a t : Shape} → (r ≡ 0) ⊎ (r ≡ 1) → F b a → F b t → F b (op line PutNil (part 1 a (part 2 t (set_by_send line call 2 x 1 r done))))
  attribute_fine line call x r e f g = next free (deeper f (deeper g (by_send_fine rows id kind line call 2 x 1 r e none)))

  index_fine : {b : Bool} (line call r : ℕ) {a i t : Shape} → (r ≡ 0) ⊎ (r ≡ 1) → F b a → F b i → F b t → F b (op line PutNil (part 1 a (part 2 i (part 3 t (set_by_send line call 3 (codes "[]=") 2 r done)))))
  index_fine line call r e f g u = next free (deeper f (deeper g (deeper u (by_send_fine rows id kind line call 3 (codes "[]=") 2 r e none))))

  operated_fine : {b : Bool} (line call at_line depth : ℕ) (f x : Bytes) (n r : ℕ) {t : Shape} → (r ≡ 0) ⊎ (r ≡ 1) → F b t → F b (part (suc depth) t (op at_line (plain_send f 1 0) (set_by_send line call depth x n r done)))
  operated_fine {b} line call at_line depth f x n r e g = deeper g (next (plain_well rows id kind b f 1 0 (inl refl)) (by_send_fine rows id kind line call depth x n r e none))

  mutual
    tree_fine : (t : Tree) (l : Where) (k b : Bool) → S l k → IsFormed k t → IsHoused None l.sight t → C l (sequences l t) → F b (shape l t)
    tree_fine (at s nil_value) l k b a f h c = next free none
    tree_fine (at s true_value) l k b a f h c = next free none
    tree_fine (at s false_value) l k b a f h c = next free none
    tree_fine (at s (integer i)) l k b a f h c = next free none
    tree_fine (at s (symbol x)) l k b a f h c = next free none
    tree_fine (at s (text x)) l k b a f h c = next free none
    tree_fine (at s self_value) l k b a f h c = next free none
    tree_fine (at s file_name) l k b a f h c = next free none
    tree_fine (at s folder_name) l k b a f h c = next free none
    tree_fine (at s line_number) l k b a f h c = next free none
    tree_fine (at s (local x)) l k b a f h c = next (a.locals x h, tt, tt, tt, tt) none
    tree_fine (at s (instance x)) l k b a f h c = next free none
    tree_fine (at s (global x)) l k b a f h c = next free none
    tree_fine (at s (joined ps)) l k b a f h c = pieces_fine l (own l s) 0 ps (pieces_all ps l k a f h c) (next free none)
    tree_fine (at s (array ts ks)) l k b a f h c = args_fine l 0 ts (trees_all ts l k a f.1 h c) (next (tt, tt, spread_below rows id kind ts ks f.0, tt, tt) none)
    tree_fine (at s (hash ps)) l k b a f h c = pairs_fine l 0 ps (pairs_all ps l k a f h c) (next (tt, tt, tt, twice_even (count_pairs ps), tt) none)
    tree_fine (at s (range t u e)) l k b a f h c =
        let d = two l (sequences l t) (sequences l u) c in deeper (tree_fine t l k b a f.0 h.0 d.0) (deeper (tree_fine u l k b a f.1 h.1 d.1) (range_fine b e (own l s)))
    tree_fine (at s (constant_path o top xs)) l k b a f h c = path_fine b l o top xs (own l s) f.0 (other_all o l k a f.1 h c)
    tree_fine (at s (assign t g)) l k b a f h c = deeper (tree_fine t l k b a f h.1 c) (next free (next (goal_fine rows id kind b l k g a h.0) none))
    tree_fine (at s (assign_all ts gs)) l k b a f h c = values_fine l ts (own l s) (trees_all ts l k a f h.1 c) (next free (next free (sets_fine rows id kind l k (own l s) gs a h.0 none)))
    tree_fine (at s (assign_attribute t u m)) l k b a f h c =
        let d = two l (sequences l t) (sequences l u) c in
        attribute_fine (start l s) (own l s) m (self_flag t) (self_bit t) (tree_fine t l k b a f.0 h.0 d.0) (tree_fine u l k b a f.1 h.1 d.1)
    tree_fine (at s (assign_index t i u)) l k b a f h c =
        let d = three l (sequences l t) (sequences l i) (sequences l u) c in
        index_fine (start l s) (own l s) (self_flag t) (self_bit t) (tree_fine t l k b a f.0 h.0 d.0) (tree_fine i l k b a f.1.0 h.1.0 d.1) (tree_fine u l k b a f.1.1 h.1.1 d.2)
    tree_fine (at s (operate_attribute t x u y m n)) l k b a f h c =
        let d = two l (sequences l t) (sequences l u) c in
        attribute_read_fine rows id kind (start l s) (own l s) x (self_flag t) (self_bit t) (tree_fine t l k b a f.0 h.0 d.0)
        (operated_fine (start l s) (own l s) (line_at l n) 2 y m 1 (self_flag t) (self_bit t) (tree_fine u l k b a f.1 h.1 d.1))
    tree_fine (at s (or_attribute t x u m)) l k b a f h c =
        let d = two l (sequences l t) (sequences l u) c in
        attribute_read_fine rows id kind (start l s) (own l s) x (self_flag t) (self_bit t) (tree_fine t l k b a f.0 h.0 d.0)
        (or_set_fine rows id kind (start l s) (own l s) BranchIf 2 m 1 (self_flag t) (λ n. free) (self_bit t) (tree_fine u l k b a f.1 h.1 d.1))
    tree_fine (at s (and_attribute t x u m)) l k b a f h c =
        let d = two l (sequences l t) (sequences l u) c in
        attribute_read_fine rows id kind (start l s) (own l s) x (self_flag t) (self_bit t) (tree_fine t l k b a f.0 h.0 d.0)
        (or_set_fine rows id kind (start l s) (own l s) BranchUnless 2 m 1 (self_flag t) (λ n. free) (self_bit t) (tree_fine u l k b a f.1 h.1 d.1))
    tree_fine (at s (operate_index t i u y n)) l k b a f h c =
        let d = three l (sequences l t) (sequences l i) (sequences l u) c in
        index_read_fine rows id kind (start l s) (own l s) (self_flag t) (self_bit t) (tree_fine t l k b a f.0 h.0 d.0) (tree_fine i l k b a f.1.0 h.1.0 d.1)
        (operated_fine (start l s) (own l s) (line_at l n) 3 y (codes "[]=") 2 (self_flag t) (self_bit t) (tree_fine u l k b a f.1.1 h.1.1 d.2))
    tree_fine (at s (or_index t i u)) l k b a f h c =
        let d = three l (sequences l t) (sequences l i) (sequences l u) c in
        index_read_fine rows id kind (start l s) (own l s) (self_flag t) (self_bit t) (tree_fine t l k b a f.0 h.0 d.0) (tree_fine i l k b a f.1.0 h.1.0 d.1)
        (or_set_fine rows id kind (start l s) (own l s) BranchIf 3 (codes "[]=") 2 (self_flag t) (λ n. free) (self_bit t) (tree_fine u l k b a f.1.1 h.1.1 d.2))
    tree_fine (at s (and_index t i u)) l k b a f h c =
        let d = three l (sequences l t) (sequences l i) (sequences l u) c in
        index_read_fine rows id kind (start l s) (own l s) (self_flag t) (self_bit t) (tree_fine t l k b a f.0 h.0 d.0) (tree_fine i l k b a f.1.0 h.1.0 d.1)
        (or_set_fine rows id kind (start l s) (own l s) BranchUnless 3 (codes "[]=") 2 (self_flag t) (λ n. free) (self_bit t) (tree_fine u l k b a f.1.1 h.1.1 d.2))
    tree_fine (at s (send o ts ks v x bare t)) l k b a f h c =
        let d = four l (other_sequences l o) (trees_sequences l ts) (other_sequences l v) (block_sequences l t) c in
        receiver_fine l o (start l s) (other_all o l k a f.1.0 h.0 d.0)
        (call_fine l ts v (own l s) (Send x (count ts) ks (receiver_flag o + value_flag v + bare_flag bare)) t (trees_all ts l k a f.1.1.0 h.1.0 d.1) (other_all v l k a f.1.1.1.0 h.1.1.0 d.2)
        (send_well rows id kind x ts ks (receiver_flag o) v bare f.0.0 (receiver_bit o)) (block_known l k t a d.3))
    tree_fine (at s (safe_send r ts ks v x t)) l k b a f h c =
        let d = four l (sequences l r) (trees_sequences l ts) (other_sequences l v) (block_sequences l t) c in
        deeper (tree_fine r l k b a f.1.0 h.0 d.0) (next free (leap (λ n. free)
        (call_fine l ts v (own l s) (Send x (count ts) ks (self_flag r + value_flag v)) t (trees_all ts l k a f.1.1.0 h.1.0 d.1) (other_all v l k a f.1.1.1.0 h.1.1.0 d.2)
        (safe_well rows id kind x ts ks (self_flag r) v f.0.0 (self_bit r)) (block_known l k t a d.3))))
    tree_fine (at s (yield ts ks)) l k b a f h c = args_fine l 0 ts (trees_all ts l k a f.1 h c) (next (tt, tt, spread_below rows id kind ts ks f.0, tt, tt) none)
    tree_fine (at s (super ts ks v t)) l k b a f h c =
        let d = three l (trees_sequences l ts) (other_sequences l v) (block_sequences l t) c in
        next free (call_fine l ts v (own l s) (InvokeSuper (count ts) ks (1 + value_flag v)) t (trees_all ts l k a f.1.0 h.0 d.0) (other_all v l k a f.1.1.0 h.1.0 d.1)
        (super_well rows id kind ts ks v f.0.0) (block_known l k t a d.2))
    tree_fine (at s (bare_super t)) l k b a f h c =
        next free (gets_fine l k (own l s) (names_of_params (params_of l.sight.body)) a h.0
        (literal_fine rows id kind l (own l s) (InvokeSuper (length (names_of_params (params_of l.sight.body))) [] 1) t (bare_well rows id kind (length (names_of_params (params_of l.sight.body)))) (block_known l k t a c)))
    tree_fine (at s bare_raise) l k b a f h c = next free (deeply rows id kind (λ n. free) (next (plain_well rows id kind b (codes "raise") 1 1 (inr refl)) none))
    tree_fine (at s (statements ts)) l k b a f h c = all_fine b l (own l s) ts (trees_all ts l k a f h c)
    tree_fine (at s (both t u)) l k b a f h c =
        let d = two l (sequences l t) (sequences l u) c in deeper (tree_fine t l k b a f.0 h.0 d.0) (next free (leap (λ n. free) (next free (deeper (tree_fine u l k b a f.1 h.1 d.1) none))))
    tree_fine (at s (either t u)) l k b a f h c =
        let d = two l (sequences l t) (sequences l u) c in deeper (tree_fine t l k b a f.0 h.0 d.0) (next free (leap (λ n. free) (next free (deeper (tree_fine u l k b a f.1 h.1 d.1) none))))
    tree_fine (at s (negated t)) l k b a f h c = deeper (tree_fine t l k b a f h c) (next (plain_well rows id kind b (codes "!") 0 (self_flag t) (self_bit t)) none)
    tree_fine (at s (if_else t u o)) l k b a f h c =
        let d = three l (sequences l t) (sequences l u) (other_sequences l o) c in
        deeper (tree_fine t l k b a f.0 h.0 d.0) (leap (λ n. free) (deeper (tree_fine u l k b a f.1.0 h.1.0 d.1) (leap (λ n. free) (deeper (other_fine b l o (other_all o l k a f.1.1 h.1.1 d.2)) none))))
    tree_fine (at s (while_loop t u e false)) l k b a f h c =
        let d = two l (sequences (looped l) t) (sequences l u) c in
        leap (λ n. free) (turns_fine rows id kind (own l s) e (tree_fine t (looped l) k b (looped_stands l k a) f.0 h.0 d.0) (tree_fine u l k b a f.1 h.1 d.1))
    tree_fine (at s (while_loop t u e true)) l k b a f h c =
        let d = two l (sequences (looped l) t) (sequences l u) c in
        turns_fine rows id kind (own l s) e (tree_fine t (looped l) k b (looped_stands l k a) f.0 h.0 d.0) (tree_fine u l k b a f.1 h.1 d.1)
    tree_fine (at s (case_of t ws o)) l k b a f h c =
        let d = three l (sequences l t) (whens_sequences l ws) (other_sequences l o) c in
        let w = whens_all ws l k a f.1.0 h.1.0 d.1 in
        deeper (tree_fine t l k b a f.0 h.0 d.0) (patterns_fine l (own l s) ws (size (other_shape l o) + 2) w
        (next free (deeper (other_fine b l o (other_all o l k a f.1.1 h.1.1 d.2)) (leap (λ n. free) (cases_fine b l (own l s) ws w)))))
    tree_fine (at s (case_tests ws o)) l k b a f h c =
        let d = two l (whens_sequences l ws) (other_sequences l o) c in
        let w = whens_all ws l k a f.0 h.0 d.0 in
        tests_fine l (own l s) ws (size (other_shape l o) + 1) w (deeper (other_fine b l o (other_all o l k a f.1 h.1 d.1)) (leap (λ n. free) (hits_fine b l (own l s) ws w)))
    tree_fine (at s (return_with ts)) l k b a f h c =
        values_fine l ts (own l s) (trees_all ts l k a f h c) (next (throw_well b 1 (omega arith) (λ e. absurd (omega (arith, e))) (λ e. absurd (omega (arith, e))) (λ e. absurd (omega (arith, e)))) none)
    tree_fine (at s (break_with ts)) l k b a f h c = values_fine l ts (own l s) (trees_all ts l k a f h c) (break_fine b l.loop (own l s))
    tree_fine (at s (next_with ts)) l k b a f h c = values_fine l ts (own l s) (trees_all ts l k a f h c) (next_fine b l.loop (own l s))
    tree_fine (at s retry) l k b a f h c = next free (next (tt, tt, tt, tt, (omega arith, λ e. a.pends f, λ e. absurd (omega (arith, e)))) none)
    tree_fine (at s (rescue t o u)) l k b a f h c =
        let d = three l (sequences l t) (other_sequences l o) (compiled_part l (in_rescue l u) kinds.Rescue u ∷ sequences (in_rescue l u) u) c in
        caught rows id kind (known l k u (compiled_part l (in_rescue l u) kinds.Rescue u) a refl (rescue_number l u) d.2.0) (tree_fine t l k b a f.0 h.0 d.0) (last_fine b l (own l s) o (other_all o l k a f.1.0 h.1.0 d.1))
    tree_fine (at s (ensure t u)) l k b a f h c =
        let d = two l (sequences l t) (compiled_part l (in_ensure l u) kinds.Ensure u ∷ sequences (in_ensure l u) u) c in
        caught rows id kind (known l k u (compiled_part l (in_ensure l u) kinds.Ensure u) a refl (ensure_number l u) d.1.0) (deeper (tree_fine t l k true a f.0 h.0 d.0) (next ensured_throw none)) none
    tree_fine (at s (method x t y)) l k b a f h c = method_fine b y (own l s) (number_of l t) x (known l k t (compiled_body l (in_body l t) kinds.Method x t) a refl refl c.0) (next free none)
    tree_fine (at s (class without x t)) l k b a f h c = next free (class_fine b 0 (own l s) (number_of l t) x (omega arith) (known l k t (compiled_body l (in_body l t) kinds.Class x t) a refl refl c.0))
    tree_fine (at s (class (with u) x t)) l k b a f h c =
        let d = two l (sequences l u) (compiled_body l (in_body l t) kinds.Class x t ∷ sequences (in_body l t) t) c in
        deeper (tree_fine u l k b a f.0 h.0 d.0) (class_fine b 1 (own l s) (number_of l t) x (omega arith) (known l k t (compiled_body l (in_body l t) kinds.Class x t) a refl refl d.1.0))
    tree_fine (at s (module_named x t)) l k b a f h c = next free (class_fine b 2 (own l s) (number_of l t) x (omega arith) (known l k t (compiled_body l (in_body l t) kinds.Class x t) a refl refl c.0))
    tree_fine (at s (rescue_sequence cs)) l k b a f h c = absurd f
    tree_fine (at s (ensure_sequence t)) l k b a f h c = absurd f
    tree_fine (at s (body ps t)) l k b a f h c = absurd f

    trees_all : (ts : Trees) (l : Where) (k : Bool) → S l k → TreesFormed k ts → TreesHoused None l.sight ts → C l (trees_sequences l ts) → TreesFine l ts
    trees_all no_more l k a f h c = tt
    trees_all (more t ts) l k a f h c =
        let d = two l (sequences l t) (trees_sequences l ts) c in (λ b. tree_fine t l k b a f.0 h.0 d.0, trees_all ts l k a f.1 h.1 d.1)

    other_all : (o : Other) (l : Where) (k : Bool) → S l k → OtherFormed k o → OtherHoused None l.sight o → C l (other_sequences l o) → OtherFine l o
    other_all without l k a f h c = tt
    other_all (with t) l k a f h c = λ b. tree_fine t l k b a f h c

    pairs_all : (ps : Pairs) (l : Where) (k : Bool) → S l k → PairsFormed k ps → PairsHoused None l.sight ps → C l (pairs_sequences l ps) → PairsFine l ps
    pairs_all no_pair l k a f h c = tt
    pairs_all (pair t u ps) l k a f h c =
        let d = three l (sequences l t) (sequences l u) (pairs_sequences l ps) c in
        (λ b. tree_fine t l k b a f.0 h.0 d.0, λ b. tree_fine u l k b a f.1.0 h.1.0 d.1, pairs_all ps l k a f.1.1 h.1.1 d.2)

    pieces_all : (ps : Pieces) (l : Where) (k : Bool) → S l k → PiecesFormed k ps → PiecesHoused None l.sight ps → C l (pieces_sequences l ps) → PiecesFine l ps
    pieces_all no_piece l k a f h c = tt
    pieces_all (plain_piece x ps) l k a f h c = pieces_all ps l k a f h c
    pieces_all (code_piece t ps) l k a f h c =
        let d = two l (sequences l t) (pieces_sequences l ps) c in (λ b. tree_fine t l k b a f.0 h.0 d.0, pieces_all ps l k a f.1 h.1 d.1)

    whens_all : (ws : Whens) (l : Where) (k : Bool) → S l k → WhensFormed k ws → WhensHoused None l.sight ws → C l (whens_sequences l ws) → WhensFine l ws
    whens_all no_when l k a f h c = tt
    whens_all (when ts t ws) l k a f h c =
        let d = three l (trees_sequences l ts) (sequences l t) (whens_sequences l ws) c in
        (trees_all ts l k a f.0 h.0 d.0, λ b. tree_fine t l k b a f.1.0 h.1.0 d.1, whens_all ws l k a f.1.1 h.1.1 d.2)

  -- ---- whole sequences

  leave_fine : (b : Bool) → ¬ (kind ≡ kinds.Ensure) → IsFine rows id kind b Leave
  leave_fine b e = (tt, tt, tt, tt, e)

  clauses_fine : {b : Bool} (l : Where) (k : Bool) (cs : Rescues) (line far : ℕ) {s : Shape} → S l k → ClausesFormed k cs → ClausesHoused None l.sight cs → C l (clauses_sequences l cs) → F b s → F b (clauses_shape l cs line far s)
  clauses_fine l k no_clause line far a f h c g = g
  clauses_fine l k (clause ts x t cs) line far a f h c g =
      let d = three l (trees_sequences l ts) (sequences l t) (clauses_sequences l cs) c in
      clause_fine l ts line _ (trees_all ts l k a f.0 h.0 d.0) (clauses_fine l k cs line _ a f.1.1 h.1.1.1 d.2 g)

  bodies_fine : (b : Bool) (l : Where) (k : Bool) (cs : Rescues) (line : ℕ) → ¬ (kind ≡ kinds.Ensure) → S l k → ClausesFormed k cs → ClausesHoused None l.sight cs → C l (clauses_sequences l cs) → F b (bodies_shape l cs line)
  bodies_fine b l k no_clause line e a f h c = none
  bodies_fine b l k (clause ts x t cs) line e a f h c =
      let d = three l (trees_sequences l ts) (sequences l t) (clauses_sequences l cs) c in
      named_fine rows id kind l k line x a h.1.0 (deeper (tree_fine t l k b a f.1.0 h.1.1.0 d.1) (next (leave_fine b e) (bodies_fine b l k cs line e a f.1.1 h.1.1.1 d.2)))

  params_fine : {b : Bool} (l : Where) (ps : Params) {s : Shape} → S l false → ParamsFormed false ps → ParamsHoused None l.sight ps → C l (params_sequences l ps) → F b s → F b (params_shape l ps s)
  params_fine l no_param a f h c g = g
  params_fine l (required x ps) a f h c g = params_fine l ps a f h.1 c g
  params_fine {b} l (optional x t ps) a f h c g =
      let d = two l (sequences l t) (params_sequences l ps) c in
      deeper (tree_fine t l false b a f.0 h.1.0 d.0) (next (a.locals x h.0, tt, tt, tt, tt) (params_fine l ps a f.1 h.1.1 d.1 g))
  params_fine l (rest_param x ps) a f h c g = params_fine l ps a f h.1 c g
  params_fine l (block_param x ps) a f h c g = params_fine l ps a f h.1 c g

  pub body_fine : (l : Where) (t : Tree) → ¬ (kind ≡ kinds.Ensure) → S l false → IsBody t → IsHoused None l.sight t → C l (sequences l t) → F false (shape l t)
  body_fine l (at s (body ps t)) e a f h c =
      let d = two l (params_sequences l ps) (sequences l t) c in
      params_fine l ps a f.1.0 h.0 d.0 (deeper (tree_fine t l false false a f.1.1 h.1 d.1) (next (leave_fine false e) none))
  body_fine l (at s f) e a g h c = absurd g

  pub rescue_part_fine : (l : Where) (t : Tree) → kind ≡ kinds.Rescue → S l true → IsRescuePart t → IsHoused None l.sight t → C l (sequences l t) → F false (shape l t)
  rescue_part_fine l (at s (rescue_sequence cs)) e a f h c =
      clauses_fine l true cs (own l s) 0 a f h c (next (tt, tt, tt, tt, (omega arith, λ z. inl e, λ z. absurd (omega (arith, z))))
      (bodies_fine false l true cs (own l s) (λ z. not_both (sym e ∙ z)) a f h c))
  rescue_part_fine l (at s f) e a g h c = absurd g

  pub ensure_part_fine : (l : Where) (t : Tree) → kind ≡ kinds.Ensure → S l false → IsEnsurePart t → IsHoused None l.sight t → C l (sequences l t) → F false (shape l t)
  ensure_part_fine l (at s (ensure_sequence t)) e a f h c =
      deeper (tree_fine t l false false a f h c) (next free (next (tt, tt, tt, tt, (omega arith, λ z. inr e, λ z. absurd (omega (arith, z)))) none))
  ensure_part_fine l (at s f) e a g h c = absurd g
