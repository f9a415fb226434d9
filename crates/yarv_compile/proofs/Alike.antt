-- The code of a tree is the same where the nodes stand alike.
use Rattle.std.proofs.Common.{◌≡◌, ℕ, suc, ◌+◌, ◌*◌, arith, refl, ap, ◌∙◌, cond, Bool, true, false, List, [], ◌∷◌, length}
use Rattle.std.specs.Prelude.{codes, nat_lt, ◌++◌}
use Rattle.ruby_tree.specs.Names.{Bytes}
use Rattle.ruby_tree.specs.Tree.{SourcePosition, Tree, at, Form, joined, array, hash, range, constant_path, assign, assign_all, assign_attribute, assign_index, operate_attribute, or_attribute, and_attribute, operate_index, or_index, and_index, send, safe_send, yield, super, bare_super, statements, both, either, negated, if_else, while_loop, case_of, case_tests, return_with, break_with, next_with, rescue, ensure, rescue_sequence, ensure_sequence, method, class, module_named, body, Trees, no_more, more, Other, without, with, Pairs, no_pair, pair, Pieces, no_piece, plain_piece, code_piece, Whens, no_when, when, Rescues, no_clause, clause, Params, no_param, required, optional, rest_param, block_param}
use Rattle.iseq_types.specs.declared.instructions.Instr.{Instr}
use Rattle.iseq_types.specs.declared.instructions.Instr.TheVariants.{Pop, Dup, TopN, PutNil, PutSelf, PutObject, PutString, OptGetConstantPath, NewArray, NewHash, NewRange, ConcatStrings, ObjToString, AnyToString, Send, InvokeSuper, InvokeBlock, DefineMethod, DefineClass, CheckMatch, Jump, BranchIf, BranchUnless, BranchNil, Throw, Leave, ExpandArray}
use Rattle.iseq_types.specs.declared.instructions.Literal.TheVariants.{Sym}
use Rattle.iseq_types.specs.declared.sequences.CatchKind.TheVariants as catches
use Rattle.iseq_types.specs.declared.sequences.SeqKind.{SeqKind}
use Rattle.ruby_meaning.specs.Locals.{place_of, first_line_of, params_of, names_of_params, locals_of}
use Rattle.ruby_meaning.specs.Sequences.{sequence_number, count_below}
use Rattle.ruby_meaning.specs.Levels.{block_sight}
use Rattle.code_meaning.specs.Code.{done, op, ahead, part, held, size, finish, lines_of, rows_of}
use Rattle.compile_table.specs.Shapes.{Where, looped, in_rescue, in_ensure, line_or, count, count_pairs, count_pieces, set_local, set_goal, sets, self_flag, receiver_flag, value_flag, bare_flag, plain_send, with_literal, open_end, on_self, throw_by, named, gets, set_by_send, or_set, attribute_read, index_read, turns, shape, form_shape, params_shape, all_shape, rest_shape, args_shape, pairs_shape, pieces_shape, path_shape, receiver_shape, value_shape, other_shape, last_shape, values_shape, patterns_shape, pattern_shape, cases_shape, tests_shape, test_shape, hits_shape, clauses_shape, clause_shape, classes_shape, bodies_shape}
use Rattle.compile_table.specs.Sequences.{in_body, in_block, count_required, has_optional, has_rest, has_block, entries_from, entries_of, depth_in, body_sequence, part_sequence}
use Rattle.yarv_compile.specs.Alike.{Alike}

-- Two places in code, of which the first is taken to differ from the second in nothing but the rescue part, the sequence and the places of the
-- sequences, by which the sequences have the same numbers; both in a loop or both outside of it.
module _ (l m : Where) (same : (p : ℕ) → sequence_number l.places p ≡ sequence_number m.places p) where
  abbrev one : Bool → Where
  one b = record l { loop = b; first = m.first; sight = m.sight; path = m.path }

  abbrev two : Bool → Where
  two b = record m { loop = b }

  abbrev own_line : SourcePosition → ℕ
  own_line s = line_or m.first s.line

  abbrev first_line : SourcePosition → ℕ
  first_line s = line_or m.first s.first

  literal_same : (b : Bool) (line : ℕ) (call : ℕ → Instr) (o : Other) → with_literal (one b) line call o ≡ with_literal (two b) line call o
  literal_same b line call without = refl
  literal_same b line call (with t) = λ k. held catches.Break 0 0 (op line (call (suc (same (place_of t) k))) done) done

  mutual
    pub tree_same : (b : Bool) (t : Tree) → shape (one b) t ≡ shape (two b) t
    tree_same b (at s f) = λ k. form_same b f k s

    pub form_same : (b : Bool) (f : Form) → form_shape (one b) f ≡ form_shape (two b) f
    form_same b (joined ps) = λ k s. pieces_same b (own_line s) 0 ps k (op (own_line s) (ConcatStrings (count_pieces ps)) done)
    form_same b (array ts ks) = λ k s. args_same b 0 ts k (op (own_line s) (NewArray (count ts) ks) done)
    form_same b (hash ps) = λ k s. pairs_same b 0 ps k (op (own_line s) (NewHash (2 * count_pairs ps)) done)
    form_same b (range a c e) = λ k s. part 0 (tree_same b a k) (part 1 (tree_same b c k) (op (own_line s) (NewRange (open_end e)) done))
    form_same b (constant_path o top xs) = λ k s. path_same b o top xs (own_line s) k
    form_same b (assign t g) = λ k s. part 0 (tree_same b t k) (op (own_line s) Dup (op (own_line s) (set_goal (one b) g) done))
    form_same b (assign_all ts gs) = λ k s. values_same b ts k (own_line s) (op (own_line s) Dup (op (own_line s) (ExpandArray (length gs)) (sets (one b) (own_line s) gs done)))
    form_same b (assign_attribute a t y) = λ k s. op (first_line s) PutNil (part 1 (tree_same b a k) (part 2 (tree_same b t k) (set_by_send (first_line s) (own_line s) 2 y 1 (self_flag a) done)))
    form_same b (assign_index a i t) = λ k s. op (first_line s) PutNil (part 1 (tree_same b a k) (part 2 (tree_same b i k) (part 3 (tree_same b t k) (set_by_send (first_line s) (own_line s) 3 (codes "[]=") 2 (self_flag a) done))))
    form_same b (operate_attribute a x t f y n) = λ k s. attribute_read (first_line s) (own_line s) x (self_flag a) (tree_same b a k) (part 3 (tree_same b t k) (op (line_or m.first n) (plain_send f 1 0) (set_by_send (first_line s) (own_line s) 2 y 1 (self_flag a) done)))
    form_same b (or_attribute a x t y) = λ k s. attribute_read (first_line s) (own_line s) x (self_flag a) (tree_same b a k) (or_set (first_line s) (own_line s) BranchIf 2 y 1 (self_flag a) (tree_same b t k))
    form_same b (and_attribute a x t y) = λ k s. attribute_read (first_line s) (own_line s) x (self_flag a) (tree_same b a k) (or_set (first_line s) (own_line s) BranchUnless 2 y 1 (self_flag a) (tree_same b t k))
    form_same b (operate_index a i t f n) = λ k s. index_read (first_line s) (own_line s) (self_flag a) (tree_same b a k) (tree_same b i k) (part 4 (tree_same b t k) (op (line_or m.first n) (plain_send f 1 0) (set_by_send (first_line s) (own_line s) 3 (codes "[]=") 2 (self_flag a) done)))
    form_same b (or_index a i t) = λ k s. index_read (first_line s) (own_line s) (self_flag a) (tree_same b a k) (tree_same b i k) (or_set (first_line s) (own_line s) BranchIf 3 (codes "[]=") 2 (self_flag a) (tree_same b t k))
    form_same b (and_index a i t) = λ k s. index_read (first_line s) (own_line s) (self_flag a) (tree_same b a k) (tree_same b i k) (or_set (first_line s) (own_line s) BranchUnless 3 (codes "[]=") 2 (self_flag a) (tree_same b t k))
    form_same b (send o ts ks v x bare t) = λ k s. receiver_same b o k (first_line s) (args_same b 1 ts k (value_same b (suc (count ts)) v k (literal_same b (own_line s) (Send x (count ts) ks (receiver_flag o + value_flag v + bare_flag bare)) t k)))
    form_same b (safe_send a ts ks v x t) = λ k s. part 0 (tree_same b a k) (op (first_line s) Dup (ahead (first_line s) BranchNil (size (args_same b 1 ts k (value_same b (suc (count ts)) v k (literal_same b (own_line s) (Send x (count ts) ks (self_flag a + value_flag v)) t k)))) (args_same b 1 ts k (value_same b (suc (count ts)) v k (literal_same b (own_line s) (Send x (count ts) ks (self_flag a + value_flag v)) t k)))))
    form_same b (yield ts ks) = λ k s. args_same b 0 ts k (op (own_line s) (InvokeBlock (count ts) ks) done)
    form_same b (super ts ks v t) = λ k s. op (own_line s) PutSelf (args_same b 1 ts k (value_same b (suc (count ts)) v k (literal_same b (own_line s) (InvokeSuper (count ts) ks (1 + value_flag v)) t k)))
    form_same b (bare_super t) = λ k s. op (own_line s) PutSelf (gets (one b) (own_line s) (names_of_params (params_of m.sight.body)) (literal_same b (own_line s) (InvokeSuper (length (names_of_params (params_of m.sight.body))) [] 1) t k))
    form_same b (statements ts) = λ k s. all_same b (own_line s) ts k
    form_same b (both a c) = λ k s. part 0 (tree_same b a k) (op (own_line s) Dup (ahead (own_line s) BranchUnless (suc (size (tree_same b c k))) (op (own_line s) Pop (part 0 (tree_same b c k) done))))
    form_same b (either a c) = λ k s. part 0 (tree_same b a k) (op (own_line s) Dup (ahead (own_line s) BranchIf (suc (size (tree_same b c k))) (op (own_line s) Pop (part 0 (tree_same b c k) done))))
    form_same b (negated a) = λ k s. part 0 (tree_same b a k) (op (own_line s) (plain_send (codes "!") 0 (self_flag a)) done)
    form_same b (if_else c a o) = λ k s. part 0 (tree_same b c k) (ahead (own_line s) BranchUnless (size (tree_same b a k) + 1) (part 0 (tree_same b a k) (ahead (own_line s) Jump (size (other_same b o k)) (part 0 (other_same b o k) done))))
    form_same b (while_loop a c u false) = λ k s. ahead (own_line s) Jump (size (tree_same true a k) + 1) (turns (own_line s) u (tree_same true a k) (tree_same b c k))
    form_same b (while_loop a c u true) = λ k s. turns (own_line s) u (tree_same true a k) (tree_same b c k)
    form_same b (case_of a ws o) = λ k s. part 0 (tree_same b a k) (patterns_same b (own_line s) ws (size (other_same b o k) + 2) k (op (own_line s) Pop (part 0 (other_same b o k) (ahead (own_line s) Jump (size (cases_same b (own_line s) ws k)) (cases_same b (own_line s) ws k)))))
    form_same b (case_tests ws o) = λ k s. tests_same b (own_line s) ws (size (other_same b o k) + 1) k (part 0 (other_same b o k) (ahead (own_line s) Jump (size (hits_same b (own_line s) ws k)) (hits_same b (own_line s) ws k)))
    form_same b (return_with ts) = λ k s. values_same b ts k (own_line s) (op (own_line s) (Throw 1) done)
    form_same b (break_with ts) = λ k s. values_same b ts k (own_line s) (op (own_line s) (Throw (throw_by b 2 4)) done)
    form_same b (next_with ts) = λ k s. values_same b ts k (own_line s) (op (own_line s) (Throw (throw_by b 3 5)) done)
    form_same b (rescue a o c) = λ k s. held catches.Rescue (size (last_same b (own_line s) o k)) (same (place_of c) k) (tree_same b a k) (last_same b (own_line s) o k)
    form_same b (ensure a c) = λ k s. held catches.Ensure 0 (same (place_of c) k) (part 0 (tree_same b a k) (op (own_line s) (Throw 6) done)) done
    form_same b (rescue_sequence cs) = λ k s. clauses_same b cs k (own_line s) 0 (op (own_line s) (Throw 0) (bodies_same b cs k (own_line s)))
    form_same b (ensure_sequence a) = λ k s. part 0 (tree_same b a k) (op (own_line s) Pop (op (own_line s) (Throw 0) done))
    form_same b (method x t f) = λ k s. op (own_line s) (DefineMethod x (suc (same (place_of t) k)) (on_self f)) (op (own_line s) (PutObject (Sym x)) done)
    form_same b (class without x t) = λ k s. op (own_line s) PutNil (op (own_line s) (DefineClass x (suc (same (place_of t) k)) 0) done)
    form_same b (class (with c) x t) = λ k s. part 0 (tree_same b c k) (op (own_line s) (DefineClass x (suc (same (place_of t) k)) 1) done)
    form_same b (module_named x t) = λ k s. op (own_line s) PutNil (op (own_line s) (DefineClass x (suc (same (place_of t) k)) 2) done)
    form_same b (body ps t) = λ k s. params_same b ps k (part 0 (tree_same b t k) (op m.first Leave done))
    form_same b f = refl

    pub params_same : (b : Bool) (ps : Params) → params_shape (one b) ps ≡ params_shape (two b) ps
    params_same b no_param = refl
    params_same b (required x ps) = λ k s. params_same b ps k s
    params_same b (optional x t ps) = λ k s. part 0 (tree_same b t k) (op m.first (set_local (one b) x) (params_same b ps k s))
    params_same b (rest_param x ps) = λ k s. params_same b ps k s
    params_same b (block_param x ps) = λ k s. params_same b ps k s

    pub all_same : (b : Bool) (line : ℕ) (ts : Trees) → all_shape (one b) line ts ≡ all_shape (two b) line ts
    all_same b line no_more = refl
    all_same b line (more t ts) = λ k. part 0 (tree_same b t k) (rest_same b line ts k)

    pub rest_same : (b : Bool) (line : ℕ) (ts : Trees) → rest_shape (one b) line ts ≡ rest_shape (two b) line ts
    rest_same b line no_more = refl
    rest_same b line (more t ts) = λ k. op line Pop (part 0 (tree_same b t k) (rest_same b line ts k))

    pub args_same : (b : Bool) (d : ℕ) (ts : Trees) → args_shape (one b) d ts ≡ args_shape (two b) d ts
    args_same b d no_more = refl
    args_same b d (more t ts) = λ k s. part d (tree_same b t k) (args_same b (suc d) ts k s)

    pub pairs_same : (b : Bool) (d : ℕ) (ps : Pairs) → pairs_shape (one b) d ps ≡ pairs_shape (two b) d ps
    pairs_same b d no_pair = refl
    pairs_same b d (pair t u ps) = λ k s. part d (tree_same b t k) (part (suc d) (tree_same b u k) (pairs_same b (suc (suc d)) ps k s))

    pub pieces_same : (b : Bool) (line : ℕ) (d : ℕ) (ps : Pieces) → pieces_shape (one b) line d ps ≡ pieces_shape (two b) line d ps
    pieces_same b line d no_piece = refl
    pieces_same b line d (plain_piece x ps) = λ k s. op line (PutString x) (pieces_same b line (suc d) ps k s)
    pieces_same b line d (code_piece t ps) = λ k s. part d (tree_same b t k) (op line Dup (op line ObjToString (op line AnyToString (pieces_same b line (suc d) ps k s))))

    pub path_same : (b : Bool) (o : Other) (top : Bool) (xs : List Bytes) (line : ℕ) → path_shape (one b) o top xs line ≡ path_shape (two b) o top xs line
    path_same b without top xs line = refl
    path_same b (with t) top xs line = λ k. part 0 (tree_same b t k) (op line (OptGetConstantPath 2 xs) done)

    pub receiver_same : (b : Bool) (o : Other) → receiver_shape (one b) o ≡ receiver_shape (two b) o
    receiver_same b without = refl
    receiver_same b (with t) = λ k line s. part 0 (tree_same b t k) s

    pub value_same : (b : Bool) (d : ℕ) (o : Other) → value_shape (one b) d o ≡ value_shape (two b) d o
    value_same b d without = refl
    value_same b d (with t) = λ k s. part d (tree_same b t k) s

    pub other_same : (b : Bool) (o : Other) → other_shape (one b) o ≡ other_shape (two b) o
    other_same b without = refl
    other_same b (with t) = λ k. tree_same b t k

    pub last_same : (b : Bool) (line : ℕ) (o : Other) → last_shape (one b) line o ≡ last_shape (two b) line o
    last_same b line without = refl
    last_same b line (with t) = λ k. op line Pop (part 0 (tree_same b t k) done)

    pub values_same : (b : Bool) (ts : Trees) → values_shape (one b) ts ≡ values_shape (two b) ts
    values_same b no_more = refl
    values_same b (more t no_more) = λ k line s. part 0 (tree_same b t k) s
    values_same b (more t (more u us)) = λ k line s. part 0 (tree_same b t k) (part 1 (tree_same b u k) (args_same b 2 us k (op line (NewArray (suc (suc (count us))) []) s)))

    pub patterns_same : (b : Bool) (line : ℕ) (ws : Whens) (far : ℕ) → patterns_shape (one b) line ws far ≡ patterns_shape (two b) line ws far
    patterns_same b line no_when far = refl
    patterns_same b line (when ts t ws) far = λ k s. pattern_same b line ts (size (patterns_same b line ws 0 k done) + far) k (patterns_same b line ws (far + (size (tree_same b t k) + 2)) k s)

    pub pattern_same : (b : Bool) (line : ℕ) (ts : Trees) (far : ℕ) → pattern_shape (one b) line ts far ≡ pattern_shape (two b) line ts far
    pattern_same b line no_more far = refl
    pattern_same b line (more t ts) far = λ k s. part 1 (tree_same b t k) (op line (TopN 1) (op m.first (plain_send (codes "===") 1 (self_flag t)) (ahead line BranchIf (size (pattern_same b line ts 0 k done) + far) (pattern_same b line ts far k s))))

    pub cases_same : (b : Bool) (line : ℕ) (ws : Whens) → cases_shape (one b) line ws ≡ cases_shape (two b) line ws
    cases_same b line no_when = refl
    cases_same b line (when ts t ws) = λ k. op line Pop (part 0 (tree_same b t k) (ahead line Jump (size (cases_same b line ws k)) (cases_same b line ws k)))

    pub tests_same : (b : Bool) (line : ℕ) (ws : Whens) (far : ℕ) → tests_shape (one b) line ws far ≡ tests_shape (two b) line ws far
    tests_same b line no_when far = refl
    tests_same b line (when ts t ws) far = λ k s. test_same b line ts (size (tests_same b line ws 0 k done) + far) k (tests_same b line ws (far + (size (tree_same b t k) + 1)) k s)

    pub test_same : (b : Bool) (line : ℕ) (ts : Trees) (far : ℕ) → test_shape (one b) line ts far ≡ test_shape (two b) line ts far
    test_same b line no_more far = refl
    test_same b line (more t ts) far = λ k s. part 0 (tree_same b t k) (ahead line BranchIf (size (test_same b line ts 0 k done) + far) (test_same b line ts far k s))

    pub hits_same : (b : Bool) (line : ℕ) (ws : Whens) → hits_shape (one b) line ws ≡ hits_shape (two b) line ws
    hits_same b line no_when = refl
    hits_same b line (when ts t ws) = λ k. part 0 (tree_same b t k) (ahead line Jump (size (hits_same b line ws k)) (hits_same b line ws k))

    pub clauses_same : (b : Bool) (cs : Rescues) → clauses_shape (one b) cs ≡ clauses_shape (two b) cs
    clauses_same b no_clause = refl
    clauses_same b (clause ts x t cs) = λ k line far s. clause_same b ts k line (size (clauses_same b cs k line 0 done) + 1 + far) (clauses_same b cs k line (far + size (named (one b) line x (part 0 (tree_same b t k) (op line Leave done)))) s)

    pub clause_same : (b : Bool) (ts : Trees) → clause_shape (one b) ts ≡ clause_shape (two b) ts
    clause_same b no_more = refl
    clause_same b (more t ts) = λ k line far s. op line Dup (part 1 (tree_same b t k) (op line CheckMatch (ahead line BranchIf (size (classes_same b ts k line 0 done) + far) (classes_same b ts k line far s))))

    pub classes_same : (b : Bool) (ts : Trees) → classes_shape (one b) ts ≡ classes_shape (two b) ts
    classes_same b no_more = refl
    classes_same b (more t ts) = λ k line far s. op line Dup (part 1 (tree_same b t k) (op line CheckMatch (ahead line BranchIf (size (classes_same b ts k line 0 done) + far) (classes_same b ts k line far s))))

    pub bodies_same : (b : Bool) (cs : Rescues) → bodies_shape (one b) cs ≡ bodies_shape (two b) cs
    bodies_same b no_clause = refl
    bodies_same b (clause ts x t cs) = λ k line. named (one b) line x (part 0 (tree_same b t k) (op line Leave (bodies_same b cs k line)))

  entries_same : (b : Bool) (p : ℕ) (ps : Params) → entries_from (one b) p ps ≡ entries_from (two b) p ps
  entries_same b p no_param = refl
  entries_same b p (required x ps) = entries_same b p ps
  entries_same b p (optional x t ps) = λ k. p ∷ entries_same b (finish p (tree_same b t k) + 1) ps k
  entries_same b p (rest_param x ps) = entries_same b p ps
  entries_same b p (block_param x ps) = entries_same b p ps

-- What is the same once loop, first line, sight and file are those of an alike place is the same.
pub at_alike : {A : Type 0} (f : Where → A) (l m : Where) → Alike l m → f (record l { loop = m.loop; first = m.first; sight = m.sight; path = m.path }) ≡ f m → f l ≡ f m
at_alike f l m a e = (λ k. f (record l { loop = a.loop k; first = a.first k; sight = a.sight k; path = a.path k })) ∙ e

pub shape_alike : (l m : Where) → Alike l m → (t : Tree) → shape l t ≡ shape m t
shape_alike l m a t = at_alike (λ x. shape x t) l m a (tree_same l m a.numbers m.loop t)

pub form_alike : (l m : Where) → Alike l m → (f : Form) (s : SourcePosition) → form_shape l f s ≡ form_shape m f s
form_alike l m a f s = shape_alike l m a (at s f)

pub entries_alike : (l m : Where) → Alike l m → (p : ℕ) (ps : Params) → entries_from l p ps ≡ entries_from m p ps
entries_alike l m a p ps = at_alike (λ x. entries_from x p ps) l m a (entries_same l m a.numbers m.loop p ps)

pub all_entries_alike : (l m : Where) → Alike l m → (ps : Params) → entries_of l ps ≡ entries_of m ps
all_entries_alike l m a ps = ap (λ x. cond (has_optional ps) x []) (entries_alike l m a 0 ps)

pub body_sequence_alike : (l m : Where) → Alike l m → (x : Bytes) (t : Tree) → body_sequence l x t ≡ body_sequence m x t
body_sequence_alike l m a x t = λ k. record {
  name = x;
  first_line = first_line_of t;
  locals = locals_of (a.sight k).seen t;
  required = count_required (params_of t);
  entries = all_entries_alike l m a (params_of t) k;
  rest = has_rest (params_of t);
  block = has_block (params_of t);
  rows = rows_of 0 0 (shape_alike l m a t k);
  code = lines_of 0 0 (shape_alike l m a t k);
}

pub part_sequence_alike : (l m : Where) → Alike l m → (kind : SeqKind) (t : Tree) → part_sequence l kind t ≡ part_sequence m kind t
part_sequence_alike l m a kind t = λ k. record {
  name = [];
  first_line = first_line_of t;
  locals = [];
  required = 0;
  entries = [];
  rest = false;
  block = false;
  rows = rows_of (depth_in kind) 0 (shape_alike l m a t k);
  code = lines_of (depth_in kind) 0 (shape_alike l m a t k);
}

-- ---- places that are alike

pub looped_alike : (l m : Where) → Alike l m → Alike (looped l) (looped m)
looped_alike l m a = record { loop = refl; first = a.first; sight = a.sight; path = a.path; numbers = a.numbers }

pub in_body_alike : (l m : Where) → Alike l m → (t : Tree) → Alike (in_body l t) (in_body m t)
in_body_alike l m a t = record { loop = refl; first = refl; sight = refl; path = a.path; numbers = a.numbers }

pub in_block_alike : (l m : Where) → Alike l m → (t : Tree) → Alike (in_block l t) (in_block m t)
in_block_alike l m a t = record { loop = refl; first = refl; sight = ap (λ c. block_sight c t) a.sight; path = a.path; numbers = a.numbers }

pub in_rescue_alike : (l m : Where) → Alike l m → (t : Tree) → Alike (in_rescue l t) (in_rescue m t)
in_rescue_alike l m a (at s f) = record { loop = a.loop; first = refl; sight = a.sight; path = a.path; numbers = a.numbers }

pub in_ensure_alike : (l m : Where) → Alike l m → (t : Tree) → Alike (in_ensure l t) (in_ensure m t)
in_ensure_alike l m a (at s f) = record { loop = a.loop; first = refl; sight = a.sight; path = a.path; numbers = a.numbers }

pub elsewhere_alike : (l : Where) (c : Bool) (n : ℕ) → Alike (record l { clause = c; number = n }) l
elsewhere_alike l c n = record { loop = refl; first = refl; sight = refl; path = refl; numbers = λ p. refl }

below_both : (p : ℕ) (xs ys : List ℕ) → count_below p (xs ++ ys) ≡ count_below p xs + count_below p ys
below_both p [] ys = omega arith
below_both p (x ∷ xs) ys = by_first (nat_lt x p) (below_both p xs ys)
  where
    by_first : (b : Bool) → count_below p (xs ++ ys) ≡ count_below p xs + count_below p ys
        → cond b (suc (count_below p (xs ++ ys))) (count_below p (xs ++ ys)) ≡ cond b (suc (count_below p xs)) (count_below p xs) + count_below p ys
    by_first true e = omega arith
    by_first false e = e

pub orders_alike : (l : Where) (xs ys : List ℕ) → Alike (record l { places = xs ++ ys }) (record l { places = ys ++ xs })
orders_alike l xs ys = record { loop = refl; first = refl; sight = refl; path = refl; numbers = numbers }
  where
    numbers : (p : ℕ) → sequence_number (xs ++ ys) p ≡ sequence_number (ys ++ xs) p
    numbers p = let e = below_both p xs ys in let f = below_both p ys xs in omega arith
