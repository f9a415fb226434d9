-- The code of each tree fits: from any depth it leaves one value.
use Rattle.std.proofs.Common.{◌≡◌, ℕ, suc, ◌+◌, ◌-◌, ◌*◌, ◌≤◌, ◌<◌, ◌⊎◌, inl, inr, Bool, true, false, cond, refl, sym, subst, ap, ◌∙◌, arith, List, [], ◌∷◌, length, Option, Some, None}
use Rattle.std.specs.Prelude.{⊤, codes, IsTrue}
use Rattle.ruby_tree.specs.Names.{Bytes}
use Rattle.ruby_tree.specs.Tree.{Goal, to_local, to_instance, to_global, to_constant, Tree, at, nil_value, true_value, false_value, integer, symbol, text, self_value, file_name, folder_name, line_number, local, instance, global, joined, array, hash, range, constant_path, assign, assign_all, assign_attribute, assign_index, operate_attribute, or_attribute, and_attribute, operate_index, or_index, and_index, send, safe_send, yield, super, bare_super, bare_raise, statements, both, either, negated, if_else, while_loop, case_of, case_tests, return_with, break_with, next_with, retry, rescue, ensure, rescue_sequence, ensure_sequence, method, class, module_named, body, Trees, no_more, more, Other, without, with, Pairs, no_pair, pair, Pieces, no_piece, plain_piece, code_piece, Whens, no_when, when, Rescues, no_clause, clause, Params, no_param, required, optional, rest_param, block_param}
use Rattle.iseq_types.specs.declared.instructions.Instr.{Instr}
use Rattle.iseq_types.specs.declared.instructions.Instr.TheVariants.{Pop, Dup, SetN, AdjustStack, PutNil, Send, InvokeSuper, Jump, BranchIf, BranchUnless, BranchNil, Throw, Leave}
use Rattle.iseq_types.specs.declared.sequences.CatchKind.TheVariants as catches
use Rattle.iseq_types.specs.Instructions.{block_values, needs_of, takes_of, leaves_of, depth_after, target_of, goes_on}
use Rattle.ruby_meaning.specs.Locals.{params_of, names_of_params}
use Rattle.code_meaning.specs.Code.{Shape, done, op, ahead, part, held, size}
use Rattle.compile_table.specs.Shapes.{Where, looped, number_of, count, count_pairs, count_pieces, set_goal, sets, gets, named, self_flag, receiver_flag, value_flag, bare_flag, plain_send, with_literal, branch_by, throw_by, set_by_send, or_set, attribute_read, index_read, turns, own, start, line_at, shape, params_shape, all_shape, rest_shape, args_shape, pairs_shape, pieces_shape, path_shape, receiver_shape, value_shape, other_shape, last_shape, values_shape, patterns_shape, pattern_shape, cases_shape, tests_shape, test_shape, hits_shape, clauses_shape, clause_shape, classes_shape, bodies_shape}
use Rattle.tree_laws.specs.Formed.{IsFormed, IsBody, IsRescuePart, IsEnsurePart, TreesFormed, OtherFormed, PairsFormed, PiecesFormed, WhensFormed, ClausesFormed, ParamsFormed}
use Rattle.compile_laws.proofs.Does.{self_bit}
use Rattle.compile_laws.proofs.ShapeDepths.{begins, past, leaps_jump, leaps_if, leaps_unless, leaps_nil, Leaps, look, Fits, Fit}
use Rattle.compile_laws.proofs.FitSteps.{finished, at_depth, fit_size, on, off, deep_on, Looks, looks_on, looks_over, looks_part, looks_held, looks_here, looks_end, leap, leap_end, inside}

-- code that leaves one value over any depth
abbrev pub Whole : Shape → Type 0
Whole s = (h : ℕ) → Fit 1 h h s

-- ---- instructions

-- one that puts a value
puts : {l : ℕ} {i : Instr} → needs_of i ≡ 0 → takes_of i ≡ 0 → leaves_of i ≡ 1 → target_of i ≡ None → IsTrue (goes_on i) → Whole (op l i done)
puts {l} {i} n t m a g h = on (h + 1) (omega (arith, n)) (omega (arith, t)) a g (omega (arith, t, m)) (finished refl)

-- one that sets a variable
record Sets (i : Instr) : Type 0 where
  needs : needs_of i ≡ 1
  takes : takes_of i ≡ 1
  leaves : leaves_of i ≡ 0
  target : target_of i ≡ None
  goes : IsTrue (goes_on i)

goal_sets : (l : Where) (g : Goal) → Sets (set_goal l g)
goal_sets l (to_local x) = record { needs = refl; takes = refl; leaves = refl; target = refl; goes = refl }
goal_sets l (to_instance x) = record { needs = refl; takes = refl; leaves = refl; target = refl; goes = refl }
goal_sets l (to_global x) = record { needs = refl; takes = refl; leaves = refl; target = refl; goes = refl }
goal_sets l (to_constant x) = record { needs = refl; takes = refl; leaves = refl; target = refl; goes = refl }

setting : {x h c line : ℕ} (l : Where) (g : Goal) {s : Shape} → h + 1 ≤ c → Fit x h (c - 1) s → Fit x h c (op line (set_goal l g) s)
setting {x} {h} {c} l g less f =
    let e = goal_sets l g in on (c - 1) (omega (arith, less, e.needs)) (omega (arith, less, e.takes)) e.target e.goes (omega (arith, less, e.takes, e.leaves)) f

sets_fit : {x h : ℕ} (l : Where) (line : ℕ) (gs : List Goal) {s : Shape} (c : ℕ) → c ≡ h + 1 + length gs → Fit x h (h + 1) s → Fit x h c (sets l line gs s)
sets_fit {x} {h} l line [] c e f = at_depth (h + 1) (omega (arith, e)) f
sets_fit l line (g ∷ gs) c e f = setting l g (omega (arith, e)) (sets_fit l line gs (c - 1) (omega (arith, e)) f)

gets_fit : {x h : ℕ} (l : Where) (line : ℕ) (xs : List Bytes) {s : Shape} (c c1 : ℕ) → h ≤ c → c + length xs ≡ c1 → Fit x h c1 s → Fit x h c (gets l line xs s)
gets_fit l line [] c c1 less e f = at_depth c1 (omega (arith, e)) f
gets_fit l line (y ∷ ys) c c1 less e f = on (c + 1) (omega arith) (omega (arith, less)) refl refl (omega arith) (gets_fit l line ys (c + 1) c1 (omega (arith, less)) (omega (arith, e)) f)

-- the name of a clause
named_fit : {x h : ℕ} (l : Where) (line : ℕ) (y : Option Bytes) {s : Shape} → 1 ≤ h → Fit x h h s → Fit x h h (named l line y s)
named_fit l line None less f = f
named_fit {x} {h} l line (Some y) less f = on (h + 1) less (omega arith) refl refl (omega arith) (setting l (to_local y) (omega arith) (at_depth h (omega arith) f))

-- a call
record Calls (i : Instr) (n : ℕ) : Type 0 where
  needs : needs_of i ≡ n
  takes : takes_of i ≡ n
  leaves : leaves_of i ≡ 1
  target : target_of i ≡ None
  goes : IsTrue (goes_on i)

calling : {x h c line n : ℕ} {i : Instr} {s : Shape} (c1 : ℕ) → Calls i n → h + n ≤ c → c1 ≡ c - n + 1 → Fit x h c1 s → Fit x h c (op line i s)
calling {x} {h} {c} {line} {n} {i} {s} c1 e less k f = on c1 (omega (arith, less, e.needs)) (omega (arith, less, e.takes)) e.target e.goes (omega (arith, less, k, e.takes, e.leaves)) f

pub receiver_bit : (o : Other) → (receiver_flag o ≡ 0) ⊎ (receiver_flag o ≡ 1)
receiver_bit without = inr refl
receiver_bit (with t) = self_bit t

-- how many values a block value is
abbrev valued : Other → ℕ
valued without = 0
valued (with t) = 1

flags_value : (r : ℕ) (v : Other) (bare : Bool) → (r ≡ 0) ⊎ (r ≡ 1) → block_values (r + value_flag v + bare_flag bare) ≡ valued v
flags_value r without true (inl e) = ap (λ y. block_values (y + 0 + 4)) e
flags_value r without false (inl e) = ap (λ y. block_values (y + 0 + 0)) e
flags_value r without true (inr e) = ap (λ y. block_values (y + 0 + 4)) e
flags_value r without false (inr e) = ap (λ y. block_values (y + 0 + 0)) e
flags_value r (with t) true (inl e) = ap (λ y. block_values (y + 2 + 4)) e
flags_value r (with t) false (inl e) = ap (λ y. block_values (y + 2 + 0)) e
flags_value r (with t) true (inr e) = ap (λ y. block_values (y + 2 + 4)) e
flags_value r (with t) false (inr e) = ap (λ y. block_values (y + 2 + 0)) e

two_flags : (r : ℕ) (v : Other) → (r ≡ 0) ⊎ (r ≡ 1) → block_values (r + value_flag v) ≡ valued v
two_flags r without (inl e) = ap (λ y. block_values (y + 0)) e
two_flags r without (inr e) = ap (λ y. block_values (y + 0)) e
two_flags r (with t) (inl e) = ap (λ y. block_values (y + 2)) e
two_flags r (with t) (inr e) = ap (λ y. block_values (y + 2)) e

no_value : (r : ℕ) → (r ≡ 0) ⊎ (r ≡ 1) → block_values r ≡ 0
no_value r (inl e) = ap block_values e
no_value r (inr e) = ap block_values e

send_calls : (x : Bytes) (n : ℕ) (ks : List ℕ) (flags q m : ℕ) → block_values flags ≡ m → Calls (Send x n ks flags q) (1 + n + m)
send_calls x n ks flags q m e = record { needs = ap (λ y. 1 + n + y) e; takes = ap (λ y. 1 + n + y) e; leaves = refl; target = refl; goes = refl }

super_calls : (n : ℕ) (ks : List ℕ) (flags q m : ℕ) → block_values flags ≡ m → Calls (InvokeSuper n ks flags q) (1 + n + m)
super_calls n ks flags q m e = record { needs = ap (λ y. 1 + n + y) e; takes = ap (λ y. 1 + n + y) e; leaves = refl; target = refl; goes = refl }

plain_calls : (x : Bytes) (n flags : ℕ) → (flags ≡ 0) ⊎ (flags ≡ 1) → Calls (plain_send x n flags) (1 + n + 0)
plain_calls x n flags e = send_calls x n [] flags 0 0 (no_value flags e)

literal_fit : {h c : ℕ} (l : Where) (line : ℕ) (call : ℕ → Instr) (t : Other) (n : ℕ) → ((q : ℕ) → Calls (call q) n) → c ≡ h + n → Fit 1 h c (with_literal l line call t)
literal_fit {h} {c} l line call without n e k = calling (h + 1) (e 0) (omega (arith, k)) (omega (arith, k)) (finished refl)
literal_fit {h} {c} l line call (with t) n e k = record {
  fits = λ b m o. let f : Fit 1 h c (op line (call (suc (number_of l t))) done) = calling (h + 1) (e (suc (number_of l t))) (omega (arith, k)) (omega (arith, k)) (finished refl) in
      (λ ab. absurd cc, omega arith, omega arith, inl (omega arith, refl), f.fits None 0 (Some 0), refl);
}

-- ---- parts that stand several times

-- a value is set by a send
by_send_fit : {x h : ℕ} (line call depth : ℕ) (y : Bytes) (n flags : ℕ) {s : Shape} (c : ℕ) → depth ≡ n + 1 → (flags ≡ 0) ⊎ (flags ≡ 1) → c ≡ h + depth + 1 → Fit x h (h + 1) s → Fit x h c (set_by_send line call depth y n flags s)
by_send_fit {x} {h} line call depth y n flags c e k d f =
    on c (omega (arith, e, d)) (omega (arith, e, d)) refl refl (omega arith)
    (calling (h + 2) (plain_calls y n flags k) (omega (arith, e, d)) (omega (arith, e, d))
    (on (h + 1) (omega arith) (omega arith) refl refl (omega arith) f))

or_set_fit : {h : ℕ} (line call : ℕ) (branch : ℕ → Instr) (depth : ℕ) (y : Bytes) (n flags : ℕ) (v : Shape) (c : ℕ) → Leaps branch → takes_of (branch 0) ≡ 1 → leaves_of (branch 0) ≡ 0 → IsTrue (goes_on (branch 0))
    → depth ≡ n + 1 → (flags ≡ 0) ⊎ (flags ≡ 1) → c ≡ h + depth + 1 → Whole v → Fit 1 h c (or_set line call branch depth y n flags v)
or_set_fit {h} line call branch depth y n flags v c b bt bl bg e k d w =
    on (h + depth + 2) (omega (arith, d)) (omega (arith, d)) refl refl (omega (arith, d))
    (leap {d = h + depth + 1} (h + depth + 1) b (omega (arith, bt)) (omega arith) (omega (arith, bt, bl)) (goes_past (op line Pop (part depth v (set_by_send line call depth y n flags (ahead line Jump 2 (op line (SetN depth) (op line (AdjustStack depth) done)))))) bg)
    (looks_on (h + depth) (size v + 4) (omega arith) (omega arith)
    (looks_part (h + depth + 1) 4 (fit_size v (w (h + depth))) (omega arith) refl
    (looks_on (h + depth + 1) 3 refl (omega arith)
    (looks_on (h + 2) 2 refl (sent_past done k)
    (looks_on (h + 1) 1 refl (omega arith)
    (looks_over (h + depth + 1) 0 refl refl
    (looks_here refl refl)))))))
    (on (h + depth) (omega arith) (omega arith) refl refl (omega arith)
    (inside refl (omega arith) (w (h + depth))
    (by_send_fit line call depth y n flags (h + depth + 1) e k refl
    (leap_end (h + depth + 1) leaps_jump (omega arith) refl (omega arith) refl
    (on (h + depth + 1) (omega arith) (omega arith) refl refl (omega arith)
    (on (h + 1) (omega arith) (omega arith) refl refl (omega arith) (finished refl))))))))
  where
    goes_past : (s : Shape) → IsTrue (goes_on (branch 0)) → past (branch 0) h (h + depth + 2) s ≡ h + depth + 1
    goes_past s g = ap (λ z. cond z (depth_after (branch 0) (h + depth + 2)) (begins h s)) g ∙ omega (arith, bt, bl)

    sent_past : (s : Shape) → (flags ≡ 0) ⊎ (flags ≡ 1) → past (plain_send y n flags) h (h + depth + 1) s ≡ h + 2
    sent_past s g = let z = no_value flags g in omega (arith, z, e)

attribute_read_fit : {h : ℕ} (line call : ℕ) (x : Bytes) (flags : ℕ) {a k : Shape} → (flags ≡ 0) ⊎ (flags ≡ 1) → Whole a → Fit 1 h (h + 3) k → Fit 1 h h (attribute_read line call x flags a k)
attribute_read_fit {h} line call x flags e w f =
    on (h + 1) (omega arith) (omega arith) refl refl (omega arith)
    (inside refl (omega arith) (w (h + 1))
    (on (h + 3) (omega arith) (omega arith) refl refl (omega arith)
    (calling (h + 3) (plain_calls x 0 flags e) (omega arith) (omega arith) f)))

index_read_fit : {h : ℕ} (line call flags : ℕ) {a i k : Shape} → (flags ≡ 0) ⊎ (flags ≡ 1) → Whole a → Whole i → Fit 1 h (h + 4) k → Fit 1 h h (index_read line call flags a i k)
index_read_fit {h} line call flags e w v f =
    on (h + 1) (omega arith) (omega arith) refl refl (omega arith)
    (inside refl (omega arith) (w (h + 1))
    (inside (omega arith) (omega arith) (v (h + 2))
    (on (h + 4) (omega arith) (omega arith) refl refl (omega arith)
    (on (h + 5) (omega arith) (omega arith) refl refl (omega arith)
    (calling (h + 4) (plain_calls (codes "[]") 1 flags e) (omega arith) (omega arith) f)))))

-- the way back of a loop
way_back : (line : ℕ) (u : Bool) (h n m : ℕ) (o : Option ℕ) → m ≡ n → Fits (record { room = 1; back = Some m; entered = h; outer = o }) h (h + 0 + 1) (Shape.behind line (branch_by u) n (op line PutNil done))
way_back line true h n m o e = (leaps_unless, omega arith, ap Some e, omega arith, (omega arith, omega arith, refl, omega arith))
way_back line false h n m o e = (leaps_if, omega arith, ap Some e, omega arith, (omega arith, omega arith, refl, omega arith))

-- a loop from its body on
turns_fit : {h : ℕ} (line : ℕ) (u : Bool) (a c : Shape) → Whole a → Whole c → Fit 1 h h (turns line u a c)
turns_fit {h} line u a c f g = record {
  fits = λ b m o. (
    λ ab. absurd cc,
    omega (arith, la),
    omega arith,
    inl (omega arith, refl),
    (λ ab. refl, la, omega arith, inr (size c + 3, ap Some (omega arith), omega arith), (f h).fits None 0 (Some 0), refl),
    (omega arith, omega arith, refl, (omega arith, fit_size c (g (h + 0)), omega arith, (g (h + 0)).fits None 0 None, way_back line u h (size a + 1 + size c) (size a + 0 + 1 + size c) o (omega arith))),
  );
}
  where
    la : 0 < size a
    la = fit_size a (f h)

-- ---- lists

-- the code of each of them is whole
abbrev TreesWhole : Where → Trees → Type 0
TreesWhole l no_more = ⊤
TreesWhole l (more t ts) = Whole (shape l t) × TreesWhole l ts

abbrev OtherWhole : Where → Other → Type 0
OtherWhole l without = ⊤
OtherWhole l (with t) = Whole (shape l t)

abbrev PairsWhole : Where → Pairs → Type 0
PairsWhole l no_pair = ⊤
PairsWhole l (pair t u ps) = Whole (shape l t) × Whole (shape l u) × PairsWhole l ps

abbrev PiecesWhole : Where → Pieces → Type 0
PiecesWhole l no_piece = ⊤
PiecesWhole l (plain_piece x ps) = PiecesWhole l ps
PiecesWhole l (code_piece t ps) = Whole (shape l t) × PiecesWhole l ps

abbrev WhensWhole : Where → Whens → Type 0
WhensWhole l no_when = ⊤
WhensWhole l (when ts t ws) = TreesWhole l ts × Whole (shape l t) × WhensWhole l ws

abbrev ClausesWhole : Where → Rescues → Type 0
ClausesWhole l no_clause = ⊤
ClausesWhole l (clause ts x t cs) = TreesWhole l ts × Whole (shape l t) × ClausesWhole l cs

abbrev ParamsWhole : Where → Params → Type 0
ParamsWhole l no_param = ⊤
ParamsWhole l (required x ps) = ParamsWhole l ps
ParamsWhole l (optional x t ps) = Whole (shape l t) × ParamsWhole l ps
ParamsWhole l (rest_param x ps) = ParamsWhole l ps
ParamsWhole l (block_param x ps) = ParamsWhole l ps

args_fit : {h : ℕ} (l : Where) (d : ℕ) (ts : Trees) {k : Shape} (c c1 : ℕ) → TreesWhole l ts → c ≡ h + d → h + d + count ts ≡ c1 → Fit 1 h c1 k → Fit 1 h c (args_shape l d ts k)
args_fit l d no_more c c1 w e g f = at_depth c1 (omega (arith, e, g)) f
args_fit {h} l d (more t ts) c c1 w e g f = inside e (omega arith) (w.0 (h + d)) (args_fit l (suc d) ts (h + d + 1) c1 w.1 (omega arith) (omega (arith, g)) f)

pairs_fit : {h : ℕ} (l : Where) (d : ℕ) (ps : Pairs) {k : Shape} (c c1 : ℕ) → PairsWhole l ps → c ≡ h + d → h + d + 2 * count_pairs ps ≡ c1 → Fit 1 h c1 k → Fit 1 h c (pairs_shape l d ps k)
pairs_fit l d no_pair c c1 w e g f = at_depth c1 (omega (arith, e, g)) f
pairs_fit {h} l d (pair t u ps) c c1 w e g f =
    inside e (omega arith) (w.0 (h + d)) (inside (omega arith) (omega arith) (w.1 (h + suc d)) (pairs_fit l (suc (suc d)) ps (h + suc d + 1) c1 w.2 (omega arith) (omega (arith, g)) f))

pieces_fit : {h : ℕ} (l : Where) (line d : ℕ) (ps : Pieces) {k : Shape} (c c1 : ℕ) → PiecesWhole l ps → c ≡ h + d → h + d + count_pieces ps ≡ c1 → Fit 1 h c1 k → Fit 1 h c (pieces_shape l line d ps k)
pieces_fit l line d no_piece c c1 w e g f = at_depth c1 (omega (arith, e, g)) f
pieces_fit {h} l line d (plain_piece x ps) c c1 w e g f =
    on (h + suc d) (omega arith) (omega (arith, e)) refl refl (omega (arith, e)) (pieces_fit l line (suc d) ps (h + suc d) c1 w refl (omega (arith, g)) f)
pieces_fit {h} l line d (code_piece t ps) c c1 w e g f =
    inside e (omega arith) (w.0 (h + d))
    (on (h + d + 2) (omega arith) (omega arith) refl refl (omega arith)
    (on (h + d + 2) (omega arith) (omega arith) refl refl (omega arith)
    (on (h + suc d) (omega arith) (omega arith) refl refl (omega arith)
    (pieces_fit l line (suc d) ps (h + suc d) c1 w.1 refl (omega (arith, g)) f))))

value_fit : {h : ℕ} (l : Where) (d : ℕ) (v : Other) {k : Shape} (c c1 : ℕ) → OtherWhole l v → c ≡ h + d → h + d + valued v ≡ c1 → Fit 1 h c1 k → Fit 1 h c (value_shape l d v k)
value_fit l d without c c1 w e g f = at_depth c1 (omega (arith, e, g)) f
value_fit {h} l d (with t) c c1 w e g f = inside e (omega arith) (w (h + d)) (at_depth c1 (omega (arith, g)) f)

receiver_fit : {h : ℕ} (l : Where) (o : Other) (line : ℕ) {k : Shape} → OtherWhole l o → Fit 1 h (h + 1) k → Fit 1 h h (receiver_shape l o line k)
receiver_fit {h} l without line w f = on (h + 1) (omega arith) (omega arith) refl refl (omega arith) f
receiver_fit {h} l (with t) line w f = inside (omega arith) (omega arith) (w (h + 0)) (at_depth (h + 1) (omega arith) f)

other_fit : (l : Where) (o : Other) → OtherWhole l o → Whole (other_shape l o)
other_fit l without w = puts refl refl refl refl refl
other_fit l (with t) w = w

last_fit : (h : ℕ) (l : Where) (line : ℕ) (o : Other) → OtherWhole l o → Fit 1 h (h + 1) (last_shape l line o)
last_fit h l line without w = finished refl
last_fit h l line (with t) w = on h (omega arith) (omega arith) refl refl (omega arith) (inside (omega arith) (omega arith) (w (h + 0)) (finished (omega arith)))

values_fit : {h : ℕ} (l : Where) (ts : Trees) (line : ℕ) {k : Shape} → TreesWhole l ts → Fit 1 h (h + 1) k → Fit 1 h h (values_shape l ts line k)
values_fit {h} l no_more line w f = on (h + 1) (omega arith) (omega arith) refl refl (omega arith) f
values_fit {h} l (more t no_more) line w f = inside (omega arith) (omega arith) (w.0 (h + 0)) (at_depth (h + 1) (omega arith) f)
values_fit {h} l (more t (more u us)) line w f =
    inside (omega arith) (omega arith) (w.0 (h + 0))
    (inside (omega arith) (omega arith) (w.1.0 (h + 1))
    (args_fit l 2 us (h + 1 + 1) (h + 2 + count us) w.1.1 (omega arith) refl
    (on (h + 1) (omega arith) (omega arith) refl refl (omega arith) f)))

rest_fit : (h : ℕ) (l : Where) (line : ℕ) (ts : Trees) → TreesWhole l ts → Fit 1 h (h + 1) (rest_shape l line ts)
rest_fit h l line no_more w = finished refl
rest_fit h l line (more t ts) w =
    on h (omega arith) (omega arith) refl refl (omega arith) (inside (omega arith) (omega arith) (w.0 (h + 0)) (at_depth (h + 1) (omega arith) (rest_fit h l line ts w.1)))

all_fit : (l : Where) (line : ℕ) (ts : Trees) → TreesWhole l ts → Whole (all_shape l line ts)
all_fit l line no_more w h = puts refl refl refl refl refl h
all_fit l line (more t ts) w h = inside (omega arith) (omega arith) (w.0 (h + 0)) (at_depth (h + 1) (omega arith) (rest_fit h l line ts w.1))

path_fit : (l : Where) (o : Other) (top : Bool) (xs : List Bytes) (line : ℕ) → OtherWhole l o → Whole (path_shape l o top xs line)
path_fit l without true xs line w h = puts refl refl refl refl refl h
path_fit l without false xs line w h = puts refl refl refl refl refl h
path_fit l (with t) top xs line w h = inside (omega arith) (omega arith) (w (h + 0)) (on (h + 1) (omega arith) (omega arith) refl refl (omega arith) (finished refl))

-- the arguments of a call, its block value, and the call
call_fit : {h : ℕ} (l : Where) (ts : Trees) (v : Other) (line : ℕ) (call : ℕ → Instr) (t : Other) (c : ℕ) → TreesWhole l ts → OtherWhole l v → ((q : ℕ) → Calls (call q) (1 + count ts + valued v)) → c ≡ h + 1
    → Fit 1 h c (args_shape l 1 ts (value_shape l (suc (count ts)) v (with_literal l line call t)))
call_fit {h} l ts v line call t c w u e g =
    args_fit l 1 ts c (h + suc (count ts)) w g (omega arith)
    (value_fit l (suc (count ts)) v (h + suc (count ts)) (h + suc (count ts) + valued v) u refl refl
    (literal_fit l line call t (1 + count ts + valued v) e (omega arith)))

-- ---- the tests and the bodies of a case

looks_at : {h c d n m : ℕ} {s : Shape} → n ≡ m → Looks h c s n d → Looks h c s m d
looks_at {h} {c} {d} {n} {m} {s} e g = subst (λ y. Looks h c s y d) e g

looks_from : {h c c1 d n : ℕ} {s : Shape} → c ≡ c1 → Looks h c1 s n d → Looks h c s n d
looks_from {h} {c} {c1} {d} {n} {s} e g = subst (λ y. Looks h y s n d) (sym e) g

pub pattern_size : (l : Where) (line : ℕ) (ts : Trees) (far : ℕ) (s : Shape) → size (pattern_shape l line ts far s) ≡ size (pattern_shape l line ts 0 done) + size s
pattern_size l line no_more far s = omega arith
pattern_size l line (more t ts) far s = let e = pattern_size l line ts far s in omega (arith, e)

pub patterns_size : (l : Where) (line : ℕ) (ws : Whens) (far : ℕ) (s : Shape) → size (patterns_shape l line ws far s) ≡ size (patterns_shape l line ws 0 done) + size s
patterns_size l line no_when far s = omega arith
patterns_size l line (when ts t ws) far s =
    let a = pattern_size l line ts (size (patterns_shape l line ws 0 done) + far) (patterns_shape l line ws (far + (size (shape l t) + 2)) s) in
    let b = pattern_size l line ts (size (patterns_shape l line ws 0 done) + 0) (patterns_shape l line ws (0 + (size (shape l t) + 2)) done) in
    let c = patterns_size l line ws (far + (size (shape l t) + 2)) s in
    let d = patterns_size l line ws (0 + (size (shape l t) + 2)) done in omega (arith, a, b, c, d)

equal_calls : (t : Tree) → Calls (plain_send (codes "===") 1 (self_flag t)) 2
equal_calls t = plain_calls (codes "===") 1 (self_flag t) (self_bit t)

equal_past : (t : Tree) (h : ℕ) (s : Shape) → past (plain_send (codes "===") 1 (self_flag t)) h (h + 3) s ≡ h + 2
equal_past t h s = let e = no_value (self_flag t) (self_bit t) in omega (arith, e)

pattern_looks : {h n d : ℕ} (l : Where) (line : ℕ) (ts : Trees) (far m : ℕ) {s : Shape} → TreesWhole l ts → m ≡ size (pattern_shape l line ts 0 done) + n → Looks h (h + 1) s n d → Looks h (h + 1) (pattern_shape l line ts far s) m d
pattern_looks {h} {n} {d} l line no_more far m {s} w e g = looks_at (omega (arith, e)) g
pattern_looks {h} {n} l line (more t ts) far m w e g =
    looks_part (h + 2) (3 + size (pattern_shape l line ts 0 done) + n) (fit_size (shape l t) (w.0 (h + 1))) (omega (arith, e)) (omega arith)
    (looks_on (h + 3) (2 + size (pattern_shape l line ts 0 done) + n) (omega arith) (omega arith)
    (looks_on (h + 2) (1 + size (pattern_shape l line ts 0 done) + n) (omega arith) (equal_past t h done)
    (looks_over (h + 1) (size (pattern_shape l line ts 0 done) + n) (omega arith) (omega arith)
    (pattern_looks l line ts far _ w.1 refl g))))

patterns_looks : {h n d : ℕ} (l : Where) (line : ℕ) (ws : Whens) (far m : ℕ) {s : Shape} → WhensWhole l ws → m ≡ size (patterns_shape l line ws 0 done) + n → Looks h (h + 1) s n d → Looks h (h + 1) (patterns_shape l line ws far s) m d
patterns_looks l line no_when far m w e g = looks_at (omega (arith, e)) g
patterns_looks {h} {n} l line (when ts t ws) far m w e g =
    let b = pattern_size l line ts (size (patterns_shape l line ws 0 done) + 0) (patterns_shape l line ws (0 + (size (shape l t) + 2)) done) in
    let d = patterns_size l line ws (0 + (size (shape l t) + 2)) done in
    pattern_looks l line ts _ m w.0 (omega (arith, e, b, d)) (patterns_looks {n = n} l line ws _ (size (patterns_shape l line ws 0 done) + n) w.2 refl g)

-- the bodies stand so far behind what follows the tests, and begin at this depth
abbrev Land : Where → ℕ → ℕ → ℕ → ℕ → Whens → ℕ → Shape → Type 0
Land l h c d gap no_when far s = ⊤
Land l h c d gap (when ts t ws) far s = (far < size s + 1) × Looks h c s far d × Land l h c d gap ws (far + (size (shape l t) + gap)) s

pattern_fit : {h far : ℕ} (l : Where) (line : ℕ) (ts : Trees) {s : Shape} → TreesWhole l ts → far < size s + 1 → Looks h (h + 1) s far (h + 1) → Fit 1 h (h + 1) s → Fit 1 h (h + 1) (pattern_shape l line ts far s)
pattern_fit l line no_more w less g f = f
pattern_fit {h} {far} l line (more t ts) {s} w less g f =
    let z = pattern_size l line ts far s in
    inside refl (omega arith) (w.0 (h + 1))
    (on (h + 3) (omega arith) (omega arith) refl refl (omega arith)
    (calling (h + 2) (equal_calls t) (omega arith) (omega arith)
    (leap (h + 1) leaps_if (omega arith) (omega (arith, z, less)) (omega arith) (omega arith) (pattern_looks {n = far} l line ts far _ w.1 refl g)
    (pattern_fit l line ts w.1 less g f))))

patterns_fit : {h : ℕ} (l : Where) (line : ℕ) (ws : Whens) (far : ℕ) {s : Shape} → WhensWhole l ws → Land l h (h + 1) (h + 1) 2 ws far s → Fit 1 h (h + 1) s → Fit 1 h (h + 1) (patterns_shape l line ws far s)
patterns_fit l line no_when far w g f = f
patterns_fit {h} l line (when ts t ws) far {s} w g f =
    let z = patterns_size l line ws (far + (size (shape l t) + 2)) s in
    pattern_fit l line ts w.0 (omega (arith, z, g.0)) (patterns_looks {n = far} l line ws _ _ w.2 refl g.1) (patterns_fit l line ws (far + (size (shape l t) + 2)) w.2 g.2 f)

cases_begin : (h : ℕ) (l : Where) (line : ℕ) (ws : Whens) → begins h (cases_shape l line ws) ≡ h + 1
cases_begin h l line no_when = refl
cases_begin h l line (when ts t ws) = refl

cases_fit : (h : ℕ) (l : Where) (line : ℕ) (ws : Whens) → WhensWhole l ws → Fit 1 h (h + 1) (cases_shape l line ws)
cases_fit h l line no_when w = finished refl
cases_fit h l line (when ts t ws) w =
    on h (omega arith) (omega arith) refl refl (omega arith)
    (inside (omega arith) (omega arith) (w.1 (h + 0))
    (leap_end (h + 1) leaps_jump (omega arith) refl (omega arith) (cases_begin h l line ws) (cases_fit h l line ws w.2)))

cases_land : {h c : ℕ} (l : Where) (line : ℕ) (ws : Whens) (far : ℕ) (s : Shape) → WhensWhole l ws → ((n d : ℕ) → Looks h (h + 1) (cases_shape l line ws) n d → Looks h c s (far + n) d) → size s ≡ far + size (cases_shape l line ws) → Land l h c (h + 1) 2 ws far s
cases_land l line no_when far s w g e = tt
cases_land {h} {c} l line (when ts t ws) far s w g e = (
  omega (arith, e),
  looks_at (omega arith) (g 0 (h + 1) (looks_here refl refl)),
  cases_land l line ws (far + (size (shape l t) + 2)) s w.2
      (λ n d k. looks_at (omega arith) (g (size (shape l t) + 2 + n) d
      (looks_on h (size (shape l t) + 1 + n) (omega arith) (omega arith)
      (looks_part (h + 1) (1 + n) (fit_size (shape l t) (w.1 h)) (omega arith) (omega arith)
      (looks_over (h + 1) n (omega arith) (cases_begin h l line ws) k)))))
      (omega (arith, e)),
)

case_fit : (h : ℕ) (l : Where) (line : ℕ) (a : Shape) (ws : Whens) (o : Other) → Whole a → WhensWhole l ws → OtherWhole l o
    → Fit 1 h h (part 0 a (patterns_shape l line ws (size (other_shape l o) + 2) (op line Pop (part 0 (other_shape l o) (ahead line Jump (size (cases_shape l line ws)) (cases_shape l line ws))))))
case_fit h l line a ws o w u v =
    inside (omega arith) (omega arith) (w (h + 0))
    (at_depth (h + 1) (omega arith)
    (patterns_fit l line ws (size (other_shape l o) + 2) u
    (cases_land l line ws (size (other_shape l o) + 2) _ u
    (λ n d k. looks_on h (size (other_shape l o) + 1 + n) (omega arith) (omega arith)
    (looks_part (h + 1) (1 + n) (fit_size (other_shape l o) (other_fit l o v h)) (omega arith) (omega arith)
    (looks_over (h + 1) n (omega arith) (cases_begin h l line ws) k)))
    (omega arith))
    (on h (omega arith) (omega arith) refl refl (omega arith)
    (inside (omega arith) (omega arith) (other_fit l o v (h + 0))
    (leap_end (h + 1) leaps_jump (omega arith) refl (omega arith) (cases_begin h l line ws) (cases_fit h l line ws u))))))

-- ---- the same without a value

pub test_size : (l : Where) (line : ℕ) (ts : Trees) (far : ℕ) (s : Shape) → size (test_shape l line ts far s) ≡ size (test_shape l line ts 0 done) + size s
test_size l line no_more far s = omega arith
test_size l line (more t ts) far s = let e = test_size l line ts far s in omega (arith, e)

pub tests_size : (l : Where) (line : ℕ) (ws : Whens) (far : ℕ) (s : Shape) → size (tests_shape l line ws far s) ≡ size (tests_shape l line ws 0 done) + size s
tests_size l line no_when far s = omega arith
tests_size l line (when ts t ws) far s =
    let a = test_size l line ts (size (tests_shape l line ws 0 done) + far) (tests_shape l line ws (far + (size (shape l t) + 1)) s) in
    let b = test_size l line ts (size (tests_shape l line ws 0 done) + 0) (tests_shape l line ws (0 + (size (shape l t) + 1)) done) in
    let c = tests_size l line ws (far + (size (shape l t) + 1)) s in
    let d = tests_size l line ws (0 + (size (shape l t) + 1)) done in omega (arith, a, b, c, d)

test_looks : {h n d : ℕ} (l : Where) (line : ℕ) (ts : Trees) (far m : ℕ) {s : Shape} → TreesWhole l ts → m ≡ size (test_shape l line ts 0 done) + n → Looks h h s n d → Looks h h (test_shape l line ts far s) m d
test_looks l line no_more far m w e g = looks_at (omega (arith, e)) g
test_looks {h} {n} l line (more t ts) far m w e g =
    looks_part (h + 1) (1 + size (test_shape l line ts 0 done) + n) (fit_size (shape l t) (w.0 h)) (omega (arith, e)) (omega arith)
    (looks_over h (size (test_shape l line ts 0 done) + n) (omega arith) (omega arith) (test_looks l line ts far _ w.1 refl g))

tests_looks : {h n d : ℕ} (l : Where) (line : ℕ) (ws : Whens) (far m : ℕ) {s : Shape} → WhensWhole l ws → m ≡ size (tests_shape l line ws 0 done) + n → Looks h h s n d → Looks h h (tests_shape l line ws far s) m d
tests_looks l line no_when far m w e g = looks_at (omega (arith, e)) g
tests_looks {h} {n} l line (when ts t ws) far m w e g =
    let b = test_size l line ts (size (tests_shape l line ws 0 done) + 0) (tests_shape l line ws (0 + (size (shape l t) + 1)) done) in
    let d = tests_size l line ws (0 + (size (shape l t) + 1)) done in
    test_looks l line ts _ m w.0 (omega (arith, e, b, d)) (tests_looks {n = n} l line ws _ (size (tests_shape l line ws 0 done) + n) w.2 refl g)

test_fit : {h far : ℕ} (l : Where) (line : ℕ) (ts : Trees) {s : Shape} → TreesWhole l ts → far < size s + 1 → Looks h h s far h → Fit 1 h h s → Fit 1 h h (test_shape l line ts far s)
test_fit l line no_more w less g f = f
test_fit {h} {far} l line (more t ts) {s} w less g f =
    let z = test_size l line ts far s in
    inside (omega arith) (omega arith) (w.0 (h + 0))
    (leap h leaps_if (omega arith) (omega (arith, z, less)) (omega arith) (omega arith) (test_looks {n = far} l line ts far _ w.1 refl g)
    (test_fit l line ts w.1 less g f))

tests_fit : {h : ℕ} (l : Where) (line : ℕ) (ws : Whens) (far : ℕ) {s : Shape} → WhensWhole l ws → Land l h h h 1 ws far s → Fit 1 h h s → Fit 1 h h (tests_shape l line ws far s)
tests_fit l line no_when far w g f = f
tests_fit {h} l line (when ts t ws) far {s} w g f =
    let z = tests_size l line ws (far + (size (shape l t) + 1)) s in
    test_fit l line ts w.0 (omega (arith, z, g.0)) (tests_looks {n = far} l line ws _ _ w.2 refl g.1) (tests_fit l line ws (far + (size (shape l t) + 1)) w.2 g.2 f)

hits_fit : (h : ℕ) (l : Where) (line : ℕ) (ws : Whens) → WhensWhole l ws → Fit 1 h (begins h (hits_shape l line ws)) (hits_shape l line ws)
hits_fit h l line no_when w = finished refl
hits_fit h l line (when ts t ws) w =
    inside refl (omega arith) (w.1 (h + 0)) (leap_end (begins h (hits_shape l line ws)) leaps_jump (omega arith) refl (omega arith) refl (hits_fit h l line ws w.2))

hits_land : {h c : ℕ} (l : Where) (line : ℕ) (ws : Whens) (far : ℕ) (s : Shape) → WhensWhole l ws → ((n d : ℕ) → Looks h (begins h (hits_shape l line ws)) (hits_shape l line ws) n d → Looks h c s (far + n) d) → size s ≡ far + size (hits_shape l line ws) → Land l h c h 1 ws far s
hits_land l line no_when far s w g e = tt
hits_land {h} {c} l line (when ts t ws) far s w g e = (
  omega (arith, e),
  looks_at (omega arith) (g 0 h (looks_here refl (omega arith))),
  hits_land l line ws (far + (size (shape l t) + 1)) s w.2
      (λ n d k. looks_at (omega arith) (g (size (shape l t) + 1 + n) d
      (looks_part (h + 1) (1 + n) (fit_size (shape l t) (w.1 h)) (omega arith) (omega arith)
      (looks_over (begins h (hits_shape l line ws)) n (omega arith) refl k))))
      (omega (arith, e)),
)

case_tests_fit : (h : ℕ) (l : Where) (line : ℕ) (ws : Whens) (o : Other) → WhensWhole l ws → OtherWhole l o
    → Fit 1 h h (tests_shape l line ws (size (other_shape l o) + 1) (part 0 (other_shape l o) (ahead line Jump (size (hits_shape l line ws)) (hits_shape l line ws))))
case_tests_fit h l line ws o u v =
    tests_fit l line ws (size (other_shape l o) + 1) u
    (hits_land l line ws (size (other_shape l o) + 1) _ u
    (λ n d k. looks_part (h + 1) (1 + n) (fit_size (other_shape l o) (other_fit l o v h)) (omega arith) (omega arith)
    (looks_over (begins h (hits_shape l line ws)) n (omega arith) refl k))
    (omega arith))
    (inside (omega arith) (omega arith) (other_fit l o v (h + 0))
    (leap_end (begins h (hits_shape l line ws)) leaps_jump (omega arith) refl (omega arith) refl (hits_fit h l line ws u)))

-- ---- the clauses of a rescue

pub classes_size : (l : Where) (line : ℕ) (ts : Trees) (far : ℕ) (s : Shape) → size (classes_shape l ts line far s) ≡ size (classes_shape l ts line 0 done) + size s
classes_size l line no_more far s = omega arith
classes_size l line (more t ts) far s = let e = classes_size l line ts far s in omega (arith, e)

pub clause_size : (l : Where) (line : ℕ) (ts : Trees) (far : ℕ) (s : Shape) → size (clause_shape l ts line far s) ≡ size (clause_shape l ts line 0 done) + size s
clause_size l line no_more far s = omega arith
clause_size l line (more t ts) far s = let e = classes_size l line ts far s in omega (arith, e)

pub clauses_size : (l : Where) (line : ℕ) (cs : Rescues) (far : ℕ) (s : Shape) → size (clauses_shape l cs line far s) ≡ size (clauses_shape l cs line 0 done) + size s
clauses_size l line no_clause far s = omega arith
clauses_size l line (clause ts x t cs) far s =
    let n = size (named l line x (part 0 (shape l t) (op line Leave done))) in
    let a = clause_size l line ts (size (clauses_shape l cs line 0 done) + 1 + far) (clauses_shape l cs line (far + n) s) in
    let b = clause_size l line ts (size (clauses_shape l cs line 0 done) + 1 + 0) (clauses_shape l cs line (0 + n) done) in
    let c = clauses_size l line cs (far + n) s in
    let d = clauses_size l line cs (0 + n) done in omega (arith, a, b, c, d)

classes_looks : {h n d : ℕ} (l : Where) (line : ℕ) (ts : Trees) (far m : ℕ) {s : Shape} → TreesWhole l ts → m ≡ size (classes_shape l ts line 0 done) + n → Looks h h s n d → Looks h h (classes_shape l ts line far s) m d
classes_looks l line no_more far m w e g = looks_at (omega (arith, e)) g
classes_looks {h} {n} l line (more t ts) far m w e g =
    looks_on (h + 1) (3 + size (classes_shape l ts line 0 done) + size (shape l t) + n - 1) (omega (arith, e)) (omega arith)
    (looks_part (h + 2) (2 + size (classes_shape l ts line 0 done) + n) (fit_size (shape l t) (w.0 (h + 1))) (omega (arith, e)) (omega arith)
    (looks_on (h + 1) (1 + size (classes_shape l ts line 0 done) + n) (omega arith) (omega arith)
    (looks_over h (size (classes_shape l ts line 0 done) + n) (omega arith) (omega arith)
    (classes_looks l line ts far _ w.1 refl g))))

clause_looks : {h n d : ℕ} (l : Where) (line : ℕ) (ts : Trees) (far m : ℕ) {s : Shape} → TreesWhole l ts → m ≡ size (clause_shape l ts line 0 done) + n → Looks h h s n d → Looks h h (clause_shape l ts line far s) m d
clause_looks {h} {n} l line no_more far m w e g =
    looks_on (h + 1) (3 + n) (omega (arith, e)) (omega arith)
    (looks_on (h + 2) (2 + n) (omega arith) (omega arith)
    (looks_on (h + 1) (1 + n) (omega arith) (omega arith)
    (looks_over h n (omega arith) (omega arith) g)))
clause_looks {h} {n} l line (more t ts) far m w e g = classes_looks l line (more t ts) far m w e g

clauses_looks : {h n d : ℕ} (l : Where) (line : ℕ) (cs : Rescues) (far m : ℕ) {s : Shape} → ClausesWhole l cs → m ≡ size (clauses_shape l cs line 0 done) + n → Looks h h s n d → Looks h h (clauses_shape l cs line far s) m d
clauses_looks l line no_clause far m w e g = looks_at (omega (arith, e)) g
clauses_looks {h} {n} l line (clause ts x t cs) far m w e g =
    let k = size (named l line x (part 0 (shape l t) (op line Leave done))) in
    let b = clause_size l line ts (size (clauses_shape l cs line 0 done) + 1 + 0) (clauses_shape l cs line (0 + k) done) in
    let d = clauses_size l line cs (0 + k) done in
    clause_looks l line ts _ m w.0 (omega (arith, e, b, d)) (clauses_looks {n = n} l line cs _ (size (clauses_shape l cs line 0 done) + n) w.2 refl g)

-- the bodies stand so far behind the throw behind the tests, and begin over the exception
abbrev ClausesLand : Where → ℕ → ℕ → Rescues → ℕ → Shape → Type 0
ClausesLand l h line no_clause far s = ⊤
ClausesLand l h line (clause ts x t cs) far s = (1 + far < size s) × Looks h h s (1 + far) h × ClausesLand l h line cs (far + size (named l line x (part 0 (shape l t) (op line Leave done)))) s

classes_fit : {h far : ℕ} (l : Where) (line : ℕ) (ts : Trees) {s : Shape} → 1 ≤ h → TreesWhole l ts → far < size s → Looks h h s far h → Fit 0 h h s → Fit 0 h h (classes_shape l ts line far s)
classes_fit l line no_more one w less g f = f
classes_fit {h} {far} l line (more t ts) {s} one w less g f =
    let z = classes_size l line ts far s in
    on (h + 1) one (omega arith) refl refl (omega arith)
    (inside refl (omega arith) (w.0 (h + 1))
    (on (h + 1) (omega arith) (omega arith) refl refl (omega arith)
    (leap h leaps_if (omega arith) (omega (arith, z, less)) (omega arith) (omega arith) (classes_looks {n = far} l line ts far _ w.1 refl g)
    (classes_fit l line ts one w.1 less g f))))

clause_fit : {h far : ℕ} (l : Where) (line : ℕ) (ts : Trees) {s : Shape} → 1 ≤ h → TreesWhole l ts → far < size s → Looks h h s far h → Fit 0 h h s → Fit 0 h h (clause_shape l ts line far s)
clause_fit {h} {far} l line no_more {s} one w less g f =
    on (h + 1) one (omega arith) refl refl (omega arith)
    (on (h + 2) (omega arith) (omega arith) refl refl (omega arith)
    (on (h + 1) (omega arith) (omega arith) refl refl (omega arith)
    (leap h leaps_if (omega arith) (omega (arith, less)) (omega arith) (omega arith) g f)))
clause_fit l line (more t ts) one w less g f = classes_fit l line (more t ts) one w less g f

clauses_fit : {h : ℕ} (l : Where) (line : ℕ) (cs : Rescues) (far : ℕ) {s : Shape} → 1 ≤ h → ClausesWhole l cs → ClausesLand l h line cs far s → Fit 0 h h s → Fit 0 h h (clauses_shape l cs line far s)
clauses_fit l line no_clause far one w g f = f
clauses_fit {h} l line (clause ts x t cs) far {s} one w g f =
    let k = size (named l line x (part 0 (shape l t) (op line Leave done))) in
    let z = clauses_size l line cs (far + k) s in
    clause_fit l line ts one w.0 (omega (arith, z, g.0)) (clauses_looks {n = 1 + far} l line cs _ _ w.2 (omega arith) g.1) (clauses_fit l line cs (far + k) one w.2 g.2 f)

named_begins : (h : ℕ) (l : Where) (line : ℕ) (x : Option Bytes) (a s : Shape) → begins h (named l line x (part 0 a s)) ≡ h
named_begins h l line None a s = omega arith
named_begins h l line (Some x) a s = refl

pub named_size : (l : Where) (line : ℕ) (x : Option Bytes) (a s : Shape) → size (named l line x (part 0 a (op line Leave s))) ≡ size (named l line x (part 0 a (op line Leave done))) + size s
named_size l line None a s = omega arith
named_size l line (Some x) a s = omega arith

named_some : (l : Where) (line : ℕ) (x : Option Bytes) (a s : Shape) → 0 < size (named l line x (part 0 a (op line Leave s)))
named_some l line None a s = omega arith
named_some l line (Some x) a s = omega arith

bodies_fit : (h : ℕ) (l : Where) (line : ℕ) (cs : Rescues) → 1 ≤ h → ClausesWhole l cs → Fit 0 h (begins h (bodies_shape l cs line)) (bodies_shape l cs line)
bodies_fit h l line no_clause one w = finished refl
bodies_fit h l line (clause ts x t cs) one w =
    at_depth h (sym (named_begins h l line x (shape l t) (op line Leave (bodies_shape l cs line))))
    (named_fit l line x one
    (inside (omega arith) (omega arith) (w.1 (h + 0))
    (off (begins h (bodies_shape l cs line)) (omega arith) (omega arith) refl refl refl (bodies_fit h l line cs one w.2))))

named_looks : {h n d : ℕ} (l : Where) (line : ℕ) (x : Option Bytes) (a s : Shape) (m : ℕ) → m ≡ size (named l line x (part 0 a (op line Leave done))) + n → 0 < size a → Looks h (begins h s) s n d → Looks h h (named l line x (part 0 a (op line Leave s))) m d
named_looks {h} {n} l line None a s m e less g = looks_part (h + 1) (1 + n) less (omega (arith, e)) (omega arith) (looks_on (begins h s) n (omega arith) refl g)
named_looks {h} {n} l line (Some x) a s m e less g =
    looks_on (h + 1) (size a + 2 + n) (omega (arith, e)) (omega arith)
    (looks_on h (size a + 1 + n) (omega arith) (omega arith)
    (looks_part (h + 1) (1 + n) less (omega arith) (omega arith) (looks_on (begins h s) n (omega arith) refl g)))

bodies_land : {h : ℕ} (l : Where) (line : ℕ) (cs : Rescues) (far : ℕ) (s : Shape) → ClausesWhole l cs
    → ((n d : ℕ) → Looks h (begins h (bodies_shape l cs line)) (bodies_shape l cs line) n d → Looks h h s (1 + far + n) d) → size s ≡ 1 + far + size (bodies_shape l cs line) → ClausesLand l h line cs far s
bodies_land l line no_clause far s w g e = tt
bodies_land {h} l line (clause ts x t cs) far s w g e =
    let k = size (named l line x (part 0 (shape l t) (op line Leave done))) in
    let z = named_size l line x (shape l t) (bodies_shape l cs line) in
    let y = named_some l line x (shape l t) done in (
      omega (arith, e, z, y),
      looks_at (omega arith) (g 0 h (looks_here refl (named_begins h l line x (shape l t) (op line Leave (bodies_shape l cs line))))),
      bodies_land l line cs (far + k) s w.2
          (λ n d a. looks_at (omega arith) (g (k + n) d
          (looks_from (named_begins h l line x (shape l t) (op line Leave (bodies_shape l cs line)))
          (named_looks l line x (shape l t) (bodies_shape l cs line) (k + n) refl (fit_size (shape l t) (w.1 h)) a))))
          (omega (arith, e, z)),
    )

-- ---- the forms

safe_fit : (h : ℕ) (l : Where) (line : ℕ) (a s : Shape) → Whole a → Fit 1 h (h + 1) s → Fit 1 h h (part 0 a (op line Dup (ahead line BranchNil (size s) s)))
safe_fit h l line a s w f =
    inside (omega arith) (omega arith) (w (h + 0))
    (on (h + 2) (omega arith) (omega arith) refl refl (omega arith)
    (leap_end (h + 1) leaps_nil (omega arith) refl (omega arith) (omega arith) f))

-- the second value is needed where the first decides nothing
logic_fit : (h : ℕ) (line : ℕ) (branch : ℕ → Instr) (a c : Shape) → Leaps branch → takes_of (branch 0) ≡ 1 → leaves_of (branch 0) ≡ 0 → IsTrue (goes_on (branch 0)) → Whole a → Whole c
    → Fit 1 h h (part 0 a (op line Dup (ahead line branch (suc (size c)) (op line Pop (part 0 c done)))))
logic_fit h line branch a c b bt bl bg w u =
    inside (omega arith) (omega arith) (w (h + 0))
    (on (h + 2) (omega arith) (omega arith) refl refl (omega arith)
    (leap_end (h + 1) b (omega (arith, bt)) (omega arith) (omega (arith, bt, bl)) (goes_past (op line Pop (part 0 c done)) bg)
    (on h (omega arith) (omega arith) refl refl (omega arith)
    (inside (omega arith) (omega arith) (u (h + 0)) (finished (omega arith))))))
  where
    goes_past : (s : Shape) → IsTrue (goes_on (branch 0)) → past (branch 0) h (h + 2) s ≡ h + 1
    goes_past s g = ap (λ z. cond z (depth_after (branch 0) (h + 2)) (begins h s)) g ∙ omega (arith, bt, bl)

if_fit : (h : ℕ) (line : ℕ) (c a o : Shape) → Whole c → Whole a → Whole o → Fit 1 h h (part 0 c (ahead line BranchUnless (size a + 1) (part 0 a (ahead line Jump (size o) (part 0 o done)))))
if_fit h line c a o w u v =
    inside (omega arith) (omega arith) (w (h + 0))
    (leap {d = h} h leaps_unless (omega arith) (omega arith) (omega arith) (omega arith)
    (looks_part (h + 1) 1 (fit_size a (u h)) refl (omega arith) (looks_over h 0 refl (omega arith) (looks_here refl refl)))
    (inside (omega arith) (omega arith) (u (h + 0))
    (leap_end h leaps_jump (omega arith) (omega arith) (omega arith) (omega arith)
    (inside (omega arith) (omega arith) (v (h + 0)) (finished (omega arith))))))

while_fit : (h : ℕ) (line : ℕ) (u : Bool) (a c : Shape) → Whole a → Whole c → Fit 1 h h (ahead line Jump (size a + 1) (turns line u a c))
while_fit h line u a c w v =
    leap {d = h} h leaps_jump (omega arith) (omega arith) (omega arith) refl
    (looks_held (h + 1) 1 (let e = fit_size a (w h) in omega (arith, e)) (omega arith) refl (looks_on h 0 refl (omega arith) (looks_here refl refl)))
    (turns_fit line u a c w v)

throw_fit : {h : ℕ} (line : ℕ) (b : Bool) (n m : ℕ) → Fit 1 h (h + 1) (op line (Throw (suc n)) done) → Fit 1 h (h + 1) (op line (Throw (suc m)) done) → Fit 1 h (h + 1) (op line (Throw (throw_by b (suc n) (suc m))) done)
throw_fit line true n m f g = f
throw_fit line false n m f g = g

rescue_fit : (h : ℕ) (q : ℕ) (a s : Shape) → Whole a → Fit 1 h (h + 1) s → Fit 1 h h (held catches.Rescue (size s) q a s)
rescue_fit h q a s w f = record {
  fits = λ b m o. (λ ab. refl, fit_size a (w h), omega arith, inl (omega arith, ends), (w h).fits None 0 (Some (size s)), f.fits (Some (size a)) h o);
}
  where
    ends : look h (h + 1) s (size s) ≡ h + 1
    ends = let g : Looks h (h + 1) s (size s) (h + 1) = looks_end refl refl f in g.is

ensure_fit : (h : ℕ) (line q : ℕ) (a : Shape) → Whole a → Fit 1 h h (held catches.Ensure 0 q (part 0 a (op line (Throw 6) done)) done)
ensure_fit h line q a w = record {
  fits = λ b m o. let f : Fit 1 h h (part 0 a (op line (Throw 6) done)) = inside (omega arith) (omega arith) (w (h + 0)) (on (h + 1) (omega arith) (omega arith) refl refl (omega arith) (finished refl)) in
      (λ ab. refl, omega arith, omega arith, inl (omega arith, refl), f.fits None 0 (Some 0), refl);
}

-- what two values under the receiver are, and a value that is set there
attribute_fit : (h : ℕ) (line call : ℕ) (x : Bytes) (flags : ℕ) (a t : Shape) → (flags ≡ 0) ⊎ (flags ≡ 1) → Whole a → Whole t → Fit 1 h h (op line PutNil (part 1 a (part 2 t (set_by_send line call 2 x 1 flags done))))
attribute_fit h line call x flags a t e w u =
    on (h + 1) (omega arith) (omega arith) refl refl (omega arith)
    (inside refl (omega arith) (w (h + 1))
    (inside (omega arith) (omega arith) (u (h + 2))
    (by_send_fit line call 2 x 1 flags (h + 2 + 1) refl e refl (finished refl))))

index_fit : (h : ℕ) (line call flags : ℕ) (a i t : Shape) → (flags ≡ 0) ⊎ (flags ≡ 1) → Whole a → Whole i → Whole t
    → Fit 1 h h (op line PutNil (part 1 a (part 2 i (part 3 t (set_by_send line call 3 (codes "[]=") 2 flags done)))))
index_fit h line call flags a i t e w v u =
    on (h + 1) (omega arith) (omega arith) refl refl (omega arith)
    (inside refl (omega arith) (w (h + 1))
    (inside (omega arith) (omega arith) (v (h + 2))
    (inside (omega arith) (omega arith) (u (h + 3))
    (by_send_fit line call 3 (codes "[]=") 2 flags (h + 3 + 1) refl e refl (finished refl)))))

operated_fit : {h : ℕ} (line call at_line depth : ℕ) (f x : Bytes) (n flags : ℕ) (t : Shape) (c : ℕ) → depth ≡ n + 1 → (flags ≡ 0) ⊎ (flags ≡ 1) → c ≡ h + depth + 1 → Whole t
    → Fit 1 h c (part (suc depth) t (op at_line (plain_send f 1 0) (set_by_send line call depth x n flags done)))
operated_fit {h} line call at_line depth f x n flags t c d e k w =
    inside (omega (arith, k)) (omega arith) (w (h + suc depth))
    (calling (h + depth + 1) (plain_calls f 1 0 (inl refl)) (omega arith) (omega arith)
    (by_send_fit line call depth x n flags (h + depth + 1) d e refl (finished refl)))

mutual
  tree_fits : (l : Where) (k : Bool) (t : Tree) → IsFormed k t → (h : ℕ) → Fit 1 h h (shape l t)
  tree_fits l k (at s (nil_value)) f h = puts refl refl refl refl refl h
  tree_fits l k (at s (true_value)) f h = puts refl refl refl refl refl h
  tree_fits l k (at s (false_value)) f h = puts refl refl refl refl refl h
  tree_fits l k (at s (integer i)) f h = puts refl refl refl refl refl h
  tree_fits l k (at s (symbol x)) f h = puts refl refl refl refl refl h
  tree_fits l k (at s (text x)) f h = puts refl refl refl refl refl h
  tree_fits l k (at s (self_value)) f h = puts refl refl refl refl refl h
  tree_fits l k (at s (file_name)) f h = puts refl refl refl refl refl h
  tree_fits l k (at s (folder_name)) f h = puts refl refl refl refl refl h
  tree_fits l k (at s (line_number)) f h = puts refl refl refl refl refl h
  tree_fits l k (at s (local x)) f h = puts refl refl refl refl refl h
  tree_fits l k (at s (instance x)) f h = puts refl refl refl refl refl h
  tree_fits l k (at s (global x)) f h = puts refl refl refl refl refl h
  tree_fits l k (at s (joined ps)) f h = pieces_fit l (own l s) 0 ps h (h + count_pieces ps) (pieces_whole l k ps f) (omega arith) (omega arith) (on (h + 1) (omega arith) (omega arith) refl refl (omega arith) (finished refl))
  tree_fits l k (at s (array ts ks)) f h = args_fit l 0 ts h (h + count ts) (trees_whole l k ts f.1) (omega arith) (omega arith) (on (h + 1) (omega arith) (omega arith) refl refl (omega arith) (finished refl))
  tree_fits l k (at s (hash ps)) f h = pairs_fit l 0 ps h (h + 2 * count_pairs ps) (pairs_whole l k ps f) (omega arith) (omega arith) (on (h + 1) (omega arith) (omega arith) refl refl (omega arith) (finished refl))
  tree_fits l k (at s (range a c e)) f h =
      inside (omega arith) (omega arith) (tree_fits l k a f.0 (h + 0)) (inside (omega arith) (omega arith) (tree_fits l k c f.1 (h + 1)) (on (h + 1) (omega arith) (omega arith) refl refl (omega arith) (finished refl)))
  tree_fits l k (at s (constant_path o top xs)) f h = path_fit l o top xs (own l s) (other_whole l k o f.1) h
  tree_fits l k (at s (assign t g)) f h =
      inside (omega arith) (omega arith) (tree_fits l k t f (h + 0)) (on (h + 2) (omega arith) (omega arith) refl refl (omega arith) (setting l g (omega arith) (finished (omega arith))))
  tree_fits l k (at s (assign_all ts gs)) f h =
      values_fit l ts (own l s) (trees_whole l k ts f)
      (on (h + 2) (omega arith) (omega arith) refl refl (omega arith)
      (on (h + 1 + length gs) (omega arith) (omega arith) refl refl (omega arith) (sets_fit l (own l s) gs (h + 1 + length gs) refl (finished refl))))
  tree_fits l k (at s (assign_attribute a t m)) f h = attribute_fit h (start l s) (own l s) m (self_flag a) (shape l a) (shape l t) (self_bit a) (tree_fits l k a f.0) (tree_fits l k t f.1)
  tree_fits l k (at s (assign_index a i t)) f h = index_fit h (start l s) (own l s) (self_flag a) (shape l a) (shape l i) (shape l t) (self_bit a) (tree_fits l k a f.0) (tree_fits l k i f.1.0) (tree_fits l k t f.1.1)
  tree_fits l k (at s (operate_attribute a x t y m n)) f h =
      attribute_read_fit (start l s) (own l s) x (self_flag a) (self_bit a) (tree_fits l k a f.0) (operated_fit (start l s) (own l s) (line_at l n) 2 y m 1 (self_flag a) (shape l t) (h + 3) refl (self_bit a) (omega arith) (tree_fits l k t f.1))
  tree_fits l k (at s (or_attribute a x t m)) f h =
      attribute_read_fit (start l s) (own l s) x (self_flag a) (self_bit a) (tree_fits l k a f.0)
      (or_set_fit (start l s) (own l s) BranchIf 2 m 1 (self_flag a) (shape l t) (h + 3) leaps_if refl refl refl refl (self_bit a) (omega arith) (tree_fits l k t f.1))
  tree_fits l k (at s (and_attribute a x t m)) f h =
      attribute_read_fit (start l s) (own l s) x (self_flag a) (self_bit a) (tree_fits l k a f.0)
      (or_set_fit (start l s) (own l s) BranchUnless 2 m 1 (self_flag a) (shape l t) (h + 3) leaps_unless refl refl refl refl (self_bit a) (omega arith) (tree_fits l k t f.1))
  tree_fits l k (at s (operate_index a i t y n)) f h =
      index_read_fit (start l s) (own l s) (self_flag a) (self_bit a) (tree_fits l k a f.0) (tree_fits l k i f.1.0)
      (operated_fit (start l s) (own l s) (line_at l n) 3 y (codes "[]=") 2 (self_flag a) (shape l t) (h + 4) refl (self_bit a) (omega arith) (tree_fits l k t f.1.1))
  tree_fits l k (at s (or_index a i t)) f h =
      index_read_fit (start l s) (own l s) (self_flag a) (self_bit a) (tree_fits l k a f.0) (tree_fits l k i f.1.0)
      (or_set_fit (start l s) (own l s) BranchIf 3 (codes "[]=") 2 (self_flag a) (shape l t) (h + 4) leaps_if refl refl refl refl (self_bit a) (omega arith) (tree_fits l k t f.1.1))
  tree_fits l k (at s (and_index a i t)) f h =
      index_read_fit (start l s) (own l s) (self_flag a) (self_bit a) (tree_fits l k a f.0) (tree_fits l k i f.1.0)
      (or_set_fit (start l s) (own l s) BranchUnless 3 (codes "[]=") 2 (self_flag a) (shape l t) (h + 4) leaps_unless refl refl refl refl (self_bit a) (omega arith) (tree_fits l k t f.1.1))
  tree_fits l k (at s (send o ts ks v x bare t)) f h =
      receiver_fit l o (start l s) (other_whole l k o f.1.0)
      (call_fit l ts v (own l s) (Send x (count ts) ks (receiver_flag o + value_flag v + bare_flag bare)) t (h + 1) (trees_whole l k ts f.1.1.0) (other_whole l k v f.1.1.1.0)
      (λ q. send_calls x (count ts) ks (receiver_flag o + value_flag v + bare_flag bare) q (valued v) (flags_value (receiver_flag o) v bare (receiver_bit o))) refl)
  tree_fits l k (at s (safe_send a ts ks v x t)) f h =
      safe_fit h l (start l s) (shape l a) _ (tree_fits l k a f.1.0)
      (call_fit l ts v (own l s) (Send x (count ts) ks (self_flag a + value_flag v)) t (h + 1) (trees_whole l k ts f.1.1.0) (other_whole l k v f.1.1.1.0)
      (λ q. send_calls x (count ts) ks (self_flag a + value_flag v) q (valued v) (two_flags (self_flag a) v (self_bit a))) refl)
  tree_fits l k (at s (yield ts ks)) f h = args_fit l 0 ts h (h + count ts) (trees_whole l k ts f.1) (omega arith) (omega arith) (on (h + 1) (omega arith) (omega arith) refl refl (omega arith) (finished refl))
  tree_fits l k (at s (super ts ks v t)) f h =
      on (h + 1) (omega arith) (omega arith) refl refl (omega arith)
      (call_fit l ts v (own l s) (InvokeSuper (count ts) ks (1 + value_flag v)) t (h + 1) (trees_whole l k ts f.1.0) (other_whole l k v f.1.1.0)
      (λ q. super_calls (count ts) ks (1 + value_flag v) q (valued v) (two_flags 1 v (inr refl))) refl)
  tree_fits l k (at s (bare_super t)) f h =
      on (h + 1) (omega arith) (omega arith) refl refl (omega arith)
      (gets_fit l (own l s) (names_of_params (params_of l.sight.body)) (h + 1) (h + 1 + length (names_of_params (params_of l.sight.body))) (omega arith) refl
      (literal_fit l (own l s) (InvokeSuper (length (names_of_params (params_of l.sight.body))) [] 1) t (1 + length (names_of_params (params_of l.sight.body)) + 0)
      (λ q. super_calls (length (names_of_params (params_of l.sight.body))) [] 1 q 0 refl) (omega arith)))
  tree_fits l k (at s (bare_raise)) f h =
      on (h + 1) (omega arith) (omega arith) refl refl (omega arith)
      (deep_on (h + 2) (omega arith) (omega arith) refl refl (omega arith)
      (calling (h + 1) (plain_calls (codes "raise") 1 1 (inr refl)) (omega arith) (omega arith) (finished refl)))
  tree_fits l k (at s (statements ts)) f h = all_fit l (own l s) ts (trees_whole l k ts f) h
  tree_fits l k (at s (both a c)) f h = logic_fit h (own l s) BranchUnless (shape l a) (shape l c) leaps_unless refl refl refl (tree_fits l k a f.0) (tree_fits l k c f.1)
  tree_fits l k (at s (either a c)) f h = logic_fit h (own l s) BranchIf (shape l a) (shape l c) leaps_if refl refl refl (tree_fits l k a f.0) (tree_fits l k c f.1)
  tree_fits l k (at s (negated a)) f h =
      inside (omega arith) (omega arith) (tree_fits l k a f (h + 0)) (calling (h + 1) (plain_calls (codes "!") 0 (self_flag a) (self_bit a)) (omega arith) (omega arith) (finished refl))
  tree_fits l k (at s (if_else c a o)) f h = if_fit h (own l s) (shape l c) (shape l a) (other_shape l o) (tree_fits l k c f.0) (tree_fits l k a f.1.0) (other_fit l o (other_whole l k o f.1.1))
  tree_fits l k (at s (while_loop a c u false)) f h = while_fit h (own l s) u (shape (looped l) a) (shape l c) (tree_fits (looped l) k a f.0) (tree_fits l k c f.1)
  tree_fits l k (at s (while_loop a c u true)) f h = turns_fit (own l s) u (shape (looped l) a) (shape l c) (tree_fits (looped l) k a f.0) (tree_fits l k c f.1)
  tree_fits l k (at s (case_of a ws o)) f h = case_fit h l (own l s) (shape l a) ws o (tree_fits l k a f.0) (whens_whole l k ws f.1.0) (other_whole l k o f.1.1)
  tree_fits l k (at s (case_tests ws o)) f h = case_tests_fit h l (own l s) ws o (whens_whole l k ws f.0) (other_whole l k o f.1)
  tree_fits l k (at s (return_with ts)) f h = values_fit l ts (own l s) (trees_whole l k ts f) (on (h + 1) (omega arith) (omega arith) refl refl (omega arith) (finished refl))
  tree_fits l k (at s (break_with ts)) f h =
      values_fit l ts (own l s) (trees_whole l k ts f)
      (throw_fit (own l s) l.loop 1 3 (on (h + 1) (omega arith) (omega arith) refl refl (omega arith) (finished refl)) (on (h + 1) (omega arith) (omega arith) refl refl (omega arith) (finished refl)))
  tree_fits l k (at s (next_with ts)) f h =
      values_fit l ts (own l s) (trees_whole l k ts f)
      (throw_fit (own l s) l.loop 2 4 (on (h + 1) (omega arith) (omega arith) refl refl (omega arith) (finished refl)) (on (h + 1) (omega arith) (omega arith) refl refl (omega arith) (finished refl)))
  tree_fits l k (at s (retry)) f h = on (h + 1) (omega arith) (omega arith) refl refl (omega arith) (on (h + 1) (omega arith) (omega arith) refl refl (omega arith) (finished refl))
  tree_fits l k (at s (rescue a o c)) f h = rescue_fit h (number_of l c) (shape l a) (last_shape l (own l s) o) (tree_fits l k a f.0) (last_fit h l (own l s) o (other_whole l k o f.1.0))
  tree_fits l k (at s (ensure a c)) f h = ensure_fit h (own l s) (number_of l c) (shape l a) (tree_fits l k a f.0)
  tree_fits l k (at s (method x t y)) f h = on h (omega arith) (omega arith) refl refl (omega arith) (on (h + 1) (omega arith) (omega arith) refl refl (omega arith) (finished refl))
  tree_fits l k (at s (class without x t)) f h = on (h + 1) (omega arith) (omega arith) refl refl (omega arith) (on (h + 1) (omega arith) (omega arith) refl refl (omega arith) (finished refl))
  tree_fits l k (at s (class (with c) x t)) f h = inside (omega arith) (omega arith) (tree_fits l k c f.0 (h + 0)) (on (h + 1) (omega arith) (omega arith) refl refl (omega arith) (finished refl))
  tree_fits l k (at s (module_named x t)) f h = on (h + 1) (omega arith) (omega arith) refl refl (omega arith) (on (h + 1) (omega arith) (omega arith) refl refl (omega arith) (finished refl))
  tree_fits l k (at s (rescue_sequence cs)) f h = absurd f
  tree_fits l k (at s (ensure_sequence a)) f h = absurd f
  tree_fits l k (at s (body ps t)) f h = absurd f

  trees_whole : (l : Where) (k : Bool) (ts : Trees) → TreesFormed k ts → TreesWhole l ts
  trees_whole l k no_more f = tt
  trees_whole l k (more t ts) f = (tree_fits l k t f.0, trees_whole l k ts f.1)

  other_whole : (l : Where) (k : Bool) (o : Other) → OtherFormed k o → OtherWhole l o
  other_whole l k without f = tt
  other_whole l k (with t) f = tree_fits l k t f

  pairs_whole : (l : Where) (k : Bool) (ps : Pairs) → PairsFormed k ps → PairsWhole l ps
  pairs_whole l k no_pair f = tt
  pairs_whole l k (pair t u ps) f = (tree_fits l k t f.0, tree_fits l k u f.1.0, pairs_whole l k ps f.1.1)

  pieces_whole : (l : Where) (k : Bool) (ps : Pieces) → PiecesFormed k ps → PiecesWhole l ps
  pieces_whole l k no_piece f = tt
  pieces_whole l k (plain_piece x ps) f = pieces_whole l k ps f
  pieces_whole l k (code_piece t ps) f = (tree_fits l k t f.0, pieces_whole l k ps f.1)

  whens_whole : (l : Where) (k : Bool) (ws : Whens) → WhensFormed k ws → WhensWhole l ws
  whens_whole l k no_when f = tt
  whens_whole l k (when ts t ws) f = (trees_whole l k ts f.0, tree_fits l k t f.1.0, whens_whole l k ws f.1.1)

clauses_whole : (l : Where) (k : Bool) (cs : Rescues) → ClausesFormed k cs → ClausesWhole l cs
clauses_whole l k no_clause f = tt
clauses_whole l k (clause ts x t cs) f = (trees_whole l k ts f.0, tree_fits l k t f.1.0, clauses_whole l k cs f.1.1)

params_whole : (l : Where) (k : Bool) (ps : Params) → ParamsFormed k ps → ParamsWhole l ps
params_whole l k no_param f = tt
params_whole l k (required x ps) f = params_whole l k ps f
params_whole l k (optional x t ps) f = (tree_fits l k t f.0, params_whole l k ps f.1)
params_whole l k (rest_param x ps) f = params_whole l k ps f
params_whole l k (block_param x ps) f = params_whole l k ps f

-- ---- whole sequences, which nothing stands behind

params_fit : {h : ℕ} (l : Where) (ps : Params) {k : Shape} → 0 < size k → ParamsWhole l ps → Fit 0 h h k → Fit 0 h h (params_shape l ps k)
params_fit l no_param less w f = f
params_fit l (required x ps) less w f = params_fit l ps less w f
params_fit {h} l (optional x t ps) {k} less w f = inside (omega arith) (omega arith) (w.0 (h + 0)) (setting l (to_local x) (omega arith) (at_depth h (omega arith) (params_fit l ps less w.1 f)))
params_fit l (rest_param x ps) less w f = params_fit l ps less w f
params_fit l (block_param x ps) less w f = params_fit l ps less w f

pub body_fits : (l : Where) (h : ℕ) (t : Tree) → IsBody t → Fit 0 h h (shape l t)
body_fits l h (at s (body ps t)) f =
    params_fit l ps (omega arith) (params_whole l false ps f.1.0)
    (inside (omega arith) (omega arith) (tree_fits l false t f.1.1 (h + 0)) (off (h + 1) (omega arith) (omega arith) refl refl refl (finished refl)))
body_fits l h (at s f) g = absurd g

pub rescue_part_fits : (l : Where) (h : ℕ) (t : Tree) → 1 ≤ h → IsRescuePart t → Fit 0 h h (shape l t)
rescue_part_fits l h (at s (rescue_sequence cs)) one f =
    let w = clauses_whole l true cs f in
    clauses_fit l (own l s) cs 0 one w
    (bodies_land l (own l s) cs 0 _ w (λ n d g. looks_on (begins h (bodies_shape l cs (own l s))) n (omega arith) refl g) (omega arith))
    (off (begins h (bodies_shape l cs (own l s))) (omega arith) (omega arith) refl refl refl (bodies_fit h l (own l s) cs one w))
rescue_part_fits l h (at s f) one g = absurd g

pub ensure_part_fits : (l : Where) (h : ℕ) (t : Tree) → IsEnsurePart t → Fit 0 h h (shape l t)
ensure_part_fits l h (at s (ensure_sequence a)) f =
    inside (omega arith) (omega arith) (tree_fits l false a f (h + 0))
    (on h (omega arith) (omega arith) refl refl (omega arith)
    (off (h + 1) (omega arith) (omega arith) refl refl refl (finished refl)))
ensure_part_fits l h (at s f) g = absurd g
