-- Where bodies begin, and how sequences end.
use Rattle.std.proofs.Common.{◌≡◌, ℕ, suc, ◌+◌, ◌-◌, ◌≤◌, ◌<◌, Bool, true, false, cond, refl, subst, arith, List, [], ◌∷◌, ◌++◌, length, Option, Some, None, get_or}
use Rattle.std.specs.Prelude.{IsTrue, slice_get}
use Rattle.std.specs.List.{AllByRecursion}
use Rattle.std.proofs.lemmas.Option.{slice_get-get_or}
use Rattle.ruby_tree.specs.Names.{Bytes}
use Rattle.ruby_tree.specs.Tree.{Tree, at, rescue_sequence, ensure_sequence, body, Trees, no_more, more, Rescues, no_clause, clause, Params, no_param, required, optional, rest_param, block_param}
use Rattle.iseq_types.specs.declared.instructions.Instr.{Instr}
use Rattle.iseq_types.specs.declared.instructions.Instr.TheVariants.{Throw, Leave}
use Rattle.iseq_types.specs.declared.sequences.Line.{Line}
use Rattle.iseq_types.specs.Instructions.{is_ending}
use Rattle.iseq_types.specs.Depths.{DepthAt}
use Rattle.code_meaning.specs.Code.{at_line, Shape, done, op, ahead, part, size, finish, lines_of}
use Rattle.code_meaning.proofs.Sizes.{finish_size}
use Rattle.compile_table.specs.Shapes.{Where, own, named, set_local, shape, params_shape, clauses_shape, clause_shape, classes_shape, bodies_shape}
use Rattle.compile_table.specs.Sequences.{has_optional, entries_from, entries_of}
use Rattle.tree_laws.specs.Formed.{IsBody, IsRescuePart, IsEnsurePart}
use Rattle.compile_laws.proofs.ShapeDepths.{past, depths_of, Edges, step, Fits, Fit, Marked, marked}
use Rattle.compile_laws.proofs.ShapeSound.{at_first}
use Rattle.compile_laws.proofs.SequenceSound.{lines_size, IsEntry}

-- ---- entries

module _ (found : List (Option ℕ)) (end : ℕ) where
  abbrev Enters : ℕ → Type 0
  Enters entry = (entry < end) × DepthAt found entry 0

  entries_from_right : (l : Where) (ps : Params) (k : Shape) (e : Edges) (c p : ℕ) → 0 < size k → Fits e 0 c (params_shape l ps k) → c ≡ 0 → Marked found 0 c p (params_shape l ps k) → finish p (params_shape l ps k) ≤ end
      → AllByRecursion Enters (entries_from l p ps)
  entries_from_right l no_param k e c p less f z m room =
      ((let y = finish_size k p in omega arith, subst (DepthAt found p) z (at_first found [] [] end k e 0 c p less f m)), tt)
  entries_from_right l (required x ps) k e c p less f z m room = entries_from_right l ps k e c p less f z m room
  entries_from_right l (optional x t ps) k e c p less f z m room =
      let s = op l.first (set_local l x) (params_shape l ps k) in
      let y = finish_size (shape l t) p in let u = finish_size (params_shape l ps k) (finish p (shape l t) + 1) in (
        (omega arith, subst (DepthAt found p) z (at_first found [] [] end (part 0 (shape l t) s) e 0 c p (omega arith) f m)),
        entries_from_right l ps k (step 1 (step (size (shape l t)) e)) (past (set_local l x) 0 (0 + 0 + 1) (params_shape l ps k)) (finish p (shape l t) + 1) less f.4.3 refl m.1.1 room,
      )
  entries_from_right l (rest_param x ps) k e c p less f z m room = entries_from_right l ps k e c p less f z m room
  entries_from_right l (block_param x ps) k e c p less f z m room = entries_from_right l ps k e c p less f z m room

pub entries_right : (l : Where) (ps : Params) (k : Shape) → 0 < size k → Fit 0 0 0 (params_shape l ps k)
    → AllByRecursion (IsEntry (lines_of 0 0 (params_shape l ps k)) (depths_of 0 0 (params_shape l ps k))) (entries_of l ps)
entries_right l ps k less f = by_flag (has_optional ps)
  where
    s : Shape
    s = params_shape l ps k

    by_flag : (b : Bool) → AllByRecursion (IsEntry (lines_of 0 0 (params_shape l ps k)) (depths_of 0 0 (params_shape l ps k))) (cond b (entries_from l 0 ps) [])
    by_flag true =
        entries_from_right (depths_of 0 0 s) (length (lines_of 0 0 s)) l ps k (record { room = 0; back = None; entered = 0; outer = None }) 0 0 less (f.fits None 0 None) refl (marked s 0 0)
        (let y = lines_size s 0 0 in let z = finish_size s 0 in omega arith)
    by_flag false = tt

-- ---- the last instruction

-- the last of these lines may end a sequence
abbrev Closing : List Line → Type 0
Closing [] = ⊥
Closing (x ∷ []) = IsTrue (is_ending x.instr)
Closing (x ∷ y ∷ ys) = Closing (y ∷ ys)

closing_on : (x : Line) (xs : List Line) → Closing xs → Closing (x ∷ xs)
closing_on x [] c = absurd c
closing_on x (y ∷ ys) c = c

closing_both : (xs ys : List Line) → Closing ys → Closing (xs ++ ys)
closing_both [] ys c = c
closing_both (x ∷ xs) ys c = closing_on x (xs ++ ys) (closing_both xs ys c)

-- the last line
abbrev pub HasLast : List Line → Type 0
HasLast lines = (line : Line) × (slice_get lines (length lines - 1) ≡ Some line) × IsTrue (is_ending line.instr)

last_line : (lines : List Line) (z : Line) → Closing lines → (0 < length lines) × IsTrue (is_ending (get_or lines (length lines - 1) z).instr)
last_line [] z c = absurd c
last_line (x ∷ []) z c = (omega arith, c)
last_line (x ∷ y ∷ ys) z c =
    let r = last_line (y ∷ ys) z c in
    let e : suc (length (y ∷ ys) - 1) ≡ length (x ∷ y ∷ ys) - 1 = omega (arith, r.0) in
    (omega arith, subst (λ n. IsTrue (is_ending (get_or (x ∷ y ∷ ys) n z).instr)) e (at_next (length (y ∷ ys) - 1) r.1))
  where
    at_next : (n : ℕ) → IsTrue (is_ending (get_or (y ∷ ys) n z).instr) → IsTrue (is_ending (get_or (x ∷ y ∷ ys) (suc n) z).instr)
    at_next n e = e

has_last : (lines : List Line) → Closing lines → HasLast lines
has_last [] c = absurd c
has_last (x ∷ xs) c =
    let r = last_line (x ∷ xs) x c in (get_or (x ∷ xs) (length (x ∷ xs) - 1) x, slice_get-get_or (x ∷ xs) (length (x ∷ xs) - 1) x (omega (arith, r.0)), r.1)

-- code whose last instruction may end a sequence
record Closes (s : Shape) : Type 0 where
  closes : (h p : ℕ) → Closing (lines_of h p s)

closes_op : {line : ℕ} {i : Instr} {s : Shape} → Closes s → Closes (op line i s)
closes_op {line} {i} {s} c = record { closes = λ h p. closing_on (at_line line i) (lines_of h (p + 1) s) (c.closes h (p + 1)) }

closes_ahead : {line n : ℕ} {j : ℕ → Instr} {s : Shape} → Closes s → Closes (ahead line j n s)
closes_ahead {line} {n} {j} {s} c = record { closes = λ h p. closing_on (at_line line (j (p + 1 + n))) (lines_of h (p + 1) s) (c.closes h (p + 1)) }

closes_part : {d : ℕ} {a s : Shape} → Closes s → Closes (part d a s)
closes_part {d} {a} {s} c = record { closes = λ h p. closing_both (lines_of (h + d) p a) (lines_of h (finish p a) s) (c.closes h (finish p a)) }

closes_end : {line : ℕ} {i : Instr} → IsTrue (is_ending i) → Closes (op line i done)
closes_end e = record { closes = λ h p. e }

closes_params : (l : Where) (ps : Params) {k : Shape} → Closes k → Closes (params_shape l ps k)
closes_params l no_param c = c
closes_params l (required x ps) c = closes_params l ps c
closes_params l (optional x t ps) c = closes_part (closes_op (closes_params l ps c))
closes_params l (rest_param x ps) c = closes_params l ps c
closes_params l (block_param x ps) c = closes_params l ps c

closes_named : (l : Where) (line : ℕ) (x : Option Bytes) {k : Shape} → Closes k → Closes (named l line x k)
closes_named l line None c = c
closes_named l line (Some x) c = closes_op (closes_op c)

closes_classes : (l : Where) (ts : Trees) (line far : ℕ) {k : Shape} → Closes k → Closes (classes_shape l ts line far k)
closes_classes l no_more line far c = c
closes_classes l (more t ts) line far c = closes_op (closes_part (closes_op (closes_ahead (closes_classes l ts line far c))))

closes_clause : (l : Where) (ts : Trees) (line far : ℕ) {k : Shape} → Closes k → Closes (clause_shape l ts line far k)
closes_clause l no_more line far c = closes_op (closes_op (closes_op (closes_ahead c)))
closes_clause l (more t ts) line far c = closes_classes l (more t ts) line far c

closes_clauses : (l : Where) (cs : Rescues) (line far : ℕ) {k : Shape} → Closes k → Closes (clauses_shape l cs line far k)
closes_clauses l no_clause line far c = c
closes_clauses l (clause ts x t cs) line far c = closes_clause l ts line _ (closes_clauses l cs line _ c)

-- an instruction that may end a sequence, and the bodies of clauses behind it
closes_bodies : (l : Where) (cs : Rescues) (line : ℕ) (i : Instr) → IsTrue (is_ending i) → Closes (op line i (bodies_shape l cs line))
closes_bodies l no_clause line i e = closes_end e
closes_bodies l (clause ts x t cs) line i e = closes_op (closes_named l line x (closes_part (closes_bodies l cs line Leave refl)))

last_of : (s : Shape) (h : ℕ) → Closes s → HasLast (lines_of h 0 s)
last_of s h c = has_last (lines_of h 0 s) (c.closes h 0)

pub body_ends : (l : Where) (h : ℕ) (t : Tree) → IsBody t → HasLast (lines_of h 0 (shape l t))
body_ends l h (at s (body ps t)) f = last_of (shape l (at s (body ps t))) h (closes_params l ps (closes_part (closes_end refl)))
body_ends l h (at s f) g = absurd g

pub rescue_part_ends : (l : Where) (h : ℕ) (t : Tree) → IsRescuePart t → HasLast (lines_of h 0 (shape l t))
rescue_part_ends l h (at s (rescue_sequence cs)) f = last_of (shape l (at s (rescue_sequence cs))) h (closes_clauses l cs (own l s) 0 (closes_bodies l cs (own l s) (Throw 0) refl))
rescue_part_ends l h (at s f) g = absurd g

pub ensure_part_ends : (l : Where) (h : ℕ) (t : Tree) → IsEnsurePart t → HasLast (lines_of h 0 (shape l t))
ensure_part_ends l h (at s (ensure_sequence a)) f = last_of (shape l (at s (ensure_sequence a))) h (closes_part (closes_op (closes_end refl)))
ensure_part_ends l h (at s f) g = absurd g
