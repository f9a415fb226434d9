-- Locals that are held stand in the index, and parameters are locals.
use Rattle.std.proofs.Common.{◌≡◌, ℕ, suc, ◌+◌, ◌-◌, ◌≤◌, ◌<◌, Bool, true, false, cond, ◌||◌, refl, ap, arith, List, [], ◌∷◌, ◌++◌, length, Some, length-append}
use Rattle.std.specs.Prelude.{⊤, slice_get, ◌^◌}
use Rattle.ruby_lexer.specs.Bytes.{same, is_in}
use Rattle.ruby_tree.specs.Names.{Bytes}
use Rattle.ruby_tree.specs.Tree.{Tree, at, Form, body, Params, no_param, required, optional, rest_param, block_param}
use Rattle.iseq_types.specs.declared.sequences.IndexRow.{IndexRow}
use Rattle.iseq_types.specs.Sound.{locals_of as locals_at, one_if}
use Rattle.ruby_meaning.specs.Levels.{Scopes, is_held, level_of, slot_in, slot_of}
use Rattle.ruby_meaning.specs.Locals.{params_of, params_in, names_of_params, names_in, so_far, of_tree, without_names, locals_of}
use Rattle.ruby_meaning.specs.Loads.{file_body}
use Rattle.code_meaning.specs.Code.{finish}
use Rattle.compile_table.specs.Shapes.{Where, shape}
use Rattle.compile_table.specs.Sequences.{count_required, has_optional, has_rest, has_block, entries_from, entries_of}
use Rattle.tree_laws.specs.Formed.{IsFormed, FormFormed}

-- ---- held locals

-- these environments have as many locals as there are names, the innermost first
abbrev pub Homed : List IndexRow → List ℕ → Scopes → Type 0
Homed rows hs [] = ⊤
Homed rows [] (names ∷ scopes) = ⊥
Homed rows (h ∷ hs) (names ∷ scopes) = (locals_at rows h ≡ length names) × Homed rows hs scopes

slot_by : (x y : Bytes) (names : List Bytes) (b : Bool) → (is_in x names ≡ true → slot_in x names < length names) → (b || is_in x names) ≡ true → cond b 0 (suc (slot_in x names)) < length (y ∷ names)
slot_by x y names true f e = omega arith
slot_by x y names false f e = let a = f e in omega (arith, a)

slot_less : (x : Bytes) (names : List Bytes) → is_in x names ≡ true → slot_in x names < length names
slot_less x [] e = absurd cc
slot_less x (y ∷ names) e = slot_by x y names (same x y) (slot_less x names) e

-- its environment has the slot
abbrev pub At : List IndexRow → List ℕ → ℕ → ℕ → Type 0
At rows hs level slot = (home : ℕ) × (slice_get hs level ≡ Some home) × (slot < locals_at rows home)

at_by : (rows : List IndexRow) (h : ℕ) (hs : List ℕ) (x : Bytes) (names : List Bytes) (scopes : Scopes) (b : Bool) → is_in x names ≡ b → locals_at rows h ≡ length names → (is_held x scopes ≡ true → At rows hs (level_of x scopes) (slot_of x scopes)) → (b || is_held x scopes) ≡ true
    → At rows (h ∷ hs) (cond b 0 (suc (level_of x scopes))) (cond b (slot_in x names) (slot_of x scopes))
at_by rows h hs x names scopes true e n f g = (h, refl, let a = slot_less x names e in omega (arith, n, a))
at_by rows h hs x names scopes false e n f g = f g

pub held_at : (rows : List IndexRow) (hs : List ℕ) (scopes : Scopes) (x : Bytes) → Homed rows hs scopes → is_held x scopes ≡ true → At rows hs (level_of x scopes) (slot_of x scopes)
held_at rows hs [] x a e = absurd cc
held_at rows [] (names ∷ scopes) x a e = absurd a
held_at rows (h ∷ hs) (names ∷ scopes) x a e = at_by rows h hs x names scopes (is_in x names) refl a.0 (λ f. held_at rows hs scopes x a.1 f) e

-- ---- parameters

params_named : (l : Where) (p : ℕ) (ps : Params) → count_required ps + (length (entries_from l p ps) - 1) + one_if (has_rest ps) + one_if (has_block ps) ≤ length (names_of_params ps)
params_named l p no_param = omega arith
params_named l p (required x ps) = let e = params_named l p ps in omega (arith, e)
params_named l p (optional x t ps) = let e = params_named l (finish p (shape l t) + 1) ps in omega (arith, e)
params_named l p (rest_param x ps) = let e = params_named l p ps in omega (arith, e)
params_named l p (block_param x ps) = let e = params_named l p ps in omega (arith, e)

pub params_counted : (l : Where) (ps : Params) → count_required ps + (length (entries_of l ps) - 1) + one_if (has_rest ps) + one_if (has_block ps) ≤ length (names_of_params ps)
params_counted l ps = by_flag (has_optional ps) (params_named l 0 ps)
  where
    by_flag : (b : Bool) → count_required ps + (length (entries_from l 0 ps) - 1) + one_if (has_rest ps) + one_if (has_block ps) ≤ length (names_of_params ps)
        → count_required ps + (length (cond b (entries_from l 0 ps) []) - 1) + one_if (has_rest ps) + one_if (has_block ps) ≤ length (names_of_params ps)
    by_flag true e = e
    by_flag false e = omega (arith, e)

pub params_are_locals : (seen : List Bytes) (t : Tree) → length (names_of_params (params_of t)) ≤ length (locals_of seen t)
params_are_locals seen t = omega (arith, length-append (names_of_params (params_of t)) (without_names (names_of_params (params_of t) ++ seen) (names_in (of_tree (2 ^ 64) t (so_far [])))))

-- the locals of a file are those of its statements
no_params : (k : Bool) (f : Form) → FormFormed k f → params_in f ≡ no_param
no_params k (body ps t) g = absurd g
no_params k f g = refl

pub file_locals : (k : Bool) (t : Tree) → IsFormed k t → locals_of [] t ≡ locals_of [] (file_body t)
file_locals k (at s f) g = ap (λ (ps : Params). names_of_params ps ++ without_names (names_of_params ps ++ []) (names_in (of_tree (2 ^ 64) (at s f) (so_far [])))) (no_params k f g)
