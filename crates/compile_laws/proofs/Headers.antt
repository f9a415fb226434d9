-- The head of a body's sequence says how a call counts and binds its arguments, and where the body begins.
use Rattle.std.proofs.Common.{◌≡◌, ℕ, zero, suc, pred, ◌+◌, ◌-◌, ◌≤◌, Bool, true, false, cond, refl, ap, sym, arith, List, [], length, get_or}
use Rattle.std.proofs.Math.Nat.{min-le_left}
use Rattle.ruby_tree.specs.Tree.{Tree, at, Form, body, Params, no_param, required, optional, rest_param, block_param}
use Rattle.ruby_meaning.specs.Value.{Value, Code}
use Rattle.ruby_meaning.specs.Locals.{params_of, params_in}
use Rattle.ruby_meaning.specs.Calls.{count_of_params, has_block_param, optional_given}
use Rattle.code_meaning.specs.Code.{finish}
use Rattle.compile_table.specs.Shapes.{Where, shape}
use Rattle.compile_table.specs.Sequences.{count_required, has_optional, has_rest, has_block, entries_from, entries_of}
use Rattle.compile_laws.specs.Finds.{entry, start_in, start_of}

pub required_told : (ps : Params) → count_required ps ≡ (count_of_params ps).required
required_told no_param = refl
required_told (required x ps) = ap suc (required_told ps)
required_told (optional x t ps) = required_told ps
required_told (rest_param x ps) = required_told ps
required_told (block_param x ps) = required_told ps

pub rest_told : (ps : Params) → has_rest ps ≡ (count_of_params ps).rest
rest_told no_param = refl
rest_told (required x ps) = rest_told ps
rest_told (optional x t ps) = rest_told ps
rest_told (rest_param x ps) = refl
rest_told (block_param x ps) = rest_told ps

pub block_told : (ps : Params) → has_block ps ≡ has_block_param ps
block_told no_param = refl
block_told (required x ps) = block_told ps
block_told (optional x t ps) = block_told ps
block_told (rest_param x ps) = block_told ps
block_told (block_param x ps) = refl

no_optional : (ps : Params) → has_optional ps ≡ false → (count_of_params ps).optional ≡ 0
no_optional no_param e = refl
no_optional (required x ps) e = no_optional ps e
no_optional (optional x t ps) e = absurd (let y : true ≡ false = e in cc)
no_optional (rest_param x ps) e = no_optional ps e
no_optional (block_param x ps) e = no_optional ps e

as_many : (l : Where) (p : ℕ) (ps : Params) → length (entries_from l p ps) ≡ suc (count_of_params ps).optional
as_many l p no_param = refl
as_many l p (required x ps) = as_many l p ps
as_many l p (optional x t ps) = ap suc (as_many l (finish p (shape l t) + 1) ps)
as_many l p (rest_param x ps) = as_many l p ps
as_many l p (block_param x ps) = as_many l p ps

pub optional_told : (l : Where) (ps : Params) → pred (length (entries_of l ps)) ≡ (count_of_params ps).optional
optional_told l ps = by_any (has_optional ps) refl
  where
    by_any : (t : Bool) → has_optional ps ≡ t → pred (length (cond t (entries_from l 0 ps) [])) ≡ (count_of_params ps).optional
    by_any true e = ap pred (as_many l 0 ps)
    by_any false e = sym (no_optional ps e)

-- the entry for so many optional parameters
entry_from : (l : Where) (p : ℕ) (ps : Params) (k : ℕ) → k ≤ (count_of_params ps).optional → get_or (entries_from l p ps) k 0 ≡ entry l p ps k
entry_from l p no_param zero le = refl
entry_from l p no_param (suc k) le = absurd (omega (arith, le))
entry_from l p (required x ps) k le = entry_from l p ps k le
entry_from l p (optional x t ps) zero le = refl
entry_from l p (optional x t ps) (suc k) le = entry_from l (finish p (shape l t) + 1) ps k (omega (arith, le))
entry_from l p (rest_param x ps) k le = entry_from l p ps k le
entry_from l p (block_param x ps) k le = entry_from l p ps k le

one_entry : (l : Where) (p : ℕ) (ps : Params) (k : ℕ) → has_optional ps ≡ false → entry l p ps k ≡ p
one_entry l p no_param k e = refl
one_entry l p (required x ps) k e = one_entry l p ps k e
one_entry l p (optional x t ps) k e = absurd (let y : true ≡ false = e in cc)
one_entry l p (rest_param x ps) k e = one_entry l p ps k e
one_entry l p (block_param x ps) k e = one_entry l p ps k e

entry_of : (l : Where) (ps : Params) (k : ℕ) → k ≤ (count_of_params ps).optional → get_or (entries_of l ps) k 0 ≡ entry l 0 ps k
entry_of l ps k le = by_any (has_optional ps) refl
  where
    by_any : (t : Bool) → has_optional ps ≡ t → get_or (cond t (entries_from l 0 ps) []) k 0 ≡ entry l 0 ps k
    by_any true e = entry_from l 0 ps k le
    by_any false e = sym (one_entry l 0 ps k e)

entry_in : (l : Where) (f : Form) (k : ℕ) → k ≤ (count_of_params (params_in f)).optional → get_or (entries_of l (params_in f)) k 0 ≡ start_in l f k
entry_in l (body ps t) k le = entry_of l ps k le
entry_in l f k le = refl

pub entry_told : (l : Where) (t : Tree) (k : ℕ) → k ≤ (count_of_params (params_of t)).optional → get_or (entries_of l (params_of t)) k 0 ≡ start_of l t k
entry_told l (at s f) k le = entry_in l f k le

pub given_fits : (code : Code) (vs : List Value) → optional_given code vs ≤ (count_of_params (params_of code.body)).optional
given_fits code vs = min-le_left (count_of_params (params_of code.body)).optional (length vs - (count_of_params (params_of code.body)).required)
