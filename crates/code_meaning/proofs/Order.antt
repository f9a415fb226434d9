-- The rows of a table stand by their ends.
use Rattle.std.proofs.Common.{ℕ, ◌+◌, ◌≤◌, arith, List, [], ◌∷◌, ◌++◌}
use Rattle.iseq_types.specs.declared.sequences.CatchRow.{CatchRow}
use Rattle.code_meaning.specs.Code.{Shape, done, op, ahead, behind, deep, part, held, finish, rows_of, Rising}

sooner : (a b high : ℕ) (rs : List CatchRow) → a ≤ b → Rising b high rs → Rising a high rs
sooner a b high [] le e = omega arith
sooner a b high (r ∷ rs) le e = (omega (arith, e.0), e.1)

both : (a b c : ℕ) (xs ys : List CatchRow) → Rising a b xs → Rising b c ys → Rising a c (xs ++ ys)
both a b c [] ys e f = sooner a b c ys e f
both a b c (x ∷ xs) ys e f = (e.0, both x.to b c xs ys e.1 f)

pub rows_rise : (s : Shape) (h p : ℕ) → Rising p (finish p s) (rows_of h p s)
rows_rise done h p = omega arith
rows_rise (op l i s) h p = sooner p (p + 1) _ (rows_of h (p + 1) s) (omega arith) (rows_rise s h (p + 1))
rows_rise (ahead l j n s) h p = sooner p (p + 1) _ (rows_of h (p + 1) s) (omega arith) (rows_rise s h (p + 1))
rows_rise (behind l j n s) h p = sooner p (p + 1) _ (rows_of h (p + 1) s) (omega arith) (rows_rise s h (p + 1))
rows_rise (deep l j s) h p = sooner p (p + 1) _ (rows_of h (p + 1) s) (omega arith) (rows_rise s h (p + 1))
rows_rise (part d a s) h p = both p (finish p a) _ (rows_of (h + d) p a) (rows_of h (finish p a) s) (rows_rise a (h + d) p) (rows_rise s h (finish p a))
rows_rise (held k far q a s) h p = both p (finish p a) _ (rows_of h p a) _ (rows_rise a h p) (omega arith, rows_rise s h (finish p a))
