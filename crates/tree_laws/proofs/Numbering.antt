-- The number of a sequence is greater than those of the sequences that begin before it.
use Rattle.std.proofs.Common.{◌≡◌, ℕ, suc, ◌≤◌, ◌<◌, nat_lt, Bool, true, false, cond, List, [], ◌∷◌, inl, inr, refl, arith}
use Rattle.std.proofs.lemmas.Bool.Decides.{nat_tests}
use Rattle.ruby_meaning.specs.Sequences.{count_below, sequence_number}
use Rattle.tree_laws.specs.Numbering.{Has}

grown : (b c : Bool) (m n : ℕ) → (b ≡ true → c ≡ true) → m ≤ n → cond b (suc m) m ≤ cond c (suc n) n
grown true true m n h less = omega (arith, less)
grown true false m n h less = let e : false ≡ true = h refl in absurd cc
grown false true m n h less = omega (arith, less)
grown false false m n h less = less

passes : (x q p : ℕ) → q < p → nat_lt x q ≡ true → nat_lt x p ≡ true
passes x q p less h = grind (arith, nat_tests, less, h)

most : (q p : ℕ) (qs : List ℕ) → q < p → count_below q qs ≤ count_below p qs
most q p [] less = omega arith
most q p (x ∷ qs) less = grown (nat_lt x q) (nat_lt x p) (count_below q qs) (count_below p qs) (passes x q p less) (most q p qs less)

first : (b c : Bool) (m n : ℕ) → b ≡ false → c ≡ true → m ≤ n → cond b (suc m) m < cond c (suc n) n
first true c m n h i less = absurd cc
first false true m n h i less = omega (arith, less)
first false false m n h i less = absurd cc

grown_more : (b c : Bool) (m n : ℕ) → (b ≡ true → c ≡ true) → m < n → cond b (suc m) m < cond c (suc n) n
grown_more true true m n h less = omega (arith, less)
grown_more true false m n h less = let e : false ≡ true = h refl in absurd cc
grown_more false true m n h less = omega (arith, less)
grown_more false false m n h less = less

not_itself : (x q : ℕ) → q ≡ x → nat_lt x q ≡ false
not_itself x q e = grind (arith, nat_tests, e)

is_below : (x q p : ℕ) → q ≡ x → q < p → nat_lt x p ≡ true
is_below x q p e less = grind (arith, nat_tests, e, less)

counted_more : (q p : ℕ) (qs : List ℕ) → Has q qs → q < p → count_below q qs < count_below p qs
counted_more q p [] h less = absurd h
counted_more q p (x ∷ qs) (inl e) less = first (nat_lt x q) (nat_lt x p) (count_below q qs) (count_below p qs) (not_itself x q e) (is_below x q p e less) (most q p qs less)
counted_more q p (x ∷ qs) (inr h) less = grown_more (nat_lt x q) (nat_lt x p) (count_below q qs) (count_below p qs) (passes x q p less) (counted_more q p qs h less)

pub numbers_rise : (qs : List ℕ) (q p : ℕ) → Has q qs → q < p → sequence_number qs q < sequence_number qs p
numbers_rise qs q p h less = omega (arith, counted_more q p qs h less)
