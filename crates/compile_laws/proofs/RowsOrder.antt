-- Code whose held parts are tidy has its rows in order.
use Rattle.std.proofs.Common.{◌≡◌, ℕ, zero, suc, ◌+◌, ◌≤◌, ◌<◌, ◌⊎◌, inl, inr, true, cond, ◌&&◌, refl, sym, subst, ap, ◌∙◌, arith, List, [], ◌∷◌, ◌++◌, ◌-◌, append_assoc}
use Rattle.std.specs.Prelude.{All, nat_lt, nat_eq, ⊤}
use Rattle.std.proofs.lemmas.Bool.{lt-ltb, eq-eqb, ne_eqb}
use Rattle.iseq_types.specs.declared.sequences.CatchKind.{CatchKind}
use Rattle.iseq_types.specs.declared.sequences.CatchRow.{CatchRow}
use Rattle.iseq_types.specs.Sound.{IsOrdered}
use Rattle.code_meaning.specs.Code.{row_over, Shape, done, op, ahead, behind, deep, part, held, size, finish, rows_of}
use Rattle.code_meaning.proofs.Sizes.{finish_size}
use Rattle.compile_table.specs.Order.{stands_by_kind, stands_before, are_in_order}

abbrev pub Every : (CatchRow → Type 0) → List CatchRow → Type 0
Every Q [] = ⊤
Every Q (r ∷ rs) = Q r × Every Q rs

every_all : (Q : CatchRow → Type 0) (xs : List CatchRow) → Every Q xs → All Q xs
every_all Q [] e k d less = absurd (omega (arith, less))
every_all Q (x ∷ xs) e zero d less = e.0
every_all Q (x ∷ xs) e (suc k) d less = every_all Q xs e.1 k d (omega (arith, less))

every_both : (Q : CatchRow → Type 0) (xs ys : List CatchRow) → Every Q xs → Every Q ys → Every Q (xs ++ ys)
every_both Q [] ys a b = b
every_both Q (x ∷ xs) ys a b = (a.0, every_both Q xs ys a.1 b)

every_since : (Q R : CatchRow → Type 0) (xs : List CatchRow) → ((x : CatchRow) → Q x → R x) → Every Q xs → Every R xs
every_since Q R [] f a = tt
every_since Q R (x ∷ xs) f a = (f x a.0, every_since Q R xs f a.1)

every_pair : (Q R : CatchRow → Type 0) (xs : List CatchRow) → Every Q xs → Every R xs → Every (λ x. Q x × R x) xs
every_pair Q R [] a b = tt
every_pair Q R (x ∷ xs) a b = ((a.0, b.0), every_pair Q R xs a.1 b.1)

-- each row stands before all that follow
abbrev Sorted : List CatchRow → Type 0
Sorted [] = ⊤
Sorted (r ∷ rs) = Every (λ x. stands_before r x ≡ true) rs × Sorted rs

sorted_in_order : (rs : List CatchRow) → Sorted rs → are_in_order rs ≡ true
sorted_in_order [] e = refl
sorted_in_order (a ∷ []) e = refl
sorted_in_order (a ∷ b ∷ rs) e = ap (λ x. x && are_in_order (b ∷ rs)) e.0.0 ∙ sorted_in_order (b ∷ rs) e.1

-- the row lies from one place to another and is not empty
abbrev pub Within : ℕ → ℕ → CatchRow → Type 0
Within p end x = (p ≤ x.from) × (x.from < x.to) × (x.to ≤ end)

by_end : (a b : CatchRow) → a.to < b.to → stands_before a b ≡ true
by_end a b e = ap (λ x. cond x (cond (nat_eq a.from b.from) (stands_by_kind a.kind a.seq b.kind b.seq) (nat_lt b.from a.from)) (nat_lt a.to b.to)) (ne_eqb a.to b.to (λ x. omega arith)) ∙ lt-ltb a.to b.to e

sorted_both : (p m end : ℕ) (xs ys : List CatchRow) → Sorted xs → Sorted ys → Every (Within p m) xs → Every (Within m end) ys → Sorted (xs ++ ys)
sorted_both p m end [] ys a b c d = b
sorted_both p m end (x ∷ xs) ys a b c d = (
  every_both (λ y. stands_before x y ≡ true) xs ys a.0 (every_since (Within m end) (λ y. stands_before x y ≡ true) ys (λ y z. by_end x y (omega (arith, z.0, z.1, c.0.2))) d),
  sorted_both p m end xs ys a.1 b c.1 d,
)

-- a row that lies over the whole of the code has this of its kind and its sequence
abbrev pub Whole : (CatchKind → ℕ → Type 0) → ℕ → ℕ → CatchRow → Type 0
Whole P p end x = x.from ≡ p → x.to ≡ end → P x.kind x.seq

-- what holds of the rows over the whole of the code
abbrev pub Tops : (CatchKind → ℕ → Type 0) → Shape → Type 0
Tops P done = ⊤
Tops P (op l i s) = ⊤
Tops P (ahead l j n s) = ⊤
Tops P (behind l j n s) = ⊤
Tops P (deep l j s) = ⊤
Tops P (part d a s) = size s ≡ 0 → Tops P a
Tops P (held k far q a s) = size s ≡ 0 → P k q × Tops P a

-- Parts are not empty, and the rows over the whole of a held part stand before its own.
abbrev pub Tidy : Shape → Type 0
Tidy done = ⊤
Tidy (op l i s) = Tidy s
Tidy (ahead l j n s) = Tidy s
Tidy (behind l j n s) = Tidy s
Tidy (deep l j s) = Tidy s
Tidy (part d a s) = (0 < size a) × Tidy a × Tidy s
Tidy (held k far q a s) = (0 < size a) × Tidy a × Tidy s × Tops (λ m n. stands_by_kind m n k q ≡ true) a

later : (p m end : ℕ) (xs : List CatchRow) → p ≤ m → Every (Within m end) xs → Every (Within p end) xs
later p m end xs e a = every_since (Within m end) (Within p end) xs (λ x w. (omega (arith, w.0), w.1, w.2)) a

shorter : (p m end : ℕ) (xs : List CatchRow) → m ≤ end → Every (Within p m) xs → Every (Within p end) xs
shorter p m end xs e a = every_since (Within p m) (Within p end) xs (λ x w. (w.0, w.1, omega (arith, w.2))) a

pub within : (s : Shape) (h p : ℕ) → Tidy s → Every (Within p (finish p s)) (rows_of h p s)
within done h p t = tt
within (op l i s) h p t = later p (p + 1) (finish (p + 1) s) (rows_of h (p + 1) s) (omega arith) (within s h (p + 1) t)
within (ahead l j n s) h p t = later p (p + 1) (finish (p + 1) s) (rows_of h (p + 1) s) (omega arith) (within s h (p + 1) t)
within (behind l j n s) h p t = later p (p + 1) (finish (p + 1) s) (rows_of h (p + 1) s) (omega arith) (within s h (p + 1) t)
within (deep l j s) h p t = later p (p + 1) (finish (p + 1) s) (rows_of h (p + 1) s) (omega arith) (within s h (p + 1) t)
within (part d a s) h p t =
    let e = finish_size a p in let f = finish_size s (finish p a) in let end = finish (finish p a) s in
    every_both (Within p end) (rows_of (h + d) p a) (rows_of h (finish p a) s) (shorter p (finish p a) end (rows_of (h + d) p a) (omega arith) (within a (h + d) p t.1))
    (later p (finish p a) end (rows_of h (finish p a) s) (omega arith) (within s h (finish p a) t.2))
within (held k far q a s) h p t =
    let e = finish_size a p in let f = finish_size s (finish p a) in let end = finish (finish p a) s in
    every_both (Within p end) (rows_of h p a) (row_over k h p (finish p a) far q ∷ rows_of h (finish p a) s) (shorter p (finish p a) end (rows_of h p a) (omega arith) (within a h p t.1))
    ((omega arith, omega (arith, t.0), omega arith), later p (finish p a) end (rows_of h (finish p a) s) (omega arith) (within s h (finish p a) t.2))

-- none is over the whole where they begin later
not_first : (P : CatchKind → ℕ → Type 0) (p m end all : ℕ) (xs : List CatchRow) → p < m → Every (Within m end) xs → Every (Whole P p all) xs
not_first P p m end all xs e a = every_since (Within m end) (Whole P p all) xs (λ x w y z. absurd (omega (arith, w.0, y))) a

-- none is over the whole where they end sooner
not_last : (P : CatchKind → ℕ → Type 0) (p m end all : ℕ) (xs : List CatchRow) → end < all → Every (Within m end) xs → Every (Whole P p all) xs
not_last P p m end all xs e a = every_since (Within m end) (Whole P p all) xs (λ x w y z. absurd (omega (arith, w.2, z))) a

zero_or_more : (n : ℕ) → (n ≡ 0) ⊎ (0 < n)
zero_or_more zero = inl refl
zero_or_more (suc n) = inr (omega arith)

tops : (P : CatchKind → ℕ → Type 0) (s : Shape) (h p : ℕ) → Tidy s → Tops P s → Every (Whole P p (finish p s)) (rows_of h p s)
tops P done h p t o = tt
tops P (op l i s) h p t o = not_first P p (p + 1) (finish (p + 1) s) (finish (p + 1) s) (rows_of h (p + 1) s) (omega arith) (within s h (p + 1) t)
tops P (ahead l j n s) h p t o = not_first P p (p + 1) (finish (p + 1) s) (finish (p + 1) s) (rows_of h (p + 1) s) (omega arith) (within s h (p + 1) t)
tops P (behind l j n s) h p t o = not_first P p (p + 1) (finish (p + 1) s) (finish (p + 1) s) (rows_of h (p + 1) s) (omega arith) (within s h (p + 1) t)
tops P (deep l j s) h p t o = not_first P p (p + 1) (finish (p + 1) s) (finish (p + 1) s) (rows_of h (p + 1) s) (omega arith) (within s h (p + 1) t)
tops P (part d a s) h p t o =
    let e = finish_size a p in let f = finish_size s (finish p a) in let end = finish (finish p a) s in
    every_both (Whole P p end) (rows_of (h + d) p a) (rows_of h (finish p a) s) (first (zero_or_more (size s)) (λ z. tops P a (h + d) p t.1 (o z)))
    (not_first P p (finish p a) end end (rows_of h (finish p a) s) (omega (arith, t.0)) (within s h (finish p a) t.2))
  where
    first : (size s ≡ 0) ⊎ (0 < size s) → (size s ≡ 0 → Every (Whole P p (finish p a)) (rows_of (h + d) p a)) → Every (Whole P p (finish (finish p a) s)) (rows_of (h + d) p a)
    first (inl z) g = let f = finish_size s (finish p a) in subst (λ n. Every (Whole P p n) (rows_of (h + d) p a)) (omega arith) (g z)
    first (inr z) g = let f = finish_size s (finish p a) in not_last P p p (finish p a) (finish (finish p a) s) (rows_of (h + d) p a) (omega arith) (within a (h + d) p t.1)
tops P (held k far q a s) h p t o =
    let e = finish_size a p in let f = finish_size s (finish p a) in let end = finish (finish p a) s in
    every_both (Whole P p end) (rows_of h p a) (row_over k h p (finish p a) far q ∷ rows_of h (finish p a) s) (first (zero_or_more (size s)) (λ z. tops P a h p t.1 ((o z).1)))
    (own (zero_or_more (size s)), not_first P p (finish p a) end end (rows_of h (finish p a) s) (omega (arith, t.0)) (within s h (finish p a) t.2))
  where
    first : (size s ≡ 0) ⊎ (0 < size s) → (size s ≡ 0 → Every (Whole P p (finish p a)) (rows_of h p a)) → Every (Whole P p (finish (finish p a) s)) (rows_of h p a)
    first (inl z) g = let f = finish_size s (finish p a) in subst (λ n. Every (Whole P p n) (rows_of h p a)) (omega arith) (g z)
    first (inr z) g = let f = finish_size s (finish p a) in not_last P p p (finish p a) (finish (finish p a) s) (rows_of h p a) (omega arith) (within a h p t.1)

    own : (size s ≡ 0) ⊎ (0 < size s) → Whole P p (finish (finish p a) s) (row_over k h p (finish p a) far q)
    own (inl z) = λ x y. (o z).0
    own (inr z) = λ x y. let f = finish_size s (finish p a) in absurd (omega (arith, y, z))

apart : (a b : ℕ) → a ≤ b → (a ≡ b) ⊎ (a < b)
apart a b e = pick (zero_or_more (b - a))
  where
    pick : (b - a ≡ 0) ⊎ (0 < b - a) → (a ≡ b) ⊎ (a < b)
    pick (inl z) = inl (omega arith)
    pick (inr z) = inr (omega arith)

-- a row of a held part stands before the row over it
before_own : (k : CatchKind) (h p end far q : ℕ) (x : CatchRow) → Within p end x × Whole (λ m n. stands_by_kind m n k q ≡ true) p end x → stands_before x (row_over k h p end far q) ≡ true
before_own k h p end far q x w = ends (apart x.to end w.0.2)
  where
    r : CatchRow
    r = row_over k h p end far q

    begins : x.to ≡ end → (p ≡ x.from) ⊎ (p < x.from) → cond (nat_eq x.from r.from) (stands_by_kind x.kind x.seq k q) (nat_lt r.from x.from) ≡ true
    begins e (inl f) = ap (λ y. cond y (stands_by_kind x.kind x.seq k q) (nat_lt r.from x.from)) (eq-eqb x.from p (sym f)) ∙ w.1 (sym f) e
    begins e (inr f) = ap (λ y. cond y (stands_by_kind x.kind x.seq k q) (nat_lt r.from x.from)) (ne_eqb x.from p (λ y. omega arith)) ∙ lt-ltb p x.from f

    ends : (x.to ≡ end) ⊎ (x.to < end) → stands_before x r ≡ true
    ends (inl e) = ap (λ y. cond y (cond (nat_eq x.from r.from) (stands_by_kind x.kind x.seq k q) (nat_lt r.from x.from)) (nat_lt x.to r.to)) (eq-eqb x.to end e) ∙ begins e (apart p x.from w.0.0)
    ends (inr e) = by_end x r e

sorted_then : (r : CatchRow) (xs : List CatchRow) → Sorted xs → Every (λ x. stands_before x r ≡ true) xs → Sorted (xs ++ r ∷ [])
sorted_then r [] a b = (tt, tt)
sorted_then r (x ∷ xs) a b = (every_both (λ y. stands_before x y ≡ true) xs (r ∷ []) a.0 (b.0, tt), sorted_then r xs a.1 b.1)

sorted : (s : Shape) (h p : ℕ) → Tidy s → Sorted (rows_of h p s)
sorted done h p t = tt
sorted (op l i s) h p t = sorted s h (p + 1) t
sorted (ahead l j n s) h p t = sorted s h (p + 1) t
sorted (behind l j n s) h p t = sorted s h (p + 1) t
sorted (deep l j s) h p t = sorted s h (p + 1) t
sorted (part d a s) h p t =
    sorted_both p (finish p a) (finish (finish p a) s) (rows_of (h + d) p a) (rows_of h (finish p a) s) (sorted a (h + d) p t.1) (sorted s h (finish p a) t.2) (within a (h + d) p t.1) (within s h (finish p a) t.2)
sorted (held k far q a s) h p t =
    subst Sorted (append_assoc (rows_of h p a) (row ∷ []) (rows_of h (finish p a) s))
    (sorted_both p (finish p a) (finish (finish p a) s) (rows_of h p a ++ row ∷ []) (rows_of h (finish p a) s)
    (sorted_then row (rows_of h p a) (sorted a h p t.1) (every_since (λ x. Within p (finish p a) x × Whole P p (finish p a) x) (λ x. stands_before x row ≡ true) (rows_of h p a) (λ x w. before_own k h p (finish p a) far q x w)
    (every_pair (Within p (finish p a)) (Whole P p (finish p a)) (rows_of h p a) (within a h p t.1) (tops P a h p t.1 t.3))))
    (sorted s h (finish p a) t.2)
    (every_both (Within p (finish p a)) (rows_of h p a) (row ∷ []) (within a h p t.1) ((omega arith, omega (arith, t.0, finish_size a p), omega arith), tt))
    (within s h (finish p a) t.2))
  where
    row : CatchRow
    row = row_over k h p (finish p a) far q

    P : CatchKind → ℕ → Type 0
    P m n = stands_by_kind m n k q ≡ true

pub rows_in_order : (s : Shape) (h p : ℕ) → Tidy s → are_in_order (rows_of h p s) ≡ true
rows_in_order s h p t = sorted_in_order (rows_of h p s) (sorted s h p t)

-- what follows a row stands at its end or later
conts : (s : Shape) (h p : ℕ) → Every (λ x. x.to ≤ x.cont) (rows_of h p s)
conts done h p = tt
conts (op l i s) h p = conts s h (p + 1)
conts (ahead l j n s) h p = conts s h (p + 1)
conts (behind l j n s) h p = conts s h (p + 1)
conts (deep l j s) h p = conts s h (p + 1)
conts (part d a s) h p = every_both (λ x. x.to ≤ x.cont) (rows_of (h + d) p a) (rows_of h (finish p a) s) (conts a (h + d) p) (conts s h (finish p a))
conts (held k far q a s) h p =
    every_both (λ x. x.to ≤ x.cont) (rows_of h p a) (row_over k h p (finish p a) far q ∷ rows_of h (finish p a) s) (conts a h p) (omega arith, conts s h (finish p a))

pub rows_ordered : (s : Shape) (h p : ℕ) → Tidy s → All IsOrdered (rows_of h p s)
rows_ordered s h p t =
    every_all IsOrdered (rows_of h p s)
    (every_since (λ x. Within p (finish p s) x × (x.to ≤ x.cont)) IsOrdered (rows_of h p s) (λ x w. (w.0.1, w.1)) (every_pair (Within p (finish p s)) (λ x. x.to ≤ x.cont) (rows_of h p s) (within s h p t) (conts s h p)))

pub rows_inside : (s : Shape) (h p : ℕ) → Tidy s → All (λ x. (p ≤ x.from) × (x.to ≤ finish p s)) (rows_of h p s)
rows_inside s h p t =
    every_all (λ x. (p ≤ x.from) × (x.to ≤ finish p s)) (rows_of h p s) (every_since (Within p (finish p s)) (λ x. (p ≤ x.from) × (x.to ≤ finish p s)) (rows_of h p s) (λ x w. (w.0, w.2)) (within s h p t))
