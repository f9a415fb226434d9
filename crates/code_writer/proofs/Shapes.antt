-- What is written for a shape is its code, and its table.
use Rattle.std.proofs.Common.{◌≡◌, ℕ, zero, suc, ◌+◌, ◌-◌, List, [], ◌∷◌, ◌++◌, length, map, reverse, refl, ap, sym, ◌∙◌, arith}
use Rattle.std.proofs.lemmas.List.{reverse-append, map-append, append_assoc, append-nil}
use Rattle.iseq_types.specs.declared.sequences.CatchKind.{CatchKind}
use Rattle.iseq_types.specs.declared.sequences.CatchRow.{CatchRow}
use Rattle.iseq_types.specs.declared.sequences.Line.{Line}
use Rattle.code_meaning.specs.Code.{Shape, done, op, ahead, behind, deep, part, held, size, finish, at_line, lines_of, rows_of, row_over}
use Rattle.code_meaning.proofs.Sizes.{finish_size}
use Rattle.code_writer.specs.declared.writer.HeldRow.{HeldRow}
use Rattle.code_writer.specs.Writing.{Step, plain, on, back, Writing, nothing, wrote, row_opened, grown, placed, placed_from, row_among, code_of, table_of}
use Rattle.code_writer.proofs.Growing.{grown_length, kept, grown_rows}

-- the step that was written last stands first
last_first : (p : ℕ) (x : Step) (xs : List Step) → placed_from p (reverse (xs ++ x ∷ [])) ≡ placed p x ∷ placed_from (p + 1) (reverse xs)
last_first p x xs = ap (placed_from p) (reverse-append xs (x ∷ []))

pub grown_code : (h : ℕ) (s : Shape) (w : Writing) (p : ℕ) → placed_from p (reverse (grown h s w).steps) ≡ lines_of h p s ++ placed_from (finish p s) (reverse w.steps)
grown_code h done w p = refl
grown_code h (op l i s) w p = last_first p (plain (at_line l i)) (grown h s w).steps ∙ ap (λ ls. at_line l i ∷ ls) (grown_code h s w (p + 1))
grown_code h (ahead l j n s) w p = last_first p (on l j n) (grown h s w).steps ∙ ap (λ ls. at_line l (j (p + 1 + n)) ∷ ls) (grown_code h s w (p + 1))
grown_code h (behind l j n s) w p = last_first p (back l j n) (grown h s w).steps ∙ ap (λ ls. at_line l (j (p - n)) ∷ ls) (grown_code h s w (p + 1))
grown_code h (deep l j s) w p = last_first p (plain (at_line l (j h))) (grown h s w).steps ∙ ap (λ ls. at_line l (j h) ∷ ls) (grown_code h s w (p + 1))
grown_code h (part d a s) w p = grown_code (h + d) a (grown h s w) p ∙ ap (λ ls. lines_of (h + d) p a ++ ls) (grown_code h s w (finish p a)) ∙ sym (append_assoc (lines_of (h + d) p a) (lines_of h (finish p a) s) _)
grown_code h (held k far q a s) w p = grown_code h a (row_opened k far q h (grown h s w)) p ∙ ap (λ ls. lines_of h p a ++ ls) (grown_code h s w (finish p a)) ∙ sym (append_assoc (lines_of h p a) (lines_of h (finish p a) s) _)

-- rows that were written one after another
rows_joined : (n : ℕ) (xs ys : List HeldRow) → map (row_among n) (reverse (xs ++ ys)) ≡ map (row_among n) (reverse ys) ++ map (row_among n) (reverse xs)
rows_joined n xs ys = ap (map (row_among n)) (reverse-append xs ys) ∙ map-append (row_among n) (reverse ys) (reverse xs)

both : {xs ys us vs : List CatchRow} → xs ≡ ys → us ≡ vs → xs ++ us ≡ ys ++ vs
both {xs} {ys} {us} {vs} e f = ap (λ zs. zs ++ us) e ∙ ap (λ zs. ys ++ zs) f

-- the rest stands behind a part
behind_part : (a s : Shape) (p n q : ℕ) → n ≡ p + (size a + size s + q) → n ≡ finish p a + (size s + q)
behind_part a s p n q is = let e = finish_size a p in omega (arith, is)

-- the row over a part stands behind those of the part and before those of the rest
held_table : (h : ℕ) (k : CatchKind) (far x : ℕ) (a s : Shape) (n p q : ℕ) → n ≡ p + (size a + size s + q) → map (row_among n) (reverse (kept h a (size s + q))) ≡ rows_of h p a → map (row_among n) (reverse (kept h s q)) ≡ rows_of h (finish p a) s → map (row_among n) (reverse (kept h (held k far x a s) q)) ≡ rows_of h p (held k far x a s)
held_table h k far x a s n p q is inner outer = rows_joined n (kept h s q) (row ∷ kept h a (size s + q)) ∙ both (rows_joined n (row ∷ []) (kept h a (size s + q)) ∙ both inner over) outer ∙ append_assoc (rows_of h p a) (row_over k h p (finish p a) far x ∷ []) (rows_of h (finish p a) s)
  where
    row : HeldRow
    row = record { kind = k; from = size a + (size s + q); to = size s + q; far = far; sp = h; seq = x }

    begins : n - (size a + (size s + q)) ≡ p
    begins = omega (arith, is)

    ends : n - (size s + q) ≡ finish p a
    ends = let e = finish_size a p in omega (arith, is)

    over : row_among n row ∷ [] ≡ row_over k h p (finish p a) far x ∷ []
    over = ap (λ b. record { kind = k; from = b; to = n - (size s + q); cont = n - (size s + q) + far; sp = h; seq = x } ∷ []) begins ∙ ap (λ e. record { kind = k; from = p; to = e; cont = e + far; sp = h; seq = x } ∷ []) ends

pub kept_table : (h : ℕ) (s : Shape) (n p q : ℕ) → n ≡ p + (size s + q) → map (row_among n) (reverse (kept h s q)) ≡ rows_of h p s
kept_table h done n p q is = refl
kept_table h (op l i s) n p q is = kept_table h s n (p + 1) q (omega (arith, is))
kept_table h (ahead l j m s) n p q is = kept_table h s n (p + 1) q (omega (arith, is))
kept_table h (behind l j m s) n p q is = kept_table h s n (p + 1) q (omega (arith, is))
kept_table h (deep l j s) n p q is = kept_table h s n (p + 1) q (omega (arith, is))
kept_table h (part d a s) n p q is = rows_joined n (kept h s q) (kept (h + d) a (size s + q)) ∙ both (kept_table (h + d) a n p (size s + q) (omega (arith, is))) (kept_table h s n (finish p a) q (behind_part a s p n q is))
kept_table h (held k far x a s) n p q is = held_table h k far x a s n p q is (kept_table h a n p (size s + q) (omega (arith, is))) (kept_table h s n (finish p a) q (behind_part a s p n q is))

pub whole_code : (h : ℕ) (s : Shape) → code_of (grown h s nothing) ≡ lines_of h 0 s
whole_code h s = grown_code h s nothing 0 ∙ append-nil (lines_of h 0 s)

pub whole_table : (h : ℕ) (s : Shape) → table_of (grown h s nothing) ≡ rows_of h 0 s
whole_table h s = ap (λ rs. map (row_among (length (grown h s nothing).steps)) (reverse rs)) (grown_rows h s nothing) ∙ kept_table h s (length (grown h s nothing).steps) 0 0 (let e = grown_length h s nothing in omega (arith, e))
