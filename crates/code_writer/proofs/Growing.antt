-- How much is written for a shape, and which rows.
use Rattle.std.proofs.Common.{◌≡◌, ℕ, zero, suc, ◌+◌, List, [], ◌∷◌, ◌++◌, length, refl, ap, sym, ◌∙◌, Option, Some, slice_get, slice_set, arith}
use Rattle.std.proofs.lemmas.List.{length-append, append_assoc, append-nil}
use Rattle.std.proofs.Math.Seq.{set-append_seam}
use Rattle.code_meaning.specs.Code.{Shape, done, op, ahead, behind, deep, part, held, size}
use Rattle.iseq_types.specs.declared.sequences.CatchKind.{CatchKind}
use Rattle.code_writer.specs.declared.writer.HeldRow.{HeldRow}
use Rattle.code_writer.specs.Writing.{Step, Writing, wrote, row_here, row_opened, begins_at, set_begin, row_begun, grown}

get_seam : (xs : List HeldRow) (y : HeldRow) (ys : List HeldRow) → slice_get (xs ++ y ∷ ys) (length xs) ≡ Some y
get_seam [] y ys = refl
get_seam (x ∷ xs) y ys = get_seam xs y ys

-- one step more
longer : (x : Step) (xs : List Step) (m n : ℕ) → length xs ≡ m + n → length (xs ++ x ∷ []) ≡ suc m + n
longer x xs m n is = let e = length-append xs (x ∷ []) in omega (arith, e, is)

-- as many steps as the shape has instructions
pub grown_length : (h : ℕ) (s : Shape) (w : Writing) → length (grown h s w).steps ≡ size s + length w.steps
grown_length h done w = omega arith
grown_length h (op l i s) w = longer _ (grown h s w).steps (size s) (length w.steps) (grown_length h s w)
grown_length h (ahead l j n s) w = longer _ (grown h s w).steps (size s) (length w.steps) (grown_length h s w)
grown_length h (behind l j n s) w = longer _ (grown h s w).steps (size s) (length w.steps) (grown_length h s w)
grown_length h (deep l j s) w = longer _ (grown h s w).steps (size s) (length w.steps) (grown_length h s w)
grown_length h (part d a s) w = let e = grown_length (h + d) a (grown h s w) in let f = grown_length h s w in omega arith
grown_length h (held k far q a s) w = let e = grown_length h a (row_opened k far q h (grown h s w)) in let f = grown_length h s w in omega arith

-- the rows of a shape behind which so many instructions stand
abbrev pub kept : ℕ → Shape → ℕ → List HeldRow
kept h done n = []
kept h (op l i s) n = kept h s n
kept h (ahead l j m s) n = kept h s n
kept h (behind l j m s) n = kept h s n
kept h (deep l j s) n = kept h s n
kept h (part d a s) n = kept h s n ++ kept (h + d) a (size s + n)
kept h (held k far q a s) n = kept h s n ++ (record { kind = k; from = size a + (size s + n); to = size s + n; far = far; sp = h; seq = q } ∷ kept h a (size s + n))

begun_seam : (n : ℕ) (xs : List HeldRow) (r : HeldRow) (ys : List HeldRow) → set_begin (length xs) n (xs ++ r ∷ ys) (slice_get (xs ++ r ∷ ys) (length xs)) ≡ xs ++ begins_at n r ∷ ys
begun_seam n xs r ys = ap (set_begin (length xs) n (xs ++ r ∷ ys)) (get_seam xs r ys) ∙ set-append_seam xs r ys (begins_at n r)

-- a part, from what is written for it and behind it
part_rows : (h d : ℕ) (a s : Shape) (w : Writing) → (grown (h + d) a (grown h s w)).rows ≡ (grown h s w).rows ++ kept (h + d) a (length (grown h s w).steps) → (grown h s w).rows ≡ w.rows ++ kept h s (length w.steps) → (grown h (part d a s) w).rows ≡ w.rows ++ kept h (part d a s) (length w.steps)
part_rows h d a s w inner outer = inner ∙ ap (λ rs. rs ++ kept (h + d) a (length (grown h s w).steps)) outer ∙ append_assoc w.rows (kept h s (length w.steps)) (kept (h + d) a (length (grown h s w).steps)) ∙ ap (λ n. w.rows ++ (kept h s (length w.steps) ++ kept (h + d) a n)) (grown_length h s w)

-- a row over a part, from what is written behind it and for it
held_rows : (h : ℕ) (k : CatchKind) (far q : ℕ) (a s : Shape) (w : Writing) → (grown h a (row_opened k far q h (grown h s w))).rows ≡ (row_opened k far q h (grown h s w)).rows ++ kept h a (length (grown h s w).steps) → (grown h s w).rows ≡ w.rows ++ kept h s (length w.steps) → (grown h (held k far q a s) w).rows ≡ w.rows ++ kept h (held k far q a s) (length w.steps)
held_rows h k far q a s w inner outer = ap (λ rs. set_begin (length behind_rows) count rs (slice_get rs (length behind_rows))) together ∙ begun_seam count behind_rows row inner_rows ∙ ap (λ rs. rs ++ begins_at count row ∷ inner_rows) outer ∙ append_assoc w.rows (kept h s (length w.steps)) (begins_at count row ∷ inner_rows) ∙ ap (λ rs. w.rows ++ (kept h s (length w.steps) ++ rs)) counted
  where
    behind_rows : List HeldRow
    behind_rows = (grown h s w).rows

    place : ℕ
    place = length (grown h s w).steps

    row : HeldRow
    row = row_here k far q h (grown h s w)

    inner_rows : List HeldRow
    inner_rows = kept h a place

    count : ℕ
    count = length (grown h a (row_opened k far q h (grown h s w))).steps

    together : (grown h a (row_opened k far q h (grown h s w))).rows ≡ behind_rows ++ row ∷ inner_rows
    together = inner ∙ append_assoc behind_rows (row ∷ []) inner_rows

    places : place ≡ size s + length w.steps
    places = grown_length h s w

    counts : count ≡ size a + place
    counts = grown_length h a (row_opened k far q h (grown h s w))

    counted : begins_at count row ∷ inner_rows ≡ record { kind = k; from = size a + (size s + length w.steps); to = size s + length w.steps; far = far; sp = h; seq = q } ∷ kept h a (size s + length w.steps)
    counted = ap (λ n. record { kind = k; from = n; to = place; far = far; sp = h; seq = q } ∷ kept h a place) counts ∙ ap (λ n. record { kind = k; from = size a + n; to = n; far = far; sp = h; seq = q } ∷ kept h a n) places

pub grown_rows : (h : ℕ) (s : Shape) (w : Writing) → (grown h s w).rows ≡ w.rows ++ kept h s (length w.steps)
grown_rows h done w = sym (append-nil w.rows)
grown_rows h (op l i s) w = grown_rows h s w
grown_rows h (ahead l j n s) w = grown_rows h s w
grown_rows h (behind l j n s) w = grown_rows h s w
grown_rows h (deep l j s) w = grown_rows h s w
grown_rows h (part d a s) w = part_rows h d a s w (grown_rows (h + d) a (grown h s w)) (grown_rows h s w)
grown_rows h (held k far q a s) w = held_rows h k far q a s w (grown_rows h a (row_opened k far q h (grown h s w))) (grown_rows h s w)
