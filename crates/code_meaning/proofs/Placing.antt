-- The code and the rows of a whole sequence stand where its shape says.
use Rattle.std.proofs.Common.{◌≡◌, ℕ, ◌+◌, ◌-◌, ◌≤◌, ◌<◌, ◌⊎◌, inl, inr, Bool, true, false, not, ◌&&◌, refl, sym, subst, ap, ◌∙◌, arith, List, [], ◌∷◌, ◌++◌, length, Some, append_assoc, length-append}
use Rattle.std.specs.Prelude.{slice_get, nat_lt}
use Rattle.std.proofs.Math.Seq.{get_or-append_seam}
use Rattle.std.proofs.lemmas.Option.{slice_get-get_or}
use Rattle.std.proofs.lemmas.Bool.{lt-ltb, le-ltb}
use Rattle.iseq_types.specs.declared.sequences.CatchRow.{CatchRow}
use Rattle.iseq_types.specs.declared.sequences.Line.{Line}
use Rattle.code_meaning.specs.Code.{at_line, row_over, holds, keep, rows_at, Shape, done, op, ahead, behind, deep, part, held, finish, lines_of, rows_of, Placed}
use Rattle.code_meaning.proofs.Sizes.{finish_size}

holds_yes : (r : CatchRow) (q : ℕ) → r.from ≤ q → q < r.to → holds r q ≡ true
holds_yes r q a b = ap (λ x. not x && nat_lt q r.to) (le-ltb q r.from a) ∙ lt-ltb q r.to b

holds_no : (r : CatchRow) (q : ℕ) → (q < r.from) ⊎ (r.to ≤ q) → holds r q ≡ false
holds_no r q (inl a) = ap (λ x. not x && nat_lt q r.to) (lt-ltb q r.from a)
holds_no r q (inr b) = ap (λ x. not (nat_lt q r.from) && x) (le-ltb q r.to b) ∙ both (not (nat_lt q r.from))
  where
    both : (x : Bool) → (x && false) ≡ false
    both true = refl
    both false = refl

at_append : (q : ℕ) (xs ys : List CatchRow) → rows_at q (xs ++ ys) ≡ rows_at q xs ++ rows_at q ys
at_append q [] ys = refl
at_append q (r ∷ xs) ys = ap (keep (holds r q) r) (at_append q xs ys) ∙ kept (holds r q)
  where
    kept : (x : Bool) → keep x r (rows_at q xs ++ rows_at q ys) ≡ keep x r (rows_at q xs) ++ rows_at q ys
    kept true = refl
    kept false = refl

wider : (q p end p1 end1 : ℕ) → p ≤ p1 → end1 ≤ end → (q < p) ⊎ (end ≤ q) → (q < p1) ⊎ (end1 ≤ q)
wider q p end p1 end1 a b (inl x) = inl (omega arith)
wider q p end p1 end1 a b (inr x) = inr (omega arith)

-- the rows of code hold nowhere outside of it
outside : (s : Shape) (h p q : ℕ) → (q < p) ⊎ (finish p s ≤ q) → rows_at q (rows_of h p s) ≡ []
outside done h p q away = refl
outside (op l i s) h p q away = outside s h (p + 1) q (wider q p (finish (p + 1) s) (p + 1) _ (omega arith) (omega arith) away)
outside (ahead l j n s) h p q away = outside s h (p + 1) q (wider q p (finish (p + 1) s) (p + 1) _ (omega arith) (omega arith) away)
outside (behind l j n s) h p q away = outside s h (p + 1) q (wider q p (finish (p + 1) s) (p + 1) _ (omega arith) (omega arith) away)
outside (deep l j s) h p q away = outside s h (p + 1) q (wider q p (finish (p + 1) s) (p + 1) _ (omega arith) (omega arith) away)
outside (part d a s) h p q away =
    let e = finish_size a p in let f = finish_size s (finish p a) in
    at_append q (rows_of (h + d) p a) _ ∙ ap (λ x. x ++ rows_at q (rows_of h (finish p a) s)) (outside a (h + d) p q (wider q p (finish (finish p a) s) p (finish p a) (omega arith) (omega arith) away))
    ∙ outside s h (finish p a) q (wider q p (finish (finish p a) s) (finish p a) _ (omega arith) (omega arith) away)
outside (held k far c a s) h p q away =
    let e = finish_size a p in let f = finish_size s (finish p a) in
    at_append q (rows_of h p a) _ ∙ ap (λ x. x ++ rows_at q (row_over k h p (finish p a) far c ∷ rows_of h (finish p a) s)) (outside a h p q (wider q p (finish (finish p a) s) p (finish p a) (omega arith) (omega arith) away))
    ∙ ap (λ x. keep x (row_over k h p (finish p a) far c) (rows_at q (rows_of h (finish p a) s))) (holds_no (row_over k h p (finish p a) far c) q (wider q p (finish (finish p a) s) p (finish p a) (omega arith) (omega arith) away))
    ∙ outside s h (finish p a) q (wider q p (finish (finish p a) s) (finish p a) _ (omega arith) (omega arith) away)

lines_length : (s : Shape) (h p : ℕ) → p + length (lines_of h p s) ≡ finish p s
lines_length done h p = omega arith
lines_length (op l i s) h p = let e = lines_length s h (p + 1) in omega arith
lines_length (ahead l j n s) h p = let e = lines_length s h (p + 1) in omega arith
lines_length (behind l j n s) h p = let e = lines_length s h (p + 1) in omega arith
lines_length (deep l j s) h p = let e = lines_length s h (p + 1) in omega arith
lines_length (part d a s) h p = let e = lines_length a (h + d) p in let f = lines_length s h (finish p a) in omega (arith, length-append (lines_of (h + d) p a) (lines_of h (finish p a) s))
lines_length (held k far q a s) h p = let e = lines_length a h p in let f = lines_length s h (finish p a) in omega (arith, length-append (lines_of h p a) (lines_of h (finish p a) s))

module _ (lines : List Line) (table : List CatchRow) where
  line_here : (pre post : List Line) (x : Line) (p : ℕ) → lines ≡ pre ++ (x ∷ post) → length pre ≡ p → slice_get lines p ≡ Some x
  line_here pre post x p e n =
      let within : length pre < length (pre ++ (x ∷ post)) = omega (arith, length-append pre (x ∷ post)) in
      let at : slice_get (pre ++ (x ∷ post)) (length pre) ≡ Some x = slice_get-get_or (pre ++ (x ∷ post)) (length pre) x within ∙ ap Some (get_or-append_seam pre x post x) in
      subst (λ y. slice_get y p ≡ Some x) (sym e) (subst (λ m. slice_get (pre ++ (x ∷ post)) m ≡ Some x) n at)

  -- what the rows say at a place of the code: those before it hold nowhere in it, those behind it are out
  record Around (out : List CatchRow) (p end : ℕ) (before behind_it : List CatchRow) : Type 0 where
    pub first : (q : ℕ) → p ≤ q → q < end → rows_at q before ≡ []
    pub last : (q : ℕ) → p ≤ q → q < end → rows_at q behind_it ≡ out

  rows_here : (out : List CatchRow) (h p p1 : ℕ) (s : Shape) (before behind_it : List CatchRow) → p < p1 → p1 ≤ finish p1 s → Around out p (finish p1 s) before behind_it → table ≡ before ++ (rows_of h p1 s ++ behind_it) → rows_at p table ≡ out
  rows_here out h p p1 s before behind_it less le a e =
      ap (rows_at p) e ∙ at_append p before _ ∙ ap (λ x. x ++ rows_at p (rows_of h p1 s ++ behind_it)) (a.first p (omega arith) (omega arith))
      ∙ at_append p (rows_of h p1 s) behind_it ∙ ap (λ x. x ++ rows_at p behind_it) (outside s h p1 p (inl less)) ∙ a.last p (omega arith) (omega arith)

  placing : (s : Shape) (out : List CatchRow) (h p : ℕ) (pre post : List Line) (before behind_it : List CatchRow) → lines ≡ pre ++ (lines_of h p s ++ post) → length pre ≡ p
      → table ≡ before ++ (rows_of h p s ++ behind_it) → Around out p (finish p s) before behind_it → Placed lines table out h p s
  placing done out h p pre post before behind_it e n r a = tt
  placing (op l i s) out h p pre post before behind_it e n r a =
      let f = finish_size s (p + 1) in (
        line_here pre _ (at_line l i) p e n,
        rows_here out h p (p + 1) s before behind_it (omega arith) (omega arith) a r,
        placing s out h (p + 1) (pre ++ at_line l i ∷ []) post before behind_it (e ∙ sym (append_assoc pre (at_line l i ∷ []) _)) (omega (arith, length-append pre (at_line l i ∷ []))) r
            (record { first = λ q x y. a.first q (omega arith) y; last = λ q x y. a.last q (omega arith) y }),
      )
  placing (ahead l j m s) out h p pre post before behind_it e n r a =
      let f = finish_size s (p + 1) in let i = j (p + 1 + m) in (
        line_here pre _ (at_line l i) p e n,
        rows_here out h p (p + 1) s before behind_it (omega arith) (omega arith) a r,
        placing s out h (p + 1) (pre ++ at_line l i ∷ []) post before behind_it (e ∙ sym (append_assoc pre (at_line l i ∷ []) _)) (omega (arith, length-append pre (at_line l i ∷ []))) r
            (record { first = λ q x y. a.first q (omega arith) y; last = λ q x y. a.last q (omega arith) y }),
      )
  placing (behind l j m s) out h p pre post before behind_it e n r a =
      let f = finish_size s (p + 1) in let i = j (p - m) in (
        line_here pre _ (at_line l i) p e n,
        rows_here out h p (p + 1) s before behind_it (omega arith) (omega arith) a r,
        placing s out h (p + 1) (pre ++ at_line l i ∷ []) post before behind_it (e ∙ sym (append_assoc pre (at_line l i ∷ []) _)) (omega (arith, length-append pre (at_line l i ∷ []))) r
            (record { first = λ q x y. a.first q (omega arith) y; last = λ q x y. a.last q (omega arith) y }),
      )
  placing (deep l j s) out h p pre post before behind_it e n r a =
      let f = finish_size s (p + 1) in let i = j h in (
        line_here pre _ (at_line l i) p e n,
        rows_here out h p (p + 1) s before behind_it (omega arith) (omega arith) a r,
        placing s out h (p + 1) (pre ++ at_line l i ∷ []) post before behind_it (e ∙ sym (append_assoc pre (at_line l i ∷ []) _)) (omega (arith, length-append pre (at_line l i ∷ []))) r
            (record { first = λ q x y. a.first q (omega arith) y; last = λ q x y. a.last q (omega arith) y }),
      )
  placing (part d x s) out h p pre post before behind_it e n r a =
      let f = finish_size x p in let g = finish_size s (finish p x) in
      let ra = rows_of (h + d) p x in let rs = rows_of h (finish p x) s in (
        placing x out (h + d) p pre (lines_of h (finish p x) s ++ post) before (rs ++ behind_it) (e ∙ ap (λ y. pre ++ y) (append_assoc (lines_of (h + d) p x) _ post)) n (r ∙ ap (λ y. before ++ y) (append_assoc ra rs behind_it))
            (record {
              first = λ q y z. a.first q y (omega arith);
              last = λ q y z. at_append q rs behind_it ∙ ap (λ o. o ++ rows_at q behind_it) (outside s h (finish p x) q (inl z)) ∙ a.last q y (omega arith);
            }),
        placing s out h (finish p x) (pre ++ lines_of (h + d) p x) post (before ++ ra) behind_it
            (e ∙ ap (λ y. pre ++ y) (append_assoc (lines_of (h + d) p x) _ post) ∙ sym (append_assoc pre (lines_of (h + d) p x) _)) (omega (arith, length-append pre (lines_of (h + d) p x), lines_length x (h + d) p))
            (r ∙ ap (λ y. before ++ y) (append_assoc ra rs behind_it) ∙ sym (append_assoc before ra _))
            (record {
              first = λ q y z. at_append q before ra ∙ ap (λ o. o ++ rows_at q ra) (a.first q (omega arith) z) ∙ outside x (h + d) p q (inr y);
              last = λ q y z. a.last q (omega arith) z;
            }),
      )
  placing (held k far c x s) out h p pre post before behind_it e n r a =
      let f = finish_size x p in let g = finish_size s (finish p x) in
      let row = row_over k h p (finish p x) far c in
      let ra = rows_of h p x in let rs = rows_of h (finish p x) s in (
        placing x (row ∷ out) h p pre (lines_of h (finish p x) s ++ post) before (row ∷ (rs ++ behind_it)) (e ∙ ap (λ y. pre ++ y) (append_assoc (lines_of h p x) _ post)) n (r ∙ ap (λ y. before ++ y) (append_assoc ra (row ∷ rs) behind_it))
            (record {
              first = λ q y z. a.first q y (omega arith);
              last = λ q y z. ap (λ o. keep o row (rows_at q (rs ++ behind_it))) (holds_yes row q y z)
                  ∙ ap (λ o. row ∷ o) (at_append q rs behind_it ∙ ap (λ o. o ++ rows_at q behind_it) (outside s h (finish p x) q (inl z)) ∙ a.last q y (omega arith));
            }),
        placing s out h (finish p x) (pre ++ lines_of h p x) post (before ++ (ra ++ row ∷ [])) behind_it
            (e ∙ ap (λ y. pre ++ y) (append_assoc (lines_of h p x) _ post) ∙ sym (append_assoc pre (lines_of h p x) _)) (omega (arith, length-append pre (lines_of h p x), lines_length x h p))
            (r ∙ ap (λ y. before ++ y) (append_assoc ra (row ∷ rs) behind_it ∙ sym (append_assoc ra (row ∷ []) (rs ++ behind_it))) ∙ sym (append_assoc before (ra ++ row ∷ []) _))
            (record {
              first = λ q y z. at_append q before _ ∙ ap (λ o. o ++ rows_at q (ra ++ row ∷ [])) (a.first q (omega arith) z) ∙ at_append q ra (row ∷ []) ∙ ap (λ o. o ++ rows_at q (row ∷ [])) (outside x h p q (inr y))
                  ∙ ap (λ o. keep o row []) (holds_no row q (inr y));
              last = λ q y z. a.last q (omega arith) z;
            }),
      )

no_lines : (xs : List Line) → xs ≡ xs ++ []
no_lines [] = refl
no_lines (x ∷ xs) = ap (λ y. x ∷ y) (no_lines xs)

no_rows : (xs : List CatchRow) → xs ≡ xs ++ []
no_rows [] = refl
no_rows (x ∷ xs) = ap (λ y. x ∷ y) (no_rows xs)

-- a whole sequence
pub placed : (s : Shape) (h : ℕ) → Placed (lines_of h 0 s) (rows_of h 0 s) [] h 0 s
placed s h = placing (lines_of h 0 s) (rows_of h 0 s) s [] h 0 [] [] [] [] (no_lines (lines_of h 0 s)) refl (no_rows (rows_of h 0 s)) (record { first = λ q x y. refl; last = λ q x y. refl })
