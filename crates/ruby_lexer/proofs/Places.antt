-- What is left of a text.
use Rattle.std.proofs.Common.{◌≡◌, ℕ, zero, suc, ◌+◌, ◌-◌, ◌≤◌, [], ◌∷◌, length, take, drop, true, false, ◌||◌, nat_eq, refl, arith, Option, Some, None, if◌then◌else◌, ap, sym, ◌∙◌, ◌++◌, append_assoc, get_or, length-drop}
use Rattle.std.proofs.lemmas.List.{take_all, take-append-drop}
use Rattle.std.proofs.lemmas.List.Sums.{sum_by-append}
use Rattle.ruby_lexer.specs.Bytes.{Bytes, from_first, starts, taken}
use Rattle.ruby_lexer.specs.Forms.{newlines}
use Rattle.std.proofs.lemmas.Bool.{eqb-true}
use Rattle.ruby_lexer.specs.Pieces.{token}
use Rattle.ruby_lexer.specs.Texts.{escapes_quote, single_text, with_front, with_byte, opens_list, list_at, list_kind, word_list, cells}
use Rattle.ruby_lexer.proofs.Lists.{false_true, and_left, and_right}
use Rattle.ruby_lexer.proofs.Each.{by_test}

pub newlines_split : (n : ℕ) (w : Bytes) → newlines (take n w) + newlines (drop n w) ≡ newlines w
newlines_split n w = sym (sum_by-append (λ (b : ℕ). if nat_eq b 10 then 1 else 0) (take n w) (drop n w)) ∙ ap newlines (take-append-drop n w)

pub all_left : (n : ℕ) (w : Bytes) → take (length w - n) (drop n w) ≡ drop n w
all_left n w = take_all (length w - n) (drop n w) (omega (arith, length-drop n w))

-- what is nowhere in a text is nowhere in what is left of it
pub none_left : (f : Bytes) (n : ℕ) (w : Bytes) → from_first f w ≡ None → from_first f (drop n w) ≡ None
none_left f zero w h = h
none_left f (suc n) [] h = h
none_left f (suc n) (b ∷ w) h =
    by_test (starts f (b ∷ w)) (λ t. let e : Some (b ∷ w) ≡ None = rw t at h in cc) (λ t. let e : from_first f w ≡ None = rw t at h in none_left f n w e)

-- the first `]` of a list is behind its `[`
pub list_first : (w : Bytes) → opens_list w ≡ true → from_first (93 ∷ []) w ≡ from_first (93 ∷ []) (drop 2 w)
list_first [] h = false_true h
list_first (b ∷ []) h = false_true (and_right _ _ h)
list_first (b ∷ c ∷ w) h =
    let is : c ≡ 91 = eqb-true c 91 (and_right (nat_eq b 119 || nat_eq b 105) (nat_eq c 91) h) in
    by_test (nat_eq b 93)
    (λ t. let at : b ≡ 93 = eqb-true b 93 t in let e : (nat_eq b 119 || nat_eq b 105) ≡ true = and_left _ (nat_eq c 91) h in let e' : false ≡ true = rw at at e in false_true e')
    (λ t. rw (t, is))

-- a list whose first `]` is at n
pub list_is : (w : Bytes) (n : ℕ) → opens_list w ≡ true → from_first (93 ∷ []) w ≡ Some (drop n w) → list_at w ≡ Some (token (list_kind (get_or w 0 0) (word_list (cells (taken (drop 2 w) (drop n w))))), drop 1 (drop n w))
unfolding list_at
list_is w n h e = let f : from_first (93 ∷ []) (drop 2 w) ≡ Some (drop n w) = sym (list_first w h) ∙ e in rw (h, f)

-- one byte more before a text
pub front_byte : (f : Bytes) (b : ℕ) (o : Option (Bytes × Bytes)) → with_front f (with_byte b o) ≡ with_front (f ++ b ∷ []) o
front_byte f b None = refl
front_byte f b (Some p) = rw append_assoc

-- a step of a text in single quotes
pub single_escaped : (w : Bytes) → 2 ≤ length w → nat_eq (get_or w 0 0) 39 ≡ false → escapes_quote (get_or w 0 0) (get_or w 1 0) ≡ true → single_text w ≡ with_byte (get_or w 1 0) (single_text (drop 2 w))
unfolding single_text
single_escaped [] len h e = absurd (omega arith)
single_escaped (b ∷ []) len h e = absurd (omega arith)
single_escaped (b ∷ c ∷ w) len h e = rw (h, e)
