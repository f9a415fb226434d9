-- The forms of each class, the longer ones first.
use Rattle.std.proofs.Common.{◌≡◌, ℕ, suc, ◌+◌, ◌≤◌, ◌<◌, List, [], ◌∷◌, ◌++◌, length, take, drop, map, Bool, true, false, ◌&&◌, ◌||◌, refl, arith, subst, if◌then◌else◌, Option, Some, None, nat_eq, nat_le, nat_lt, get_or, length-drop, append-nil}
use Rattle.std.proofs.lemmas.Bool.{leb-true, ltb-true}
use Rattle.std.specs.Prelude.{codes}
use Rattle.std.specs.List.{list_all}
use Rattle.ruby_lexer.specs.declared.class.Class.{Class}
use Rattle.ruby_lexer.specs.declared.class.Class.TheVariants.{Digit, Letter, At, Dollar, SingleQuote, DoubleQuote, Colon, Percent, Equals, Sign, Operator, Single, Semicolon, LineEnd, Space, Return, Backslash, Hash, Other}
use Rattle.ruby_lexer.specs.declared.state.State.{State}
use Rattle.ruby_lexer.specs.declared.state.WordContext.{WordContext}
use Rattle.ruby_lexer.specs.Bytes.{Bytes, is_small, is_letter, is_word, is_inline, begins, begins_with, run, starts, from_first, taken}
use Rattle.ruby_lexer.specs.Pieces.{Kind, mark, variable, global, label, symbol, ends, plain, Piece, blank, comment, token}
use Rattle.ruby_lexer.specs.Words.{word_at, word_kind, with_rest, label_at, name_of, after_name, one_colon, variable_at, global_at, is_special, tail_length}
use Rattle.ruby_lexer.specs.Numbers.{number_at, number_with_rest, numeral, begins_fraction}
use Rattle.ruby_lexer.specs.Marks.{marks, method_operators, match_at, marks_at, with_second, is_method_name, unary_name_at, setter_at, operator_forms, colon_forms}
use Rattle.ruby_lexer.specs.Texts.{single_text, single_at, single_with_rest, with_byte, opens_list, list_at, list_with_rest, list_kind, word_list, cells, block_comment_at, comment_with_rest, after_line}
use Rattle.ruby_lexer.specs.Forms.{forms, is_fresh}
use Rattle.ruby_lexer.proofs.Each.{by_test}
use Rattle.ruby_lexer.proofs.Order.{Found, pair, Later, AllLater, Ordered, Short, AllShort}
use Rattle.ruby_lexer.proofs.Lists.{false_true, drop_le, begins_some, drop_one, and_left, and_right, starts_fits, first_le, first_starts, run_starts}

-- a choice between forms
later_if : (b : Bool) (x y z : Found) → (b ≡ true → Later x z) → (b ≡ false → Later y z) → Later (if b then x else y) z
later_if true x y z h g = h refl
later_if false x y z h g = g refl

if_later : (b : Bool) (x y z : Found) → (b ≡ true → Later z x) → (b ≡ false → Later z y) → Later z (if b then x else y)
if_later true x y z h g = h refl
if_later false x y z h g = g refl

short_if : (n : ℕ) (b : Bool) (x y : Found) → (b ≡ true → Short n x) → (b ≡ false → Short n y) → Short n (if b then x else y)
short_if n true x y h g = h refl
short_if n false x y h g = g refl

none_later : (x : Found) → Later x None
none_later None = tt
none_later (Some x) = tt

-- one that leaves less
less_later : (k j : Piece) (r q : Bytes) → length r < length q → Later (Some (k, r)) (Some (j, q))
less_later k j r q h = (omega arith, λ g. absurd (omega arith))

kind_later : (k : Piece) (r q : Bytes) (o : Option Kind) → length r < length q → Later (Some (k, r)) (with_rest q o)
kind_later k r q None h = tt
kind_later k r q (Some j) h = less_later k (token j) r q h

label_later : (before : WordContext) (w : Bytes) → Later (label_at w) (word_at before w)
unfolding label_at word_at
label_later before w =
    later_if (one_colon (after_name w)) _ _ _
    (λ h. kind_later _ _ _ (word_kind before (name_of w) (after_name w)) (drop_one (after_name w) (begins_some _ (after_name w) (and_left _ _ h))))
    (λ _. tt)

second_later : (c : ℕ) (w : Bytes) → Ordered (with_second c w)
second_later c w =
    ((later_if (begins_with c w) (Some (token mark, drop 1 w)) None (Some (token mark, w)) (λ h. less_later _ _ _ _ (drop_one w (begins_some _ w h))) (λ _. tt), tt), (tt, tt))

-- a form that leaves less than all but one byte of w
before_second : (x : Piece × Bytes) (c : ℕ) (w : Bytes) → length x.1 < length (drop 1 w) → AllLater (Some x) (with_second c w)
before_second x c w h =
    (if_later (begins_with c w) (Some (token mark, drop 1 w)) None (Some x) (λ _. (omega arith, λ g. absurd (omega arith))) (λ _. tt), ((omega (arith, drop_le 1 w), λ g. absurd (omega (arith, drop_le 1 w))), tt))

none_before : (xs : List Found) → AllLater None xs
none_before [] = tt
none_before (x ∷ xs) = (tt, none_before xs)

list_later : (w : Bytes) → AllLater (list_at w) (with_second 61 w)
unfolding list_at
list_later w =
    by_test (opens_list w)
    (λ t. rw t (found (from_first (93 ∷ []) (drop 2 w)) refl))
    (λ t. rw t (none_before (with_second 61 w)))
  where
    found : (o : Option Bytes) → from_first (93 ∷ []) (drop 2 w) ≡ o → AllLater (list_with_rest (get_or w 0 0) (drop 2 w) o) (with_second 61 w)
    found None e = none_before (with_second 61 w)
    found (Some r) e =
        before_second (pair (token (list_kind (get_or w 0 0) (word_list (cells (taken (drop 2 w) r))))) (drop 1 r)) 61 w (omega (arith, length-drop 1 r, starts_fits (93 ∷ []) r (first_starts (93 ∷ []) (drop 2 w) r e), first_le (93 ∷ []) (drop 2 w) r e, length-drop 2 w, length-drop 1 w))

unary_later : (before : WordContext) (w : Bytes) → AllLater (unary_name_at before w) (with_second 61 w)
unary_later before w =
    by_test (is_method_name before && begins_with 64 w)
    (λ h. rw h (if_later (begins_with 61 w) (Some (token mark, drop 1 w)) None (Some (token mark, drop 1 w)) (λ _. (omega arith, λ _. refl)) (λ _. tt), (less_later (token mark) (token mark) (drop 1 w) w (drop_one w (begins_some (λ c. nat_eq c 64) w (and_right (is_method_name before) (begins_with 64 w) h))), tt)))
    (λ h. rw h (none_before (with_second 61 w)))

-- A table whose longer entries come first.
abbrev below_first : ℕ → List Bytes → Bool
below_first n [] = true
below_first n (f ∷ fs) = nat_lt 0 (length f) && nat_le (length f) n && below_first (length f) fs

match_later : (kind : Bytes → Kind) (w f g : Bytes) → length g ≤ length f → Later (match_at kind w f) (match_at kind w g)
match_later kind w f g h =
    later_if (starts f w) (Some (token (kind (take (length f) w)), drop (length f) w)) None (match_at kind w g)
    (λ s. if_later (starts g w) (Some (token (kind (take (length g) w)), drop (length g) w)) None (Some (token (kind (take (length f) w)), drop (length f) w))
    (λ t. (omega (arith, length-drop (length f) w, length-drop (length g) w), λ le. same s t le))
    (λ t. tt))
    (λ s. tt)
  where
    same : starts f w ≡ true → starts g w ≡ true → length (drop (length g) w) ≤ length (drop (length f) w) → pair (token (kind (take (length g) w))) (drop (length g) w) ≡ pair (token (kind (take (length f) w))) (drop (length f) w)
    same s t le = let e : length g ≡ length f = omega (arith, length-drop (length f) w, length-drop (length g) w, starts_fits f w s, starts_fits g w t) in rw e

table_after : (kind : Bytes → Kind) (w f : Bytes) (n : ℕ) (fs : List Bytes) (ys : List Found) → n ≤ length f → below_first n fs ≡ true → AllLater (match_at kind w f) ys → AllLater (match_at kind w f) (map (match_at kind w) fs ++ ys)
table_after kind w f n [] ys le h g = g
table_after kind w f n (e ∷ fs) ys le h g =
    let fits : length e ≤ n = leb-true (length e) n (and_right (nat_lt 0 (length e)) (nat_le (length e) n) (and_left (nat_lt 0 (length e) && nat_le (length e) n) (below_first (length e) fs) h)) in
    (match_later kind w f e (omega arith), table_after kind w f (length e) fs ys (omega arith) (and_right (nat_lt 0 (length e) && nat_le (length e) n) (below_first (length e) fs) h) g)

pub table_ordered : (kind : Bytes → Kind) (w : Bytes) (n : ℕ) (fs : List Bytes) (ys : List Found) → below_first n fs ≡ true → Ordered ys → ((f : Bytes) → 0 < length f → AllLater (match_at kind w f) ys) → Ordered (map (match_at kind w) fs ++ ys)
table_ordered kind w n [] ys h o g = o
table_ordered kind w n (f ∷ fs) ys h o g =
    (table_after kind w f (length f) fs ys (omega arith) (and_right _ _ h) (g f (ltb-true 0 (length f) (and_left (nat_lt 0 (length f)) (nat_le (length f) n) (and_left (nat_lt 0 (length f) && nat_le (length f) n) (below_first (length f) fs) h)))), table_ordered kind w (length f) fs ys (and_right (nat_lt 0 (length f) && nat_le (length f) n) (below_first (length f) fs) h) o g)

append_none : (xs : List Found) → Ordered (xs ++ []) → Ordered xs
append_none xs h = subst (λ (z : List Found). Ordered z) (append-nil xs) h

marks_ordered : (w : Bytes) → Ordered (marks_at w)
unfolding marks_at
marks_ordered w = append_none (marks_at w) (table_ordered (λ f. mark) w 4 marks [] refl tt (λ f h. tt))

-- no mark is longer than n where none of the table is
marks_long : (w : Bytes) (x : Piece × Bytes) (n : ℕ) (fs : List Bytes) → list_all (λ f. nat_le (length f) n) fs ≡ true → length x.1 + n < length w → AllLater (Some x) (map (match_at (λ f. mark) w) fs)
marks_long w x n [] h less = tt
marks_long w x n (f ∷ fs) h less =
    let fits : length f ≤ n = leb-true (length f) n (and_left (nat_le (length f) n) (list_all (λ f. nat_le (length f) n) fs) h) in
    (if_later (starts f w) (Some (token mark, drop (length f) w)) None (Some x) (λ _. (omega (arith, length-drop (length f) w), λ g. absurd (omega (arith, length-drop (length f) w)))) (λ _. tt), marks_long w x n fs (and_right (nat_le (length f) n) (list_all (λ f. nat_le (length f) n) fs) h) less)

comment_short : (r : Bytes) → starts (10 ∷ codes "=end") r ≡ true → length (after_line (drop 1 r)) + 5 < suc (length r)
comment_short [] h = false_true h
comment_short (b ∷ r) h =
    omega (arith, run_starts (codes "=end") r refl (and_right (nat_eq b 10) (starts (codes "=end") r) h), length-drop 1 (drop (run is_inline r) r), length-drop (run is_inline r) r, starts_fits (10 ∷ codes "=end") (b ∷ r) h)

comment_later : (fresh : Bool) (w : Bytes) → AllLater (block_comment_at fresh w) (marks_at w)
unfolding block_comment_at marks_at
comment_later fresh w =
    by_test (fresh && starts (codes "=begin") w)
    (λ t. rw t (found (from_first (10 ∷ codes "=end") w) refl))
    (λ t. rw t (none_before (marks_at w)))
  where
    found : (o : Option Bytes) → from_first (10 ∷ codes "=end") w ≡ o → AllLater (comment_with_rest o) (marks_at w)
    found None e = none_before (marks_at w)
    found (Some r) e =
        marks_long w (pair comment (after_line (drop 1 r))) 4 marks refl (omega (arith, comment_short r (first_starts (10 ∷ codes "=end") w r e), first_le (10 ∷ codes "=end") w r e))

setter_later : (w : Bytes) → Later (setter_at w) (Some (token (symbol (name_of w)), after_name w))
setter_later w =
    later_if (begins is_small w && begins_with 61 (after_name w)) _ _ (Some (token (symbol (name_of w)), after_name w))
    (λ h. less_later _ _ (drop 1 (after_name w)) (after_name w) (drop_one (after_name w) (begins_some (λ c. nat_eq c 61) (after_name w) (and_right (begins is_small w) (begins_with 61 (after_name w)) h))))
    (λ _. tt)

operator_later : (w f : Bytes) → 0 < length f → AllLater (match_at symbol w f) (Some (token mark, w) ∷ [])
operator_later w f h =
    (later_if (starts f w) (Some (token (symbol (take (length f) w)), drop (length f) w)) None (Some (token mark, w)) (λ t. less_later _ _ (drop (length f) w) w (omega (arith, length-drop (length f) w, starts_fits f w t))) (λ _. tt), tt)

ordered_if : (b : Bool) (xs ys : List Found) → (b ≡ true → Ordered xs) → (b ≡ false → Ordered ys) → Ordered (if b then xs else ys)
ordered_if true xs ys h g = h refl
ordered_if false xs ys h g = g refl

all_short_if : (n : ℕ) (b : Bool) (xs ys : List Found) → (b ≡ true → AllShort n xs) → (b ≡ false → AllShort n ys) → AllShort n (if b then xs else ys)
all_short_if n true xs ys h g = h refl
all_short_if n false xs ys h g = g refl

colon_ordered : (w : Bytes) → Ordered (colon_forms w)
unfolding colon_forms operator_forms
colon_ordered w =
    ordered_if (begins_with 58 w) _ _ (λ _. second_later 58 w)
    (λ _. ordered_if (begins_with 34 w) _ _ (λ _. (tt, tt))
    (λ _. ordered_if (begins is_letter w) _ _ (λ _. ((setter_later w, tt), (tt, tt)))
    (λ _. table_ordered symbol w 3 method_operators (Some (token mark, w) ∷ []) refl (tt, tt) (operator_later w))))

pub forms_ordered : (text : Bytes) (s : State) (c : Class) (b : ℕ) (w : Bytes) → Ordered (forms text s c b w)
forms_ordered text s Digit b w = (tt, tt)
forms_ordered text s Letter b w = ((label_later s.before (b ∷ w), tt), (tt, tt))
forms_ordered text s At b w = (tt, tt)
forms_ordered text s Dollar b w = (tt, tt)
forms_ordered text s SingleQuote b w = (tt, tt)
forms_ordered text s DoubleQuote b w = tt
forms_ordered text s Colon b w = colon_ordered w
forms_ordered text s Percent b w = (list_later w, second_later 61 w)
forms_ordered text s Equals b w = (comment_later (is_fresh text (b ∷ w)) (b ∷ w), marks_ordered (b ∷ w))
forms_ordered text s Sign b w = (unary_later s.before w, second_later 61 w)
forms_ordered text s Operator b w = marks_ordered (b ∷ w)
forms_ordered text s Single b w = (tt, tt)
forms_ordered text s Semicolon b w = (tt, tt)
forms_ordered text s LineEnd b w = (tt, tt)
forms_ordered text s Space b w = (tt, tt)
forms_ordered text s Return b w = (tt, tt)
forms_ordered text s Backslash b w = (tt, tt)
forms_ordered text s Hash b w = (tt, tt)
forms_ordered text s Other b w = tt

-- Each form takes a byte.
abbrev ShortText : ℕ → Option (Bytes × Bytes) → Type 0
ShortText n None = Unit {0}
ShortText n (Some p) = length p.1 ≤ n

short_byte : (b n m : ℕ) (o : Option (Bytes × Bytes)) → n ≤ m → ShortText n o → ShortText m (with_byte b o)
short_byte b n m None le h = tt
short_byte b n m (Some p) le h = omega arith

text_if : (n : ℕ) (b : Bool) (x y : Option (Bytes × Bytes)) → ShortText n x → ShortText n y → ShortText n (if b then x else y)
text_if n true x y h g = h
text_if n false x y h g = g

text_short : (w : Bytes) → ShortText (length w) (single_text w)
unfolding single_text
text_short [] = tt
text_short (b ∷ []) = text_if 1 (nat_eq b 39) (Some ([], [])) None (omega arith) tt
text_short (b ∷ c ∷ w) =
    text_if _ (nat_eq b 39) _ _ (omega arith)
    (text_if _ (nat_eq b 92 && (nat_eq c 92 || nat_eq c 39)) _ _ (short_byte c (length w) _ (single_text w) (omega arith) (text_short w)) (short_byte b (length (c ∷ w)) _ (single_text (c ∷ w)) (omega arith) (text_short (c ∷ w))))

single_short : (n : ℕ) (o : Option (Bytes × Bytes)) → ShortText n o → Short n (single_with_rest o)
single_short n None h = tt
single_short n (Some p) h = h

number_short : (n : ℕ) (r : Bytes) (o : Option ℕ) → length r ≤ n → Short n (number_with_rest r o)
number_short n r None h = tt
number_short n r (Some v) h = h

kind_short : (n : ℕ) (r : Bytes) (o : Option Kind) → length r ≤ n → Short n (with_rest r o)
kind_short n r None h = tt
kind_short n r (Some v) h = h

after_short : (w : Bytes) → length (after_name w) ≤ length (drop 1 w)
after_short w = drop_le (tail_length (drop 1 w)) (drop 1 w)

second_short : (c : ℕ) (w : Bytes) → AllShort (length w) (with_second c w)
second_short c w = (short_if (length w) (begins_with c w) (Some (token mark, drop 1 w)) None (λ _. drop_le 1 w) (λ _. tt), (omega arith, tt))

marks_short : (kind : Bytes → Kind) (b n : ℕ) (w : Bytes) (fs : List Bytes) (ys : List Found) → below_first n fs ≡ true → AllShort (length w) ys → AllShort (length w) (map (match_at kind (b ∷ w)) fs ++ ys)
marks_short kind b n w [] ys h g = g
marks_short kind b n w (f ∷ fs) ys h g =
    let some : 0 < length f = ltb-true 0 (length f) (and_left (nat_lt 0 (length f)) (nat_le (length f) n) (and_left (nat_lt 0 (length f) && nat_le (length f) n) (below_first (length f) fs) h)) in (
      short_if (length w) (starts f (b ∷ w)) (Some (token (kind (take (length f) (b ∷ w))), drop (length f) (b ∷ w))) None (λ _. omega (arith, length-drop (length f) (b ∷ w))) (λ _. tt),
      marks_short kind b (length f) w fs ys (and_right (nat_lt 0 (length f) && nat_le (length f) n) (below_first (length f) fs) h) g,
    )

table_short : (b : ℕ) (w : Bytes) → AllShort (length w) (marks_at (b ∷ w))
unfolding marks_at
table_short b w = subst (λ (z : List Found). AllShort (length w) z) (append-nil (marks_at (b ∷ w))) (marks_short (λ f. mark) b 4 w marks [] refl tt)

symbols_short : (w : Bytes) (fs : List Bytes) → AllShort (length w) (map (match_at symbol w) fs ++ Some (token mark, w) ∷ [])
symbols_short w [] = (omega arith, tt)
symbols_short w (f ∷ fs) =
    (short_if (length w) (starts f w) (Some (token (symbol (take (length f) w)), drop (length f) w)) None (λ _. drop_le (length f) w) (λ _. tt), symbols_short w fs)

list_short : (w : Bytes) → Short (length w) (list_at w)
unfolding list_at
list_short w = short_if (length w) (opens_list w) _ None (λ _. found (from_first (93 ∷ []) (drop 2 w)) refl) (λ _. tt)
  where
    found : (o : Option Bytes) → from_first (93 ∷ []) (drop 2 w) ≡ o → Short (length w) (list_with_rest (get_or w 0 0) (drop 2 w) o)
    found None e = tt
    found (Some r) e = omega (arith, drop_le 1 r, first_le (93 ∷ []) (drop 2 w) r e, drop_le 2 w)

block_short : (fresh : Bool) (b : ℕ) (w : Bytes) → Short (length w) (block_comment_at fresh (b ∷ w))
unfolding block_comment_at
block_short fresh b w = short_if _ (fresh && starts (codes "=begin") (b ∷ w)) _ None (λ _. found (from_first (10 ∷ codes "=end") (b ∷ w)) refl) (λ _. tt)
  where
    found : (o : Option Bytes) → from_first (10 ∷ codes "=end") (b ∷ w) ≡ o → Short (length w) (comment_with_rest o)
    found None e = tt
    found (Some r) e = omega (arith, comment_short r (first_starts (10 ∷ codes "=end") (b ∷ w) r e), first_le (10 ∷ codes "=end") (b ∷ w) r e)

unary_short : (before : WordContext) (w : Bytes) → Short (length w) (unary_name_at before w)
unary_short before w = short_if _ (is_method_name before && begins_with 64 w) (Some (token mark, drop 1 w)) None (λ _. drop_le 1 w) (λ _. tt)

colon_short : (w : Bytes) → AllShort (length w) (colon_forms w)
unfolding colon_forms operator_forms
colon_short w =
    all_short_if _ (begins_with 58 w) _ _ (λ _. second_short 58 w)
    (λ _. all_short_if _ (begins_with 34 w) _ _ (λ _. (omega arith, tt))
    (λ _. all_short_if _ (begins is_letter w) _ _ (λ _. (short_if _ (begins is_small w && begins_with 61 (after_name w)) (Some (token (symbol (name_of w ++ 61 ∷ [])), drop 1 (after_name w))) None (λ _. omega (arith, drop_le 1 (after_name w), after_short w, drop_le 1 w)) (λ _. tt), (omega (arith, after_short w, drop_le 1 w), tt)))
    (λ _. symbols_short w method_operators)))

letter_short : (before : WordContext) (b : ℕ) (w : Bytes) → Short (length w) (label_at (b ∷ w)) × Short (length w) (word_at before (b ∷ w))
unfolding label_at word_at
letter_short before b w = (
  short_if _ (one_colon (after_name (b ∷ w))) (Some (token (label (plain (name_of (b ∷ w)) ends)), drop 1 (after_name (b ∷ w)))) None (λ _. omega (arith, drop_le 1 (after_name (b ∷ w)), after_short (b ∷ w))) (λ _. tt),
  kind_short _ (after_name (b ∷ w)) (word_kind before (name_of (b ∷ w)) (after_name (b ∷ w))) (omega (arith, after_short (b ∷ w))),
)

number_form_short : (b : ℕ) (w : Bytes) → Short (length w) (number_at b w)
unfolding number_at
number_form_short b w = short_if _ (begins_fraction (drop (run is_word w) w)) None (number_with_rest (drop (run is_word w) w) (numeral b (take (run is_word w) w))) (λ _. tt) (λ _. number_short _ (drop (run is_word w) w) (numeral b (take (run is_word w) w)) (drop_le (run is_word w) w))

variable_short : (w : Bytes) → Short (length w) (variable_at w)
unfolding variable_at
variable_short w = short_if _ (begins is_small w) (Some (token variable, after_name w)) None (λ _. omega (arith, after_short w, drop_le 1 w)) (λ _. tt)

global_short : (w : Bytes) → Short (length w) (global_at w)
unfolding global_at
global_short w = short_if _ (begins is_letter w) (Some (token global, after_name w)) (if begins is_special w then Some (token global, drop 1 w) else None) (λ _. omega (arith, after_short w, drop_le 1 w)) (λ _. short_if _ (begins is_special w) (Some (token global, drop 1 w)) None (λ _. drop_le 1 w) (λ _. tt))

single_form_short : (w : Bytes) → Short (length w) (single_at w)
unfolding single_at
single_form_short w = single_short (length w) (single_text w) (text_short w)

pub forms_short : (text : Bytes) (s : State) (c : Class) (b : ℕ) (w : Bytes) → AllShort (length w) (forms text s c b w)
forms_short text s Digit b w = (number_form_short b w, tt)
forms_short text s Letter b w = let h = letter_short s.before b w in (h.0, (h.1, tt))
forms_short text s At b w = (variable_short w, tt)
forms_short text s Dollar b w = (global_short w, tt)
forms_short text s SingleQuote b w = (single_form_short w, tt)
forms_short text s DoubleQuote b w = tt
forms_short text s Colon b w = colon_short w
forms_short text s Percent b w = (list_short w, second_short 61 w)
forms_short text s Equals b w = (block_short (is_fresh text (b ∷ w)) b w, table_short b w)
forms_short text s Sign b w = (unary_short s.before w, second_short 61 w)
forms_short text s Operator b w = table_short b w
forms_short text s Single b w = (omega arith, tt)
forms_short text s Semicolon b w = (omega arith, tt)
forms_short text s LineEnd b w = (omega arith, tt)
forms_short text s Space b w = (omega arith, tt)
forms_short text s Return b w = (short_if _ (begins_with 10 w) (Some (blank, w)) None (λ _. omega arith) (λ _. tt), tt)
forms_short text s Backslash b w = (short_if _ (begins_with 10 w) (Some (blank, drop 1 w)) None (λ _. drop_le 1 w) (λ _. tt), tt)
forms_short text s Hash b w = (drop_le (run is_inline w) w, tt)
forms_short text s Other b w = tt
