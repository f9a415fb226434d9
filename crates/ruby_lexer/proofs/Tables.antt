-- The first entry of a table that stands at the front.
use Rattle.std.proofs.Common.{◌≡◌, ℕ, ◌≤◌, ◌<◌, List, [], ◌∷◌, ◌++◌, length, take, drop, map, true, false, refl, ap, ◌∙◌, sym, arith, Option, Some, None}
use Rattle.std.proofs.lemmas.List.{append-nil}
use Rattle.ruby_lexer.specs.Bytes.{Bytes, starts}
use Rattle.ruby_lexer.specs.declared.class.Class.TheVariants.{Letter}
use Rattle.ruby_lexer.specs.declared.state.State.{State}
use Rattle.ruby_lexer.specs.Pieces.{Kind, mark, symbol, label, plain, ends, token}
use Rattle.ruby_lexer.specs.Words.{one_colon, after_name, name_of, label_at, word_at, word_kind, with_rest}
use Rattle.ruby_lexer.specs.Marks.{marks, method_operators, match_at, marks_at, operator_forms, first_length, mark_length, operator_length}
use Rattle.ruby_lexer.specs.Scan.{or_else, first_some, first_of}
use Rattle.ruby_lexer.proofs.Each.{by_test}
use Rattle.ruby_lexer.proofs.Order.{Found}
use Rattle.ruby_lexer.proofs.Lists.{starts_fits}

abbrev pub matched : (Bytes → Kind) → Bytes → Option ℕ → Found
matched kind w None = None
matched kind w (Some n) = Some (token (kind (take n w)), drop n w)

table_first : (kind : Bytes → Kind) (w : Bytes) (fs : List Bytes) (ys : List Found) → first_some (map (match_at kind w) fs ++ ys) ≡ or_else (matched kind w (first_length w fs)) (first_some ys)
table_first kind w [] ys = refl
table_first kind w (f ∷ fs) ys = by_test (starts f w) (λ h. rw h) (λ h. rw (h, table_first kind w fs ys))

or_none : (x : Found) → or_else x None ≡ x
or_none None = refl
or_none (Some x) = refl

length_fits : (w : Bytes) (fs : List Bytes) (n : ℕ) → first_length w fs ≡ Some n → n ≤ length w
length_fits w [] n h = let e : (let o : Option ℕ = None in o) ≡ Some n = h in cc
length_fits w (f ∷ fs) n h = by_test (starts f w) (λ t. let e : Some (length f) ≡ Some n = rw t at h in let is : length f ≡ n = cc in omega (arith, starts_fits f w t)) (λ t. let e : first_length w fs ≡ Some n = rw t at h in length_fits w fs n e)

pub marks_first : (w : Bytes) → first_some (marks_at w) ≡ matched (λ f. mark) w (mark_length w)
unfolding mark_length marks_at
marks_first w = ap first_some (sym (append-nil (marks_at w))) ∙ table_first (λ f. mark) w marks [] ∙ or_none _

pub operators_first : (w : Bytes) → first_some (operator_forms w) ≡ or_else (matched symbol w (operator_length w)) (Some (token mark, w))
unfolding operator_length operator_forms
operators_first w = table_first symbol w method_operators (Some (token mark, w) ∷ [])

pub mark_fits : (w : Bytes) (n : ℕ) → mark_length w ≡ Some n → n ≤ length w
unfolding mark_length
mark_fits w n h = length_fits w marks n h

pub operator_fits : (w : Bytes) (n : ℕ) → operator_length w ≡ Some n → n ≤ length w
unfolding operator_length
operator_fits w n h = length_fits w method_operators n h

-- a name or a label, whose first letter stands at the front
pub label_first : (text : Bytes) (s : State) (w : Bytes) → 0 < length w → one_colon (after_name w) ≡ true → first_of text s Letter w ≡ Some (token (label (plain (name_of w) ends)), drop 1 (after_name w))
unfolding label_at
label_first text s [] len h = absurd (omega arith)
label_first text s (b ∷ w) len h = rw h

with_none : (r : Bytes) (k : Option Kind) → or_else (with_rest r k) None ≡ with_rest r k
with_none r None = refl
with_none r (Some k) = refl

pub word_first : (text : Bytes) (s : State) (w : Bytes) → 0 < length w → one_colon (after_name w) ≡ false → first_of text s Letter w ≡ with_rest (after_name w) (word_kind s.before (name_of w) (after_name w))
unfolding label_at word_at
word_first text s [] len h = absurd (omega arith)
word_first text s (b ∷ w) len h = rw h (with_none (after_name (b ∷ w)) (word_kind s.before (name_of (b ∷ w)) (after_name (b ∷ w))))
