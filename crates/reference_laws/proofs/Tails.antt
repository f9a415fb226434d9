-- What is left of a text behind each piece is an end of the text.
use Rattle.std.proofs.Common.{◌≡◌, ℕ, zero, suc, ◌-◌, ◌≤◌, List, [], ◌∷◌, ◌++◌, length, take, drop, map, Bool, true, false, nat_eq, nat_le, nat_lt, ◌&&◌, ◌||◌, inl, inr, refl, ap, ◌∙◌, arith, subst, if◌then◌else◌, Option, Some, None, codes, get_or}
use Rattle.ruby_lexer.specs.declared.class.Class.{Class}
use Rattle.ruby_lexer.specs.declared.class.Class.TheVariants.{Digit, Letter, At, Dollar, SingleQuote, DoubleQuote, Colon, Percent, Equals, Sign, Operator, Single, Semicolon, LineEnd, Space, Return, Backslash, Hash, Other}
use Rattle.ruby_lexer.specs.declared.state.State.{State}
use Rattle.ruby_lexer.specs.declared.state.WordContext.{WordContext}
use Rattle.ruby_lexer.specs.declared.state.WordContext.TheVariants.{Plain, Dot, Def}
use Rattle.ruby_lexer.specs.Bytes.{Bytes, is_inline, is_small, is_capital, is_letter, is_word, begins, begins_with, run, same, starts, from_first}
use Rattle.ruby_lexer.specs.Pieces.{Kind, name, constant, keyword, mark, symbol, words, symbols, ends, Parts, Piece, token, blank}
use Rattle.ruby_lexer.specs.Words.{name_of, after_name, tail_length, is_forbidden, is_reserved, reserved_kind, word_kind, with_rest, word_at, one_colon, label_at, variable_at, is_special, global_at}
use Rattle.ruby_lexer.specs.Numbers.{is_hex, numeral, number_with_rest, begins_fraction, number_at}
use Rattle.ruby_lexer.specs.Marks.{marks, method_operators, match_at, marks_at, with_second, is_method_name, unary_name_at, operator_forms, colon_forms}
use Rattle.ruby_lexer.specs.Texts.{single_text, with_byte, single_with_rest, plain_parts, single_at, escape, escaped_byte, byte_with_rest, unicode_escape, digits_to_brace, encoded, scalar_value, is_alphanumeric, list_with_rest, opens_list, list_at, after_line, comment_with_rest, block_comment_at}
use Rattle.ruby_lexer.specs.Forms.{is_fresh, forms, OneOf}
use Rattle.ruby_lexer.proofs.Order.{Found, pair}
use Rattle.reference_laws.proofs.Sited.{LinedKind, LinedParts}

pub data Tail : Bytes → Bytes → Type 0 where
  here : {w : Bytes} → Tail w w
  behind : {b : ℕ} {w r : Bytes} → Tail w r → Tail (b ∷ w) r

pub tail_on : {w q r : Bytes} → Tail w q → Tail q r → Tail w r
tail_on here k = k
tail_on (behind t) k = behind (tail_on t k)

pub tail_drop : (n : ℕ) (w : Bytes) → Tail w (drop n w)
tail_drop zero w = here
tail_drop (suc n) [] = here
tail_drop (suc n) (b ∷ w) = behind (tail_drop n w)

tail_short : {w r : Bytes} → Tail w r → length r ≤ length w
tail_short here = omega arith
tail_short (behind t) = omega (arith, tail_short t)

-- an end of a text stands where its length says
pub tail_at : {text w : Bytes} → Tail text w → drop (length text - length w) text ≡ w
tail_at {w = w} here = let none : length w - length w ≡ 0 = omega arith in ap (λ (n : ℕ). drop n w) none
tail_at {w = w} (behind {b = b} {w = v} t) =
    let one : length (b ∷ v) - length w ≡ suc (length v - length w) = omega (arith, tail_short t) in ap (λ (n : ℕ). drop n (b ∷ v)) one ∙ tail_at t

-- what is read of a text leaves an end of it
abbrev TailText : Bytes → Option (Bytes × Bytes) → Type 0
TailText w None = Unit {0}
TailText w (Some p) = Tail w p.1

text_if : (w : Bytes) (b : Bool) (x y : Option (Bytes × Bytes)) → TailText w x → TailText w y → TailText w (if b then x else y)
text_if w true x y h k = h
text_if w false x y h k = k

text_on : (w v : Bytes) (o : Option (Bytes × Bytes)) → Tail w v → TailText v o → TailText w o
text_on w v None t h = tt
text_on w v (Some p) t h = tail_on t h

byte_on : (b : ℕ) (w : Bytes) (o : Option (Bytes × Bytes)) → TailText w o → TailText w (with_byte b o)
byte_on b w None h = tt
byte_on b w (Some p) h = h

single_tail : (w : Bytes) → TailText w (single_text w)
unfolding single_text
single_tail [] = tt
single_tail (b ∷ []) = text_if (b ∷ []) (nat_eq b 39) (Some ([], [])) None (behind here) tt
single_tail (b ∷ c ∷ w) =
    text_if _ (nat_eq b 39) _ _ (behind here)
    (text_if _ (nat_eq b 92 && (nat_eq c 92 || nat_eq c 39)) _ _
    (text_on _ w _ (behind (behind here)) (byte_on c w (single_text w) (single_tail w)))
    (text_on _ (c ∷ w) _ (behind here) (byte_on b (c ∷ w) (single_text (c ∷ w)) (single_tail (c ∷ w)))))

encoded_tail : (w r : Bytes) (o : Option ℕ) → Tail w r → TailText w (encoded r o)
encoded_tail w r None t = tt
encoded_tail w r (Some v) t = text_if w (nat_le 55296 v && nat_le v 57343) None _ tt t

byte_tail : (w r : Bytes) (o : Option ℕ) → Tail w r → TailText w (byte_with_rest r o)
byte_tail w r None t = tt
byte_tail w r (Some b) t = t

brace_tail : (w : Bytes) → TailText w (digits_to_brace w)
brace_tail w =
    text_if w (nat_lt 0 (run is_hex w) && begins_with 125 (drop (run is_hex w) w)) _ None
    (encoded_tail w (drop 1 (drop (run is_hex w) w)) (scalar_value 0 (take (run is_hex w) w)) (tail_on (tail_drop (run is_hex w) w) (tail_drop 1 (drop (run is_hex w) w)))) tt

unicode_tail : (w : Bytes) → TailText w (unicode_escape w)
unfolding unicode_escape
unicode_tail w =
    text_if w (begins_with 123 w) _ _ (text_on w (drop 1 w) _ (tail_drop 1 w) (brace_tail (drop 1 w)))
    (text_if w (nat_le 4 (run is_hex w)) _ None (encoded_tail w (drop 4 w) (scalar_value 0 (take 4 w)) (tail_drop 4 w)) tt)

escape_tails : (w : Bytes) → TailText w (escape w)
unfolding escape
escape_tails [] = tt
escape_tails (b ∷ w) =
    text_if _ (nat_eq b 117) _ _ (text_on _ w (unicode_escape w) (behind here) (unicode_tail w))
    (text_if _ (is_alphanumeric b) _ _ (byte_tail _ w (escaped_byte b) (behind here))
    (text_if _ (nat_eq b 10) _ _ (behind here) (behind here)))

pub escape_tail : (w f q : Bytes) → escape w ≡ Some (f, q) → Tail w q
escape_tail w f q e = subst (TailText w) e (escape_tails w)

first_by : (t : Bool) (b : ℕ) (w r : Bytes) (o : Option Bytes) → (o ≡ Some r → Tail w r) → (if t then Some (b ∷ w) else o) ≡ Some r → Tail (b ∷ w) r
first_by true b w r o further e = let is : b ∷ w ≡ r = cc in subst (Tail (b ∷ w)) is here
first_by false b w r o further e = behind (further e)

pub first_tail : (f w r : Bytes) → from_first f w ≡ Some r → Tail w r
first_tail f [] r h = let none : (let o : Option Bytes = None in o) ≡ Some r = h in absurd cc
first_tail f (b ∷ w) r h = first_by (starts f (b ∷ w)) b w r (from_first f w) (first_tail f w r) h

pub after_tail : (w : Bytes) → Tail w (after_name w)
after_tail w = tail_on (tail_drop 1 w) (tail_drop (tail_length (drop 1 w)) (drop 1 w))

line_tail : (w : Bytes) → Tail w (after_line w)
line_tail w = tail_on (tail_drop (run is_inline w) w) (tail_drop 1 (drop (run is_inline w) w))

module _ (L : ℕ → ℕ) where
  -- the tokens within a piece are in their lines
  abbrev pub LinedPiece : Piece → Type 0
  LinedPiece (token k) = LinedKind L k
  LinedPiece _ = Unit {0}

  abbrev LinedOption : Option Kind → Type 0
  LinedOption None = Unit {0}
  LinedOption (Some k) = LinedKind L k

  abbrev Fit : Bytes → Found → Type 0
  Fit w None = Unit {0}
  Fit w (Some x) = Tail w x.1 × LinedPiece x.0

  abbrev AllFit : Bytes → List Found → Type 0
  AllFit w [] = Unit {0}
  AllFit w (x ∷ xs) = Fit w x × AllFit w xs

  pub one_fit : (w : Bytes) (xs : List Found) (k : Piece) (r : Bytes) → AllFit w xs → OneOf xs k r → Tail w r × LinedPiece k
  one_fit w [] k r h o = absurd o
  one_fit w (None ∷ xs) k r h (inl e) = absurd cc
  one_fit w (Some x ∷ xs) k r h (inl e) = let is : x ≡ pair k r = cc in subst (λ (z : Piece × Bytes). Tail w z.1 × LinedPiece z.0) is h.0
  one_fit w (x ∷ xs) k r h (inr o) = one_fit w xs k r h.1 o

  fit_if : (w : Bytes) (b : Bool) (x y : Found) → Fit w x → Fit w y → Fit w (if b then x else y)
  fit_if w true x y h k = h
  fit_if w false x y h k = k

  all_fit_if : (w : Bytes) (b : Bool) (xs ys : List Found) → AllFit w xs → AllFit w ys → AllFit w (if b then xs else ys)
  all_fit_if w true xs ys h k = h
  all_fit_if w false xs ys h k = k

  kind_if : (b : Bool) (x y : Option Kind) → LinedOption x → LinedOption y → LinedOption (if b then x else y)
  kind_if true x y h k = h
  kind_if false x y h k = k

  number_fit : (w r : Bytes) (o : Option ℕ) → Tail w r → Fit w (number_with_rest r o)
  number_fit w r None t = tt
  number_fit w r (Some n) t = (t, tt)

  digit_fit : (b : ℕ) (w : Bytes) → Fit (b ∷ w) (number_at b w)
  unfolding number_at
  digit_fit b w = fit_if _ (begins_fraction (drop (run is_word w) w)) None _ tt (number_fit _ (drop (run is_word w) w) (numeral b (take (run is_word w) w)) (behind (tail_drop (run is_word w) w)))

  kind_fit : (w r : Bytes) (o : Option Kind) → Tail w r → LinedOption o → Fit w (with_rest r o)
  kind_fit w r None t h = tt
  kind_fit w r (Some k) t h = (t, h)

  reserved_lined : (before : WordContext) (f r : Bytes) → LinedOption (reserved_kind before f r)
  reserved_lined Plain f r = kind_if (is_forbidden f) None (Some keyword) tt tt
  reserved_lined Dot f r = tt
  reserved_lined Def f r = kind_if (same f (codes "self") && begins_with 46 r) (Some keyword) (Some name) tt tt

  word_lined : (before : WordContext) (f r : Bytes) → LinedOption (word_kind before f r)
  word_lined before f r = kind_if (is_reserved f) (reserved_kind before f r) _ (reserved_lined before f r) (kind_if (begins is_capital f) (Some constant) (Some name) tt tt)

  word_fit : (before : WordContext) (w : Bytes) → Fit w (word_at before w)
  unfolding word_at
  word_fit before w = kind_fit w (after_name w) (word_kind before (name_of w) (after_name w)) (after_tail w) (word_lined before (name_of w) (after_name w))

  label_fit : (w : Bytes) → Fit w (label_at w)
  unfolding label_at
  label_fit w = fit_if w (one_colon (after_name w)) _ None (tail_on (after_tail w) (tail_drop 1 (after_name w)), tt) tt

  variable_fit : (b : ℕ) (w : Bytes) → Fit (b ∷ w) (variable_at w)
  unfolding variable_at
  variable_fit b w = fit_if _ (begins is_small w) _ None (behind (after_tail w), tt) tt

  global_fit : (b : ℕ) (w : Bytes) → Fit (b ∷ w) (global_at w)
  unfolding global_at
  global_fit b w = fit_if _ (begins is_letter w) _ _ (behind (after_tail w), tt) (fit_if _ (begins is_special w) _ None (behind (tail_drop 1 w), tt) tt)

  pub plain_lined : (f : Bytes) (ps : Parts) → LinedParts L ps → LinedParts L (plain_parts f ps)
  plain_lined [] ps h = h
  plain_lined (b ∷ f) ps h = h

  single_rest : (w v : Bytes) (o : Option (Bytes × Bytes)) → Tail w v → TailText v o → Fit w (single_with_rest o)
  single_rest w v None t h = tt
  single_rest w v (Some p) t h = (tail_on t h, plain_lined p.0 ends tt)

  single_fit : (b : ℕ) (w : Bytes) → Fit (b ∷ w) (single_at w)
  unfolding single_at
  single_fit b w = single_rest (b ∷ w) w (single_text w) (behind here) (single_tail w)

  second_fit : (b c : ℕ) (w : Bytes) → AllFit (b ∷ w) (with_second c w)
  second_fit b c w = (fit_if _ (begins_with c w) _ None (behind (tail_drop 1 w), tt) tt, ((behind here, tt), tt))

  marks_fit : (w : Bytes) (fs : List Bytes) → AllFit w (map (match_at (λ f. mark) w) fs)
  marks_fit w [] = tt
  marks_fit w (f ∷ fs) = (fit_if w (starts f w) _ None (tail_drop (length f) w, tt) tt, marks_fit w fs)

  table_fit : (w : Bytes) → AllFit w (marks_at w)
  unfolding marks_at
  table_fit w = marks_fit w marks

  symbols_fit : (b : ℕ) (w : Bytes) (fs : List Bytes) → AllFit (b ∷ w) (map (match_at symbol w) fs ++ Some (pair (token mark) w) ∷ [])
  symbols_fit b w [] = ((behind here, tt), tt)
  symbols_fit b w (f ∷ fs) = (fit_if _ (starts f w) _ None (behind (tail_drop (length f) w), tt) tt, symbols_fit b w fs)

  colon_fit : (b : ℕ) (w : Bytes) → AllFit (b ∷ w) (colon_forms w)
  unfolding colon_forms operator_forms
  colon_fit b w =
      all_fit_if _ (begins_with 58 w) _ _ (second_fit b 58 w)
      (all_fit_if _ (begins_with 34 w) _ _ ((behind here, tt), tt)
      (all_fit_if _ (begins is_letter w) _ _ (fit_if _ (begins is_small w && begins_with 61 (after_name w)) _ None (behind (tail_on (after_tail w) (tail_drop 1 (after_name w))), tt) tt, ((behind (after_tail w), tt), tt))
      (symbols_fit b w method_operators)))

  list_lined : (b : Bool) (fs : List Bytes) → LinedKind L (if b then words fs else symbols fs)
  list_lined true fs = tt
  list_lined false fs = tt

  list_rest : (w v : Bytes) (b : ℕ) (o : Option Bytes) → Tail w v → from_first (93 ∷ []) v ≡ o → Fit w (list_with_rest b v o)
  list_rest w v b None t e = tt
  list_rest w v b (Some r) t e = (tail_on t (tail_on (first_tail (93 ∷ []) v r e) (tail_drop 1 r)), list_lined (nat_eq b 119) _)

  list_fit : (b : ℕ) (w : Bytes) → Fit (b ∷ w) (list_at w)
  unfolding list_at
  list_fit b w = fit_if _ (opens_list w) _ None (list_rest (b ∷ w) (drop 2 w) (get_or w 0 0) (from_first (93 ∷ []) (drop 2 w)) (behind (tail_drop 2 w)) refl) tt

  comment_rest : (w : Bytes) (o : Option Bytes) → from_first (10 ∷ codes "=end") w ≡ o → Fit w (comment_with_rest o)
  comment_rest w None e = tt
  comment_rest w (Some r) e = (tail_on (first_tail (10 ∷ codes "=end") w r e) (tail_on (tail_drop 1 r) (line_tail (drop 1 r))), tt)

  block_fit : (fresh : Bool) (w : Bytes) → Fit w (block_comment_at fresh w)
  unfolding block_comment_at
  block_fit fresh w = fit_if w (fresh && starts (codes "=begin") w) _ None (comment_rest w (from_first (10 ∷ codes "=end") w) refl) tt

  unary_fit : (before : WordContext) (b : ℕ) (w : Bytes) → Fit (b ∷ w) (unary_name_at before w)
  unary_fit before b w = fit_if _ (is_method_name before && begins_with 64 w) _ None (behind (tail_drop 1 w), tt) tt

  pub forms_fit : (text : Bytes) (s : State) (c : Class) (b : ℕ) (w : Bytes) → AllFit (b ∷ w) (forms text s c b w)
  forms_fit text s Digit b w = (digit_fit b w, tt)
  forms_fit text s Letter b w = (label_fit (b ∷ w), (word_fit s.before (b ∷ w), tt))
  forms_fit text s At b w = (variable_fit b w, tt)
  forms_fit text s Dollar b w = (global_fit b w, tt)
  forms_fit text s SingleQuote b w = (single_fit b w, tt)
  forms_fit text s DoubleQuote b w = tt
  forms_fit text s Colon b w = colon_fit b w
  forms_fit text s Percent b w = (list_fit b w, second_fit b 61 w)
  forms_fit text s Equals b w = (block_fit (is_fresh text (b ∷ w)) (b ∷ w), table_fit (b ∷ w))
  forms_fit text s Sign b w = (unary_fit s.before b w, second_fit b 61 w)
  forms_fit text s Operator b w = table_fit (b ∷ w)
  forms_fit text s Single b w = ((behind here, tt), tt)
  forms_fit text s Semicolon b w = ((behind here, tt), tt)
  forms_fit text s LineEnd b w = ((behind here, tt), tt)
  forms_fit text s Space b w = ((behind here, tt), tt)
  forms_fit text s Return b w = (fit_if _ (begins_with 10 w) (Some (blank, w)) None (behind here, tt) tt, tt)
  forms_fit text s Backslash b w = (fit_if _ (begins_with 10 w) (Some (blank, drop 1 w)) None (behind (tail_drop 1 w), tt) tt, tt)
  forms_fit text s Hash b w = ((behind (tail_drop (run is_inline w) w), tt), tt)
  forms_fit text s Other b w = tt
