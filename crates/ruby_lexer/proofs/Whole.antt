-- What the reader takes is the longest piece, and the tokens are those of the relation.
use Rattle.std.proofs.Common.{◌≡◌, ℕ, zero, suc, ◌-◌, ◌≤◌, ◌<◌, List, [], ◌∷◌, length, take, drop, Bool, true, false, ◌&&◌, ◌⊎◌, inl, inr, refl, sym, ap, ◌∙◌, arith, subst, if◌then◌else◌, Option, Some, None, nat_eq, nat_le, nat_lt}
use Rattle.std.proofs.lemmas.Bool.{eqb-true}
use Rattle.ruby_lexer.specs.declared.class.Class.{Class}
use Rattle.ruby_lexer.specs.declared.class.Class.TheVariants.{DoubleQuote, Colon}
use Rattle.ruby_lexer.specs.declared.state.State.{State}
use Rattle.ruby_lexer.specs.declared.state.WordContext.TheVariants.{Plain}
use Rattle.ruby_lexer.specs.Bytes.{Bytes, begins_with, run, taken as gone}
use Rattle.ruby_lexer.specs.Classes.{class_of}
use Rattle.ruby_lexer.specs.Pieces.{Kind, mark, label, literal, symbol, Parts, Toks, none, Piece, blank, comment, line_end, token}
use Rattle.ruby_lexer.specs.Words.{one_colon}
use Rattle.ruby_lexer.specs.Numbers.{is_hex}
use Rattle.ruby_lexer.specs.Texts.{escape, escaped_byte, byte_with_rest, unicode_escape, digits_to_brace, encoded, scalar_value}
use Rattle.ruby_lexer.specs.Marks.{colon_forms}
use Rattle.ruby_lexer.specs.Forms.{Cutter, Inside, closed, escaped, nested, byte, opens_code, NoCode, IsQuoted, IsQuotedSymbol, text_of, forms, OneOf, Quoted, Begins, Longest}
use Rattle.ruby_lexer.specs.Cut.{after, braces_of, put, Cuts, done, piece, at_start, in_code, Codes, cutter, TokenPrefix}
use Rattle.ruby_lexer.specs.Scan.{Coder, ◌>>=◌, no_coder, scan_inside, scan_quoted, symbol_end, scan_symbol, scan_special, or_else, scan_form, scan_piece, ends_code, scan_code, coder, all_with, scan_all}
use Rattle.ruby_lexer.proofs.Each.{by_test, Each, taken, nothing, each_then, each_if, each_some, each_also, each_of, each_here}
use Rattle.ruby_lexer.proofs.Order.{Found, pair, Best, one_best, one_is, one_short}
use Rattle.ruby_lexer.proofs.Lists.{false_true, drop_le, begins_some, drop_one, and_left, and_right}
use Rattle.ruby_lexer.proofs.Ordered.{forms_ordered, forms_short}

-- what is there leaves no more than n bytes
abbrev Fewer : {A : Type 0} → ℕ → Option (A × Bytes) → Type 0
Fewer n None = Unit {0}
Fewer n (Some p) = length p.1 ≤ n

fewer_if : {A : Type 0} (n : ℕ) (b : Bool) (x y : Option (A × Bytes)) → Fewer n x → Fewer n y → Fewer n (if b then x else y)
fewer_if n true x y h g = h
fewer_if n false x y h g = g

fewer_at : {A : Type 0} (n : ℕ) (o : Option (A × Bytes)) (f : A) (q : Bytes) → Fewer n o → o ≡ Some (f, q) → length q ≤ n
fewer_at n o f q h e = subst (λ (z : Option _). Fewer n z) e h

encoded_fewer : (n : ℕ) (r : Bytes) (o : Option ℕ) → length r ≤ n → Fewer n (encoded r o)
encoded_fewer n r None h = tt
encoded_fewer n r (Some v) h = fewer_if n (nat_le 55296 v && nat_le v 57343) None _ tt h

byte_fewer : (n : ℕ) (w : Bytes) (o : Option ℕ) → length w ≤ n → Fewer n (byte_with_rest w o)
byte_fewer n w None h = tt
byte_fewer n w (Some b) h = h

brace_fewer : (w : Bytes) → Fewer (length w) (digits_to_brace w)
brace_fewer w =
    fewer_if (length w) (nat_lt 0 (run is_hex w) && begins_with 125 (drop (run is_hex w) w)) _ None (encoded_fewer (length w) (drop 1 (drop (run is_hex w) w)) (scalar_value 0 (take (run is_hex w) w)) (omega (arith, drop_le 1 (drop (run is_hex w) w), drop_le (run is_hex w) w))) tt

fewer_more : {A : Type 0} (n m : ℕ) (o : Option (A × Bytes)) → n ≤ m → Fewer n o → Fewer m o
fewer_more n m None le h = tt
fewer_more n m (Some p) le h = omega arith

unicode_fewer : (w : Bytes) → Fewer (length w) (unicode_escape w)
unfolding unicode_escape
unicode_fewer w =
    fewer_if (length w) (begins_with 123 w) _ _
    (fewer_more (length (drop 1 w)) (length w) (digits_to_brace (drop 1 w)) (drop_le 1 w) (brace_fewer (drop 1 w)))
    (fewer_if (length w) (nat_le 4 (run is_hex w)) _ None (encoded_fewer (length w) (drop 4 w) (scalar_value 0 (take 4 w)) (drop_le 4 w)) tt)

escape_fewer : (w : Bytes) → Fewer (length w) (escape w)
unfolding escape
escape_fewer [] = tt
escape_fewer (b ∷ w) =
    fewer_if _ (nat_eq b 117) _ _ (weaker (unicode_escape w) (unicode_fewer w))
    (fewer_if _ _ _ _ (byte_fewer _ w (escaped_byte b) (omega arith))
    (fewer_if _ (nat_eq b 10) _ _ (omega arith) (omega arith)))
  where
    weaker : (o : Option (Bytes × Bytes)) → Fewer (length w) o → Fewer (suc (length w)) o
    weaker None h = tt
    weaker (Some p) h = omega arith

pub escape_short : (w f q : Bytes) → escape w ≡ Some (f, q) → length q ≤ length w
escape_short w f q e = fewer_at (length w) (escape w) f q (escape_fewer w) e

-- what the code of a literal is, both ways
pub record Coding (C : Cutter) (Q : Coder) : Type 0 where
  pub sound : (w : Bytes) → Each (C w) (Q w)
  pub complete : (w : Bytes) (ts : Toks) (q : Bytes) → C w ts q → Q w ≡ Some (ts, q)
  pub shorter : (w : Bytes) (ts : Toks) (q : Bytes) → C w ts q → length q ≤ length w

no_coding : Coding NoCode no_coder
no_coding = record { sound = λ w. nothing; complete = λ w ts q h. absurd h; shorter = λ w ts q h. absurd h }

module _ (C : Cutter) (Q : Coder) (K : Coding C Q) where
  inside_is : (m : ℕ) (w : Bytes) → Each (Inside C w) (scan_inside Q m w)
  unfolding scan_inside
  inside_is zero w = nothing
  inside_is (suc m) [] = nothing
  inside_is (suc m) (b ∷ w) =
      each_if (nat_eq b 34) _ _ (λ h. taken (closed h))
      (λ h. each_if (nat_eq b 92) _ _
      (λ g. each_then _ (each_here {P = λ f q. escape w ≡ Some (f, q)} (escape w) (λ f q e. e)) (λ f q e. each_then _ (inside_is m q) (λ ps r i. taken (escaped h g e i))))
      (λ g. each_if (opens_code b w) _ _
      (λ o. each_then _ (K.sound (drop 1 w)) (λ ts q k. each_then _ (inside_is m (drop 1 q)) (λ ps r i. taken (nested h g o k i))))
      (λ o. each_then _ (inside_is m w) (λ ps r i. taken (byte h g o i)))))

  inside_only : (m : ℕ) (w : Bytes) (ps : Parts) (r : Bytes) → Inside C w ps r → length w < m → scan_inside Q m w ≡ Some (ps, r)
  unfolding scan_inside ◌>>=◌
  inside_only zero w ps r i room = absurd (omega arith)
  inside_only (suc m) w ps r (closed h) room = rw h
  inside_only (suc m) w ps r (escaped {w = v} {q = q} h g e i) room = rw (h, g, e, inside_only m q _ r i (omega (arith, escape_short v _ q e)))
  inside_only (suc m) w ps r (nested {w = v} {q = q} h g o k i) room = rw (h, g, o, K.complete _ _ _ k, inside_only m _ _ _ i (omega (arith, K.shorter _ _ _ k, drop_le 1 q, drop_le 1 v)))
  inside_only (suc m) w ps r (byte h g o i) room = rw (h, g, o, inside_only m _ _ _ i (omega arith))

  inside_short : (w : Bytes) (ps : Parts) (r : Bytes) → Inside C w ps r → length r < length w
  inside_short w ps r (closed h) = omega arith
  inside_short w ps r (escaped {w = v} {q = q} h g e i) = omega (arith, inside_short q _ r i, escape_short v _ q e)
  inside_short w ps r (nested {w = v} {q = q} h g o k i) = omega (arith, inside_short _ _ _ i, drop_le 1 q, K.shorter _ _ _ k, drop_le 1 v)
  inside_short w ps r (byte h g o i) = omega (arith, inside_short _ _ _ i)

  -- a text in double quotes
  quoted_is : (w : Bytes) → Each (IsQuoted C w) (scan_quoted Q w)
  unfolding scan_quoted
  quoted_is w =
      each_then _ (inside_is (suc (length w)) w)
      (λ ps q i. each_if (one_colon q) _ _ (λ h. taken {t = token (label ps)} {r = drop 1 q} (ps, q, i, inr (h, refl, refl))) (λ h. taken {t = token (literal ps)} {r = q} (ps, q, i, inl (refl, refl))))

  quoted_best : (w : Bytes) (k : Piece) (r : Bytes) → IsQuoted C w k r → Best k r (scan_quoted Q w)
  unfolding scan_quoted ◌>>=◌
  quoted_best w k r (ps, q, i, inl f) =
      by_test (one_colon q)
      (λ h. record { piece = token (label ps); rest = drop 1 q; is = rw (inside_only (suc (length w)) w ps q i (omega arith), h); least = rw f.1 (drop_le 1 q); same = λ le. let le' : length q ≤ length (drop 1 q) = rw f.1 at le in absurd (omega (arith, drop_one q (begins_some (λ c. nat_eq c 58) q (and_left _ _ h)))) })
      (λ h. record { piece = token (literal ps); rest = q; is = rw (inside_only (suc (length w)) w ps q i (omega arith), h); least = rw f.1 (omega arith); same = λ le. rw (f.0, f.1) })
  quoted_best w k r (ps, q, i, inr f) =
      record { piece = token (label ps); rest = drop 1 q; is = rw (inside_only (suc (length w)) w ps q i (omega arith), f.0); least = rw f.2 (omega arith); same = λ le. rw (f.1, f.2) }

  quoted_short : (w : Bytes) (k : Piece) (r : Bytes) → IsQuoted C w k r → length r ≤ length w
  quoted_short w k r (ps, q, i, inl f) = rw f.1 (omega (arith, inside_short w ps q i))
  quoted_short w k r (ps, q, i, inr f) = rw f.2 (omega (arith, inside_short w ps q i, drop_le 1 q))

-- a symbol in double quotes
symbol_is : (w : Bytes) → Each (IsQuotedSymbol w) (scan_symbol w)
unfolding scan_symbol
symbol_is w =
    each_if (begins_with 34 w) _ None
    (λ h. each_then _ (inside_is NoCode no_coder no_coding (suc (length (drop 1 w))) (drop 1 w)) (λ ps q i. ended ps q h i (text_of ps) refl))
    (λ h. nothing)
  where
    ended : (ps : Parts) (q : Bytes) → begins_with 34 w ≡ true → Inside NoCode (drop 1 w) ps q → (o : Option Bytes) → text_of ps ≡ o → Each (IsQuotedSymbol w) (symbol_end q o)
    ended ps q h i None e = nothing
    ended ps q h i (Some f) e = taken {t = token (symbol f)} {r = q} (h, ps, f, i, e, refl)

symbol_best : (w : Bytes) (k : Piece) (r : Bytes) → IsQuotedSymbol w k r → Best k r (scan_symbol w)
unfolding scan_symbol ◌>>=◌
symbol_best w k r (h, ps, f, i, e, is) =
    record { piece = token (symbol f); rest = r; is = rw (h, inside_only NoCode no_coder no_coding (suc (length (drop 1 w))) (drop 1 w) ps r i (omega arith), e); least = omega arith; same = λ le. rw is }

symbol_short : (w : Bytes) (k : Piece) (r : Bytes) → IsQuotedSymbol w k r → suc (length r) < length w
symbol_short w k r (h, ps, f, i, e, is) = omega (arith, inside_short NoCode no_coder no_coding (drop 1 w) ps r i, drop_one w (begins_some (λ c. nat_eq c 34) w h))

or_is : {P G : Piece → Bytes → Type 0} (x y : Found) → Each P x → Each G y → Each (λ k r. P k r ⊎ G k r) (or_else x y)
or_is x y (taken h) g = taken (inl h)
or_is x y nothing g = each_of g (λ k r h. inr h)

or_first : (k : Piece) (r : Bytes) (x y : Found) → Best k r x → Best k r (or_else x y)
or_first k r x y b = record { piece = b.piece; rest = b.rest; is = rw b.is; least = b.least; same = b.same }

or_second : (P : Piece → Bytes → Type 0) (k : Piece) (r : Bytes) (x y : Found) → Each P x → ((j : Piece) (q : Bytes) → P j q → length q < length r) → Best k r y → Best k r (or_else x y)
or_second P k r x y (taken {t = j} {r = q} h) less b = record { piece = j; rest = q; is = refl; least = omega (arith, less j q h); same = λ le. absurd (omega (arith, less j q h)) }
or_second P k r x y nothing less b = b

colon_quote : (w : Bytes) → begins_with 34 w ≡ true → colon_forms w ≡ Some (token mark, w) ∷ []
unfolding colon_forms
colon_quote [] h = false_true h
colon_quote (c ∷ w) h = let is : c ≡ 34 = eqb-true c 34 h in rw is

only_is : (x : Piece × Bytes) (k : Piece) (r : Bytes) → OneOf (Some x ∷ []) k r → r ≡ x.1
only_is x k r (inl e) = let is : x ≡ pair k r = cc in rw is
only_is x k r (inr o) = absurd o

rest_is : (x y : Piece × Bytes) → Some x ≡ Some y → x.1 ≡ y.1
rest_is x y e = let is : x ≡ y = cc in ap (λ (p : Piece × Bytes). p.1) is

module _ (text : Bytes) (C : Cutter) (Q : Coder) (K : Coding C Q) where
  special_is : (c : Class) (w : Bytes) → Each (Quoted C c w) (scan_special Q c w)
  special_is DoubleQuote w = quoted_is C Q K w
  special_is Colon w = symbol_is w
  special_is _ w = nothing

  special_best : (c : Class) (w : Bytes) (k : Piece) (r : Bytes) → Quoted C c w k r → Best k r (scan_special Q c w)
  special_best DoubleQuote w k r h = quoted_best C Q K w k r h
  special_best Colon w k r h = symbol_best w k r h
  special_best _ w k r h = absurd h

  special_short : (c : Class) (w : Bytes) (k : Piece) (r : Bytes) → Quoted C c w k r → length r ≤ length w
  special_short DoubleQuote w k r h = quoted_short C Q K w k r h
  special_short Colon w k r h = omega (arith, symbol_short w k r h)
  special_short _ w k r h = absurd h

  special_less : (s : State) (c : Class) (b : ℕ) (w : Bytes) (j : Piece) (q : Bytes) (k : Piece) (r : Bytes) → Quoted C c w j q → OneOf (forms text s c b w) k r → length q < length r
  special_less s DoubleQuote b w j q k r h o = absurd o
  special_less s Colon b w j q k r h o =
      let all : OneOf (Some (pair (token mark) w) ∷ []) k r = subst (λ (z : List Found). OneOf z k r) (colon_quote w h.0) o in
      let is : r ≡ w = only_is (pair (token mark) w) k r all in
      rw is (omega (arith, symbol_short w j q h))
  special_less s _ b w j q k r h o = absurd h

  form_is : (s : State) (c : Class) (b : ℕ) (w : Bytes) → Each (λ k r. Quoted C c w k r ⊎ OneOf (forms text s c b w) k r) (scan_form text Q s c b w)
  unfolding scan_form
  form_is s c b w = or_is _ _ (special_is c w) (one_is (forms text s c b w))

  form_best : (s : State) (c : Class) (b : ℕ) (w : Bytes) (k : Piece) (r : Bytes) → Quoted C c w k r ⊎ OneOf (forms text s c b w) k r → Best k r (scan_form text Q s c b w)
  unfolding scan_form
  form_best s c b w k r (inl h) = or_first k r _ _ (special_best c w k r h)
  form_best s c b w k r (inr o) = or_second (Quoted C c w) k r _ _ (special_is c w) (λ j q h. special_less s c b w j q k r h o) (one_best (forms text s c b w) k r (forms_ordered text s c b w) o)

  pub begins_is : (s : State) (w : Bytes) → Each (Begins text C s w) (scan_piece text Q s w)
  unfolding scan_piece
  begins_is s [] = nothing
  begins_is s (b ∷ w) = form_is s (class_of b) b w

  begins_best : (s : State) (w : Bytes) (k : Piece) (r : Bytes) → Begins text C s w k r → Best k r (scan_piece text Q s w)
  unfolding scan_piece
  begins_best s [] k r f = absurd f
  begins_best s (b ∷ w) k r f = form_best s (class_of b) b w k r f

  piece_is : (s : State) (w : Bytes) → Each (λ k q. Begins text C s w k q × Longest text C s w q) (scan_piece text Q s w)
  piece_is s w =
      each_also _ (begins_is s w)
      (λ k r e j q f. let best = begins_best s w j q f in let is : best.rest ≡ r = rest_is (pair best.piece best.rest) (pair k r) (sym best.is ∙ e) in rw (← is) best.least)

  piece_only : (s : State) (w : Bytes) (k : Piece) (r : Bytes) → Begins text C s w k r → Longest text C s w r → scan_piece text Q s w ≡ Some (k, r)
  piece_only s w k r f longest =
      let best = begins_best s w k r f in
      let there : Begins text C s w best.piece best.rest = each_some (Begins text C s w) _ best.piece best.rest (begins_is s w) best.is in
      best.is ∙ ap (λ (x : Piece × Bytes). Some x) (sym (best.same (longest best.piece best.rest there)))

  none_begins : (s : State) (w : Bytes) → scan_piece text Q s w ≡ None → (k : Piece) (r : Bytes) → Begins text C s w k r → ⊥
  none_begins s w h k r f = let best = begins_best s w k r f in let e : Some (pair best.piece best.rest) ≡ None = sym best.is ∙ h in cc

  nothing_there : (s : State) (w : Bytes) → ((k : Piece) (r : Bytes) → Begins text C s w k r → ⊥) → scan_piece text Q s w ≡ None
  nothing_there s w h = go (scan_piece text Q s w) (begins_is s w)
    where
      go : (o : Found) → Each (Begins text C s w) o → o ≡ None
      go o (taken f) = absurd (h _ _ f)
      go o nothing = refl

  pub piece_short : (s : State) (w : Bytes) (k : Piece) (r : Bytes) → Begins text C s w k r → length r < length w
  piece_short s [] k r f = absurd f
  piece_short s (b ∷ w) k r (inl h) = omega (arith, special_short (class_of b) w k r h)
  piece_short s (b ∷ w) k r (inr o) = omega (arith, one_short (length w) (forms text s (class_of b) b w) k r (forms_short text s (class_of b) b w) o)

  pub cuts_short : (s : State) (w : Bytes) (ts : Toks) (z : State) (r : Bytes) → Cuts text C s w ts z r → length r ≤ length w
  cuts_short s w ts z r done = omega arith
  cuts_short s w ts z r (piece {q = q} k f l m) = omega (arith, piece_short s w k q f, cuts_short _ q _ z r m)

  -- braces that were closed too often stay so
  braces_zero : (k : Kind) (f : Bytes) → braces_of k f 0 ≡ 0
  braces_zero mark f = refl
  braces_zero _ f = refl

  line_zero : (b : Bool) (s : State) → s.braces ≡ 0 → (let t : State = if b then s else record { before = Plain; joins = false; blank = false; braces = s.braces } in t.braces) ≡ 0
  line_zero true s h = h
  line_zero false s h = h

  after_zero : (s : State) (k : Piece) (f : Bytes) → s.braces ≡ 0 → (after s k f).braces ≡ 0
  after_zero s blank f h = h
  after_zero s comment f h = h
  after_zero s line_end f h = line_zero s.joins s h
  after_zero s (token k) f h = rw h (braces_zero k f)

  cuts_zero : (s : State) (w : Bytes) (ts : Toks) (z : State) (r : Bytes) → Cuts text C s w ts z r → s.braces ≡ 0 → z.braces ≡ 0
  cuts_zero s w ts z r done h = h
  cuts_zero s w ts z r (piece {q = q} k f l m) h = cuts_zero _ q _ z r m (after_zero s k _ h)

  closing : (s : State) (v : Bytes) (k : Piece) (q : Bytes) → s.braces ≡ 1 → Begins text C s (125 ∷ v) k q → (after s k (gone (125 ∷ v) q)).braces ≡ 0
  unfolding class_of
  closing s v k q h (inl g) = absurd g
  closing s v k q h (inr (inl e)) =
      let is : pair (token mark) v ≡ pair k q = cc in
      subst (λ (x : Piece × Bytes). (after s x.0 (gone (125 ∷ v) x.1)).braces ≡ 0) is (let one : length (125 ∷ v) - length v ≡ 1 = omega arith in rw (one, h))
  closing s v k q h (inr (inr o)) = absurd o

  goes_on : (s : State) (w : Bytes) (k : Piece) (q : Bytes) (ts : Toks) (z : State) (r : Bytes) → Begins text C s w k q → Cuts text C (after s k (gone w q)) q ts z r → z.braces ≡ 1 → ends_code s w ≡ false
  goes_on s [] k q ts z r f m h = refl
  goes_on s (b ∷ w) k q ts z r f m h =
      by_test (ends_code s (b ∷ w))
      (λ e.
      let is : b ≡ 125 = eqb-true b 125 (and_left _ _ e) in
      let one : s.braces ≡ 1 = eqb-true s.braces 1 (and_right (nat_eq b 125) (nat_eq s.braces 1) e) in
      let f' : Begins text C s (125 ∷ w) k q = subst (λ (c : ℕ). Begins text C s (c ∷ w) k q) is f in
      let none_left : (after s k (gone (b ∷ w) q)).braces ≡ 0 = rw is (closing s w k q one f') in
      let zero : z.braces ≡ 0 = cuts_zero _ q ts z r m none_left in
      absurd (omega arith))
      (λ e. e)

  -- the code of a literal, one level up
  code_is : (m : ℕ) (s : State) (w : Bytes) → Each (λ ts q. (z : State) × Cuts text C s w ts z q × (z.braces ≡ 1) × (begins_with 125 q ≡ true)) (scan_code text Q m s w)
  unfolding scan_code
  code_is zero s w = nothing
  code_is (suc m) s w =
      each_if (ends_code s w) _ _
      (λ e. taken {t = none} {r = w} (s, done, eqb-true s.braces 1 (and_right (begins_with 125 w) (nat_eq s.braces 1) e), and_left (begins_with 125 w) (nat_eq s.braces 1) e))
      (λ e. each_then _ (piece_is s w) (λ k q f. each_then _ (code_is m (after s k (gone w q)) q) (λ ts r h. taken {t = put text s k w q ts} {r = r} (h.0, piece k f.0 f.1 h.1, h.2, h.3))))

  code_only : (m : ℕ) (s : State) (w : Bytes) (ts : Toks) (z : State) (q : Bytes) → Cuts text C s w ts z q → z.braces ≡ 1 → begins_with 125 q ≡ true → length w < m → scan_code text Q m s w ≡ Some (ts, q)
  unfolding scan_code ◌>>=◌
  code_only zero s w ts z q h one e room = absurd (omega arith)
  code_only (suc m) s w ts z q done one e room = rw (e, one)
  code_only (suc m) s w ts z q (piece {q = p} {ts = us} k f l h) one e room =
      rw (goes_on s w k p us z q f h one, piece_only s w k p f l, code_only m (after s k (gone w p)) p us z q h one e (omega (arith, piece_short s w k p f)))

  -- the whole text
  abbrev CutTo : State → Bytes → Toks × Bytes → Type 0
  CutTo s w a = (z : State) × Cuts text C s w a.0 z a.1 × ((k : Piece) (q : Bytes) → Begins text C z a.1 k q → ⊥)

  all_step : (m : ℕ) (s : State) (w : Bytes) (o : Found) → scan_piece text Q s w ≡ o → Each (λ k q. Begins text C s w k q × Longest text C s w q) o → ((k : Piece) (q : Bytes) → length q < length w → CutTo (after s k (gone w q)) q (scan_all text Q m (after s k (gone w q)) q)) →
      CutTo s w (all_with o (none, w) (λ k q. (put text s k w q (scan_all text Q m (after s k (gone w q)) q).0, (scan_all text Q m (after s k (gone w q)) q).1)))
  all_step m s w o e (taken {t = k} {r = q} f) go = let g = go k q (piece_short s w k q f.0) in (g.0, piece k f.0 f.1 g.1, g.2)
  all_step m s w o e nothing go = (s, done, none_begins s w e)

  pub all_is : (m : ℕ) (s : State) (w : Bytes) → length w < m → CutTo s w (scan_all text Q m s w)
  unfolding scan_all
  all_is zero s w room = absurd (omega arith)
  all_is (suc m) s w room = all_step m s w (scan_piece text Q s w) refl (piece_is s w) (λ k q less. all_is m (after s k (gone w q)) q (omega arith))

  pub all_only : (m : ℕ) (s : State) (w : Bytes) (ts : Toks) (z : State) (r : Bytes) → Cuts text C s w ts z r → ((k : Piece) (q : Bytes) → Begins text C z r k q → ⊥) → length w < m → scan_all text Q m s w ≡ (ts, r)
  unfolding scan_all
  all_only zero s w ts z r h dead room = absurd (omega arith)
  all_only (suc m) s w ts z r done dead room = rw (nothing_there s w dead)
  all_only (suc m) s w ts z r (piece {q = q} {ts = us} k f l h) dead room = rw (piece_only s w k q f l, all_only m (after s k (gone w q)) q us z r h dead (omega (arith, piece_short s w k q f)))

  pub coding_up : Coding (Codes text C) (λ w. scan_code text Q (suc (length w)) in_code w)
  coding_up = record {
    sound = λ w. code_is (suc (length w)) in_code w;
    complete = λ w ts q h. code_only (suc (length w)) in_code w ts h.0 q h.1 h.2 h.3 (omega arith);
    shorter = λ w ts q h. cuts_short in_code w ts h.0 q h.1;
  }

pub coding : (text : Bytes) (n : ℕ) → Coding (cutter text n) (coder text n)
unfolding cutter coder
coding text zero = record { sound = λ w. nothing; complete = λ w ts q h. absurd h; shorter = λ w ts q h. absurd h }
coding text (suc n) = coding_up text (cutter text n) (coder text n) (coding text n)

-- a front that is cut up to where nothing begins: there is one, and no other
pub front_is : (text : Bytes) (n : ℕ) → TokenPrefix text (cutter text n)
front_is text n =
    let all = scan_all text (coder text n) (suc (length text)) at_start text in
    let cut = all_is text (cutter text n) (coder text n) (coding text n) (suc (length text)) at_start text (omega arith) in
    record { tokens = all.0; state = cut.0; rest = all.1; cuts = cut.1; nothing = cut.2 }

pub front_only : (text : Bytes) (n : ℕ) (f : TokenPrefix text (cutter text n)) → scan_all text (coder text n) (suc (length text)) at_start text ≡ (f.tokens, f.rest)
front_only text n f = all_only text (cutter text n) (coder text n) (coding text n) (suc (length text)) at_start text f.tokens f.state f.rest f.cuts f.nothing (omega arith)
