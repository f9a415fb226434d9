-- The turns of the loops.
use Rattle.std.proofs.Common.{◌≡◌, ℕ, zero, suc, ◌-◌, ◌≤◌, ◌<◌, List, [], ◌∷◌, ◌++◌, length, drop, get_or, Bool, true, false, refl, sym, ap, ◌∙◌, arith, if◌then◌else◌, Option, Some, None, nat_eq, length-drop}
use Rattle.ruby_lexer.specs.declared.token.Part.{Part}
use Rattle.ruby_lexer.specs.declared.gather.PendingToken.{PendingToken}
use Rattle.ruby_lexer.specs.declared.state.State.{State}
use Rattle.ruby_lexer.specs.Bytes.{Bytes, begins_with, same, taken as gone}
use Rattle.std.specs.Prelude.{codes}
use Rattle.ruby_lexer.specs.declared.state.WordContext.TheVariants.{Plain}
use Rattle.ruby_lexer.specs.Pieces.{Kind, mark, Parts, ends, plain, code, Toks, none, Piece, blank, comment, line_end, token, seen_part, seen_parts}
use Rattle.ruby_lexer.specs.Texts.{escape, plain_parts}
use Rattle.ruby_lexer.specs.Forms.{add_byte, add_bytes, opens_code, Begins}
use Rattle.ruby_lexer.specs.Cut.{after, braces_of, put, in_code, at_start, cutter}
use Rattle.ruby_lexer.specs.Scan.{Coder, ◌>>=◌, scan_inside, scan_piece, ends_code, scan_code, coder, scan_all}
use Rattle.ruby_lexer.specs.Settle.{settle, parts_then}
use Rattle.ruby_lexer.proofs.Each.{each_some}
use Rattle.ruby_lexer.proofs.Whole.{coding, escape_short, piece_short, begins_is}

abbrev pub with_first : {A : Type 0} → (A → A) → Option (A × Bytes) → Option (A × Bytes)
with_first g None = None
with_first g (Some p) = Some (g p.0, p.1)

with_first_twice : {A : Type 0} (g h : A → A) (o : Option (A × Bytes)) → with_first g (with_first h o) ≡ with_first (λ x. g (h x)) o
with_first_twice g h None = refl
with_first_twice g h (Some p) = refl

with_first_same : {A : Type 0} (g h : A → A) (o : Option (A × Bytes)) → ((x : A) → g x ≡ h x) → with_first g o ≡ with_first h o
with_first_same g h None e = refl
with_first_same g h (Some p) e = rw (e p.0)

-- one step in double quotes
inside_ends : (Q : Coder) (m : ℕ) (w : Bytes) → 0 < length w → length w < m → nat_eq (get_or w 0 0) 34 ≡ true → scan_inside Q m w ≡ Some (ends, drop 1 w)
unfolding scan_inside
inside_ends Q zero w some room h = absurd (omega arith)
inside_ends Q (suc m) [] some room h = absurd (omega arith)
inside_ends Q (suc m) (b ∷ w) some room h = rw h

inside_empty : (Q : Coder) (m : ℕ) (w : Bytes) → length w ≡ 0 → scan_inside Q m w ≡ None
unfolding scan_inside
inside_empty Q zero w some = refl
inside_empty Q (suc m) [] some = refl
inside_empty Q (suc m) (b ∷ w) some = absurd (omega arith)

inside_stuck : (Q : Coder) (m : ℕ) (w : Bytes) → 0 < length w → nat_eq (get_or w 0 0) 34 ≡ false → nat_eq (get_or w 0 0) 92 ≡ true → escape (drop 1 w) ≡ None → scan_inside Q m w ≡ None
unfolding scan_inside ◌>>=◌
inside_stuck Q zero w some h g e = refl
inside_stuck Q (suc m) [] some h g e = absurd (omega arith)
inside_stuck Q (suc m) (b ∷ w) some h g e = rw (h, g, e)

then_first : {A : Type 0} (g : A → A) (o : Option (A × Bytes)) → (o >>= λ p. Some (g p.0, p.1)) ≡ with_first g o
unfolding ◌>>=◌
then_first g None = refl
then_first g (Some p) = refl

inside_escaped : (Q : Coder) (m : ℕ) (w f q : Bytes) → 0 < length w → length w < m → nat_eq (get_or w 0 0) 34 ≡ false → nat_eq (get_or w 0 0) 92 ≡ true → escape (drop 1 w) ≡ Some (f, q) → scan_inside Q m w ≡ with_first (add_bytes f) (scan_inside Q (m - 1) q)
unfolding scan_inside ◌>>=◌
inside_escaped Q zero w f q some room h g e = absurd (omega arith)
inside_escaped Q (suc m) [] f q some room h g e = absurd (omega arith)
inside_escaped Q (suc m) (b ∷ w) f q some room h g e = let k : suc m - 1 ≡ m = omega arith in rw (h, g, e, k) (then_first (add_bytes f) (scan_inside Q m q))

inside_uncoded : (Q : Coder) (m : ℕ) (w : Bytes) → 0 < length w → nat_eq (get_or w 0 0) 34 ≡ false → nat_eq (get_or w 0 0) 92 ≡ false → opens_code (get_or w 0 0) (drop 1 w) ≡ true → Q (drop 2 w) ≡ None → scan_inside Q m w ≡ None
unfolding scan_inside ◌>>=◌
inside_uncoded Q zero w some h g o e = refl
inside_uncoded Q (suc m) [] some h g o e = absurd (omega arith)
inside_uncoded Q (suc m) (b ∷ w) some h g o e = rw (h, g, o, e)

inside_coded : (Q : Coder) (m : ℕ) (w : Bytes) (ts : Toks) (q : Bytes) → 0 < length w → length w < m → nat_eq (get_or w 0 0) 34 ≡ false → nat_eq (get_or w 0 0) 92 ≡ false → opens_code (get_or w 0 0) (drop 1 w) ≡ true → Q (drop 2 w) ≡ Some (ts, q) → scan_inside Q m w ≡ with_first (code ts) (scan_inside Q (m - 1) (drop 1 q))
unfolding scan_inside ◌>>=◌
inside_coded Q zero w ts q some room h g o e = absurd (omega arith)
inside_coded Q (suc m) [] ts q some room h g o e = absurd (omega arith)
inside_coded Q (suc m) (b ∷ w) ts q some room h g o e = let k : suc m - 1 ≡ m = omega arith in rw (h, g, o, e, k) (then_first (code ts) (scan_inside Q m (drop 1 q)))

inside_byte : (Q : Coder) (m : ℕ) (w : Bytes) → 0 < length w → length w < m → nat_eq (get_or w 0 0) 34 ≡ false → nat_eq (get_or w 0 0) 92 ≡ false → opens_code (get_or w 0 0) (drop 1 w) ≡ false → scan_inside Q m w ≡ with_first (add_byte (get_or w 0 0)) (scan_inside Q (m - 1) (drop 1 w))
unfolding scan_inside ◌>>=◌
inside_byte Q zero w some room h g o = absurd (omega arith)
inside_byte Q (suc m) [] some room h g o = absurd (omega arith)
inside_byte Q (suc m) (b ∷ w) some room h g o = let k : suc m - 1 ≡ m = omega arith in rw (h, g, o, k) (then_first (add_byte b) (scan_inside Q m w))

add_append : (f g : Bytes) (qs : Parts) → add_bytes (f ++ g) qs ≡ add_bytes f (add_bytes g qs)
add_append [] g qs = refl
add_append (b ∷ f) g qs = ap (add_byte b) (add_append f g qs)

add_ends : (f : Bytes) → add_bytes f ends ≡ plain_parts f ends
add_ends [] = refl
add_ends (b ∷ []) = refl
add_ends (b ∷ c ∷ f) = ap (add_byte b) (add_ends (c ∷ f))

add_code : (f : Bytes) (ts : Toks) (ps : Parts) → add_bytes f (code ts ps) ≡ plain_parts f (code ts ps)
add_code [] ts ps = refl
add_code (b ∷ []) ts ps = refl
add_code (b ∷ c ∷ f) ts ps = ap (add_byte b) (add_code (c ∷ f) ts ps)

pub parts_push : (ps : List Part) (p : Part) (qs : Parts) → parts_then (ps ++ p ∷ []) qs ≡ parts_then ps (seen_part p qs)
parts_push [] p qs = refl
parts_push (x ∷ ps) p qs = ap (seen_part x) (parts_push ps p qs)

parts_all : (ps : List Part) → parts_then ps ends ≡ seen_parts ps
parts_all [] = refl
parts_all (x ∷ ps) = ap (seen_part x) (parts_all ps)

-- what was read so far in double quotes, before what is left
pub record InsideTurn (Q : Coder) (whole w : Bytes) (ps : List Part) (f : Bytes) : Type 0 where
  pub turns : ℕ
  pub room : length w < turns
  pub is : scan_inside Q (suc (length whole)) whole ≡ with_first (λ qs. parts_then ps (add_bytes f qs)) (scan_inside Q turns w)

pub turn_start : (Q : Coder) (w : Bytes) → InsideTurn Q w w [] []
turn_start Q w = record { turns = suc (length w); room = omega arith; is = plainly (scan_inside Q (suc (length w)) w) }
  where
    plainly : (o : Option (Parts × Bytes)) → o ≡ with_first (λ qs. parts_then [] (add_bytes [] qs)) o
    plainly None = refl
    plainly (Some p) = refl

pub turn_byte : (Q : Coder) (whole w : Bytes) (ps : List Part) (f : Bytes) → InsideTurn Q whole w ps f → 0 < length w → nat_eq (get_or w 0 0) 34 ≡ false → nat_eq (get_or w 0 0) 92 ≡ false → opens_code (get_or w 0 0) (drop 1 w) ≡ false → InsideTurn Q whole (drop 1 w) ps (f ++ get_or w 0 0 ∷ [])
turn_byte Q whole w ps f t some h g o =
    record {
      turns = t.turns - 1;
      room = omega (arith, length-drop 1 w, t.room);
      is = t.is ∙ ap (with_first (λ qs. parts_then ps (add_bytes f qs))) (inside_byte Q t.turns w some t.room h g o) ∙ with_first_twice _ _ (scan_inside Q (t.turns - 1) (drop 1 w)) ∙ with_first_same _ _ (scan_inside Q (t.turns - 1) (drop 1 w)) (λ qs. ap (parts_then ps) (sym (add_append f (get_or w 0 0 ∷ []) qs)));
    }

pub turn_escaped : (Q : Coder) (whole w : Bytes) (ps : List Part) (f g q : Bytes) → InsideTurn Q whole w ps f → 0 < length w → nat_eq (get_or w 0 0) 34 ≡ false → nat_eq (get_or w 0 0) 92 ≡ true → escape (drop 1 w) ≡ Some (g, q) → InsideTurn Q whole q ps (f ++ g)
turn_escaped Q whole w ps f g q t some h k e =
    record {
      turns = t.turns - 1;
      room = omega (arith, length-drop 1 w, t.room, escape_short (drop 1 w) g q e);
      is = t.is ∙ ap (with_first (λ qs. parts_then ps (add_bytes f qs))) (inside_escaped Q t.turns w g q some t.room h k e) ∙ with_first_twice _ _ (scan_inside Q (t.turns - 1) q) ∙ with_first_same _ _ (scan_inside Q (t.turns - 1) q) (λ qs. ap (parts_then ps) (sym (add_append f g qs)));
    }

pub turn_coded : (Q : Coder) (whole w : Bytes) (ps : List Part) (f : Bytes) (ts : Toks) (q : Bytes) (new : List Part) → InsideTurn Q whole w ps f → 0 < length w → nat_eq (get_or w 0 0) 34 ≡ false → nat_eq (get_or w 0 0) 92 ≡ false → opens_code (get_or w 0 0) (drop 1 w) ≡ true → Q (drop 2 w) ≡ Some (ts, q) → length q ≤ length (drop 2 w) → ((qs : Parts) → parts_then new qs ≡ parts_then ps (plain_parts f (code ts qs))) → InsideTurn Q whole (drop 1 q) new []
turn_coded Q whole w ps f ts q new t some h k o e short is =
    record {
      turns = t.turns - 1;
      room = omega (arith, length-drop 2 w, length-drop 1 q, t.room);
      is = t.is ∙ ap (with_first (λ qs. parts_then ps (add_bytes f qs))) (inside_coded Q t.turns w ts q some t.room h k o e) ∙ with_first_twice _ _ (scan_inside Q (t.turns - 1) (drop 1 q)) ∙ with_first_same _ _ (scan_inside Q (t.turns - 1) (drop 1 q)) (λ qs. ap (parts_then ps) (add_code f ts qs) ∙ sym (is qs));
    }

pub turn_ends : (Q : Coder) (whole w : Bytes) (ps : List Part) (f : Bytes) (new : List Part) → InsideTurn Q whole w ps f → 0 < length w → nat_eq (get_or w 0 0) 34 ≡ true → ((qs : Parts) → parts_then new qs ≡ parts_then ps (plain_parts f qs)) → scan_inside Q (suc (length whole)) whole ≡ Some (seen_parts new, drop 1 w)
turn_ends Q whole w ps f new t some h is =
    t.is ∙ ap (with_first (λ qs. parts_then ps (add_bytes f qs))) (inside_ends Q t.turns w some t.room h) ∙ ap (λ (x : Parts). Some (x, drop 1 w)) (ap (parts_then ps) (add_ends f) ∙ sym (is ends) ∙ parts_all new)

pub turn_empty : (Q : Coder) (whole w : Bytes) (ps : List Part) (f : Bytes) → InsideTurn Q whole w ps f → length w ≡ 0 → scan_inside Q (suc (length whole)) whole ≡ None
turn_empty Q whole w ps f t e = t.is ∙ ap (with_first (λ qs. parts_then ps (add_bytes f qs))) (inside_empty Q t.turns w e)

pub turn_stuck : (Q : Coder) (whole w : Bytes) (ps : List Part) (f : Bytes) → InsideTurn Q whole w ps f → 0 < length w → nat_eq (get_or w 0 0) 34 ≡ false → nat_eq (get_or w 0 0) 92 ≡ true → escape (drop 1 w) ≡ None → scan_inside Q (suc (length whole)) whole ≡ None
turn_stuck Q whole w ps f t some h g e = t.is ∙ ap (with_first (λ qs. parts_then ps (add_bytes f qs))) (inside_stuck Q t.turns w some h g e)

pub turn_uncoded : (Q : Coder) (whole w : Bytes) (ps : List Part) (f : Bytes) → InsideTurn Q whole w ps f → 0 < length w → nat_eq (get_or w 0 0) 34 ≡ false → nat_eq (get_or w 0 0) 92 ≡ false → opens_code (get_or w 0 0) (drop 1 w) ≡ true → Q (drop 2 w) ≡ None → scan_inside Q (suc (length whole)) whole ≡ None
turn_uncoded Q whole w ps f t some h g o e = t.is ∙ ap (with_first (λ qs. parts_then ps (add_bytes f qs))) (inside_uncoded Q t.turns w some h g o e)

-- what the code of a literal leaves
pub coder_left : (text : Bytes) (n : ℕ) (w : Bytes) (ts : Toks) (q : Bytes) → coder text n w ≡ Some (ts, q) → (length q ≤ length w) × (begins_with 125 q ≡ true)
unfolding coder cutter
coder_left text zero w ts q e = let h : (let o : Option (Toks × Bytes) = None in o) ≡ Some (ts, q) = e in cc
coder_left text (suc n) w ts q e =
    let cut = each_some (cutter text (suc n) w) (coder text (suc n) w) ts q ((coding text (suc n)).sound w) e in
    ((coding text (suc n)).shorter w ts q cut, cut.3)

pub piece_left : (text : Bytes) (n : ℕ) (s : State) (w : Bytes) (k : Piece) (q : Bytes) → scan_piece text (coder text n) s w ≡ Some (k, q) → length q < length w
piece_left text n s w k q e =
    piece_short text (cutter text n) (coder text n) (coding text n) s w k q (each_some (Begins text (cutter text n) s w) (scan_piece text (coder text n) s w) k q (begins_is text (cutter text n) (coder text n) (coding text n) s w) e)

-- what was read so far of the code of a literal, before what is left
pub record CodeTurn (text : Bytes) (Q : Coder) (whole w : Bytes) (raws : List PendingToken) (s : State) : Type 0 where
  pub turns : ℕ
  pub room : length w < turns
  pub is : scan_code text Q (suc (length whole)) in_code whole ≡ with_first (settle text raws) (scan_code text Q turns s w)

pub code_start : (text : Bytes) (Q : Coder) (w : Bytes) → CodeTurn text Q w w [] in_code
code_start text Q w = record { turns = suc (length w); room = omega arith; is = plainly (scan_code text Q (suc (length w)) in_code w) }
  where
    plainly : (o : Option (Toks × Bytes)) → o ≡ with_first (settle text []) o
    plainly None = refl
    plainly (Some p) = refl

code_step : (text : Bytes) (Q : Coder) (m : ℕ) (s : State) (w : Bytes) (k : Piece) (q : Bytes) → length w < m → ends_code s w ≡ false → scan_piece text Q s w ≡ Some (k, q) → scan_code text Q m s w ≡ with_first (put text s k w q) (scan_code text Q (m - 1) (after s k (gone w q)) q)
unfolding scan_code ◌>>=◌
code_step text Q zero s w k q room h e = absurd (omega arith)
code_step text Q (suc m) s w k q room h e = let j : suc m - 1 ≡ m = omega arith in rw (h, e, j) (then_first (put text s k w q) (scan_code text Q m (after s k (gone w q)) q))

code_ends : (text : Bytes) (Q : Coder) (m : ℕ) (s : State) (w : Bytes) → length w < m → ends_code s w ≡ true → scan_code text Q m s w ≡ Some (none, w)
unfolding scan_code
code_ends text Q zero s w room h = absurd (omega arith)
code_ends text Q (suc m) s w room h = rw h

code_stops : (text : Bytes) (Q : Coder) (m : ℕ) (s : State) (w : Bytes) → ends_code s w ≡ false → scan_piece text Q s w ≡ None → scan_code text Q m s w ≡ None
unfolding scan_code ◌>>=◌
code_stops text Q zero s w h e = refl
code_stops text Q (suc m) s w h e = rw (h, e)

pub code_turn : (text : Bytes) (Q : Coder) (whole w : Bytes) (raws new : List PendingToken) (s : State) (k : Piece) (q : Bytes) → CodeTurn text Q whole w raws s → ends_code s w ≡ false → scan_piece text Q s w ≡ Some (k, q) → length q < length w → ((ts : Toks) → settle text new ts ≡ settle text raws (put text s k w q ts)) → CodeTurn text Q whole q new (after s k (gone w q))
code_turn text Q whole w raws new s k q t h e less is =
    record {
      turns = t.turns - 1;
      room = omega (arith, t.room);
      is = t.is ∙ ap (with_first (settle text raws)) (code_step text Q t.turns s w k q t.room h e) ∙ with_first_twice _ _ (scan_code text Q (t.turns - 1) (after s k (gone w q)) q) ∙ with_first_same _ _ (scan_code text Q (t.turns - 1) (after s k (gone w q)) q) (λ ts. sym (is ts));
    }

pub code_done : (text : Bytes) (Q : Coder) (whole w : Bytes) (raws : List PendingToken) (s : State) → CodeTurn text Q whole w raws s → ends_code s w ≡ true → scan_code text Q (suc (length whole)) in_code whole ≡ Some (settle text raws none, w)
code_done text Q whole w raws s t h = t.is ∙ ap (with_first (settle text raws)) (code_ends text Q t.turns s w t.room h)

pub code_fails : (text : Bytes) (Q : Coder) (whole w : Bytes) (raws : List PendingToken) (s : State) → CodeTurn text Q whole w raws s → ends_code s w ≡ false → scan_piece text Q s w ≡ None → scan_code text Q (suc (length whole)) in_code whole ≡ None
code_fails text Q whole w raws s t h e = t.is ∙ ap (with_first (settle text raws)) (code_stops text Q t.turns s w h e)

pub at_coder : (text : Bytes) (n : ℕ) (w : Bytes) → 0 < n → coder text n w ≡ scan_code text (coder text (n - 1)) (suc (length w)) in_code w
unfolding coder
at_coder text zero w h = absurd (omega arith)
at_coder text (suc n) w h = let j : suc n - 1 ≡ n = omega arith in rw j

pub at_no_coder : (text w : Bytes) (n : ℕ) → n ≡ 0 → coder text n w ≡ None
unfolding coder
at_no_coder text w zero h = refl
at_no_coder text w (suc n) h = absurd (omega arith)

-- the whole text
abbrev pub with_all : (Toks → Toks) → Toks × Bytes → Toks × Bytes
with_all g p = (g p.0, p.1)

pub record AllTurn (text : Bytes) (Q : Coder) (w : Bytes) (raws : List PendingToken) (s : State) : Type 0 where
  pub turns : ℕ
  pub room : length w < turns
  pub is : scan_all text Q (suc (length text)) at_start text ≡ with_all (settle text raws) (scan_all text Q turns s w)

pub all_start : (text : Bytes) (Q : Coder) → AllTurn text Q text [] at_start
all_start text Q = record { turns = suc (length text); room = omega arith; is = refl }

all_step : (text : Bytes) (Q : Coder) (m : ℕ) (s : State) (w : Bytes) (k : Piece) (q : Bytes) → length w < m → scan_piece text Q s w ≡ Some (k, q) → scan_all text Q m s w ≡ with_all (put text s k w q) (scan_all text Q (m - 1) (after s k (gone w q)) q)
unfolding scan_all
all_step text Q zero s w k q room e = absurd (omega arith)
all_step text Q (suc m) s w k q room e = let j : suc m - 1 ≡ m = omega arith in rw (e, j)

all_stops : (text : Bytes) (Q : Coder) (m : ℕ) (s : State) (w : Bytes) → scan_piece text Q s w ≡ None → scan_all text Q m s w ≡ (none, w)
unfolding scan_all
all_stops text Q zero s w e = refl
all_stops text Q (suc m) s w e = rw e

pub all_turn : (text : Bytes) (Q : Coder) (w : Bytes) (raws new : List PendingToken) (s : State) (k : Piece) (q : Bytes) → AllTurn text Q w raws s → scan_piece text Q s w ≡ Some (k, q) → length q < length w → ((ts : Toks) → settle text new ts ≡ settle text raws (put text s k w q ts)) → AllTurn text Q q new (after s k (gone w q))
all_turn text Q w raws new s k q t e less is =
    record {
      turns = t.turns - 1;
      room = omega (arith, t.room);
      is = t.is ∙ ap (with_all (settle text raws)) (all_step text Q t.turns s w k q t.room e) ∙ ap (λ (ts : Toks). pair_toks ts (scan_all text Q (t.turns - 1) (after s k (gone w q)) q).1) (sym (is (scan_all text Q (t.turns - 1) (after s k (gone w q)) q).0));
    }
  where
    pair_toks : Toks → Bytes → Toks × Bytes
    pair_toks ts r = (ts, r)

pub all_done : (text : Bytes) (Q : Coder) (w : Bytes) (raws : List PendingToken) (s : State) → AllTurn text Q w raws s → scan_piece text Q s w ≡ None → scan_all text Q (suc (length text)) at_start text ≡ (settle text raws none, w)
all_done text Q w raws s t e = t.is ∙ ap (with_all (settle text raws)) (all_stops text Q t.turns s w e)

-- how far the braces grow
pub braces_le : (s : State) (k : Piece) (f : Bytes) → (after s k f).braces ≤ suc s.braces
braces_le s blank f = omega arith
braces_le s comment f = omega arith
braces_le s line_end f = line_le s.joins s
  where
    line_le : (b : Bool) (s : State) → (let t : State = if b then s else record { before = Plain; joins = false; blank = false; braces = s.braces } in t.braces) ≤ suc s.braces
    line_le true s = omega arith
    line_le false s = omega arith
braces_le s (token k) f = kind_le k f s.braces
  where
    mark_le : (a b : Bool) (n : ℕ) → (if a then suc (suc n) else if b then n else suc n) ≤ suc (suc n)
    mark_le true b n = omega arith
    mark_le false true n = omega arith
    mark_le false false n = omega arith

    kind_le : (k : Kind) (f : Bytes) (n : ℕ) → braces_of k f n ≤ suc n
    kind_le mark f zero = omega arith
    kind_le mark f (suc n) = mark_le (same f (codes "{")) (same f (codes "}")) n
    kind_le _ f n = omega arith

pub plain_some : (f : Bytes) (qs : Parts) → 0 < length f → plain_parts f qs ≡ plain f qs
plain_some [] qs h = absurd (omega arith)
plain_some (b ∷ f) qs h = refl

pub some_bytes : (f : Bytes) → nat_eq (length f) 0 ≡ false → 0 < length f
some_bytes [] h = let e : true ≡ false = h in cc
some_bytes (b ∷ f) h = omega arith
