-- The line of each token of a text is that of its place, within literals too.
use Rattle.std.proofs.Common.{◌≡◌, ℕ, zero, suc, [], ◌∷◌, drop, Bool, true, false, inl, inr, sym, ap, subst, if◌then◌else◌}
use Rattle.ruby_lexer.specs.declared.class.Class.{Class}
use Rattle.ruby_lexer.specs.declared.class.Class.TheVariants.{DoubleQuote, Colon}
use Rattle.ruby_lexer.specs.declared.state.State.{State}
use Rattle.ruby_lexer.specs.Bytes.{Bytes, taken}
use Rattle.ruby_lexer.specs.Classes.{class_of}
use Rattle.ruby_lexer.specs.Pieces.{newline, Parts, ends, plain, code, Tok, tok, Toks, none, more, Piece, blank, comment, line_end, token}
use Rattle.ruby_lexer.specs.Forms.{place, line_of, Cutter, add_byte, add_bytes, Inside, closed, escaped, nested, byte, NoCode, IsQuoted, IsQuotedSymbol, forms, Quoted, Begins}
use Rattle.ruby_lexer.specs.Cut.{after, closes, with_blank, has_blank, put_line, put, Cuts, done, piece, at_start, in_code, cutter}
use Rattle.ruby_lexer.specs.Tokens.{before_end, AreTokens}
use Rattle.reference_laws.proofs.Sited.{LinedAll, LinedParts, Lined}
use Rattle.reference_laws.proofs.Tails.{Tail, here, behind, tail_on, tail_drop, tail_at, escape_tail, LinedPiece, one_fit, forms_fit}

-- the line of a place of a text
abbrev pub line_at : Bytes → ℕ → ℕ
line_at text p = line_of text (drop p text)

module _ (text : Bytes) where
  abbrev L : ℕ → ℕ
  L = line_at text

  place_line : (w : Bytes) → Tail text w → line_of text w ≡ L (place text w)
  place_line w t = ap (λ (v : Bytes). line_of text v) (sym (tail_at t))

  byte_lined : (b : ℕ) (ps : Parts) → LinedParts L ps → LinedParts L (add_byte b ps)
  byte_lined b ends h = h
  byte_lined b (plain f ps) h = h
  byte_lined b (code ts ps) h = h

  bytes_lined : (f : Bytes) (ps : Parts) → LinedParts L ps → LinedParts L (add_bytes f ps)
  bytes_lined [] ps h = h
  bytes_lined (b ∷ f) ps h = byte_lined b (add_bytes f ps) (bytes_lined f ps h)

  blank_lined : (b : Bool) (ts : Toks) → LinedAll L ts → LinedAll L (with_blank b ts)
  blank_lined b none h = h
  blank_lined b (more (tok k from to line c) ts) h = h

  -- what cuts code leaves an end of the text, and tokens in their lines
  abbrev Fitting : Cutter → Type 0
  Fitting C = (w : Bytes) (ts : Toks) (q : Bytes) → Tail text w → C w ts q → Tail w q × LinedAll L ts

  no_code : Fitting NoCode
  no_code w ts q t h = absurd h

  module _ (C : Cutter) (K : Fitting C) where
    inside_fit : (w : Bytes) (ps : Parts) (r : Bytes) → Tail text w → Inside C w ps r → Tail w r × LinedParts L ps
    inside_fit w ps r t (closed h) = (behind here, tt)
    inside_fit w ps r t (escaped {f = f} {w = v} {q = q} {ps = qs} h g e i) =
        let x = escape_tail v f q e in
        let n = inside_fit q qs r (tail_on t (behind x)) i in
        (behind (tail_on x n.0), bytes_lined f qs n.1)
    inside_fit w ps r t (nested {w = v} {q = q} {ts = ts} {ps = qs} h g o k i) =
        let x = K (drop 1 v) ts q (tail_on t (behind (tail_drop 1 v))) k in
        let y : Tail v (drop 1 q) = tail_on (tail_drop 1 v) (tail_on x.0 (tail_drop 1 q)) in
        let n = inside_fit (drop 1 q) qs r (tail_on t (behind y)) i in
        (behind (tail_on y n.0), (x.1, n.1))
    inside_fit w ps r t (byte {b = b} {w = v} {ps = qs} h g o i) = let n = inside_fit v qs r (tail_on t (behind here)) i in (behind n.0, byte_lined b qs n.1)

    pub quoted_fit : (w : Bytes) (k : Piece) (r : Bytes) → Tail text w → IsQuoted C w k r → Tail w r × LinedPiece L k
    quoted_fit w k r t (ps, q, i, inl f) =
        let n = inside_fit w ps q t i in (subst (Tail w) (sym f.1) n.0, subst (LinedPiece L) (sym f.0) n.1)
    quoted_fit w k r t (ps, q, i, inr f) =
        let n = inside_fit w ps q t i in (subst (Tail w) (sym f.2) (tail_on n.0 (tail_drop 1 q)), subst (LinedPiece L) (sym f.1) tt)

  symbol_fit : (w : Bytes) (k : Piece) (r : Bytes) → Tail text w → IsQuotedSymbol w k r → Tail w r × LinedPiece L k
  symbol_fit w k r t (h, ps, f, i, e, is) =
      let n = inside_fit NoCode no_code (drop 1 w) ps r (tail_on t (tail_drop 1 w)) i in (tail_on (tail_drop 1 w) n.0, subst (LinedPiece L) (sym is) tt)

  put_line_lined : (b : Bool) (x : Tok) (ts : Toks) → LinedAll L (more x ts) → LinedAll L (if b then with_blank (has_blank x) ts else more x ts)
  put_line_lined true x ts h = blank_lined (has_blank x) ts h.1
  put_line_lined false x ts h = h

  joined_lined : (b : Bool) (x : Tok) (ts : Toks) → LinedAll L (more x ts) → LinedAll L (if b then ts else put_line text x ts)
  joined_lined true x ts h = h.1
  joined_lined false x ts h = put_line_lined (closes text ts) x ts h

  put_lined : (s : State) (k : Piece) (w q : Bytes) (ts : Toks) → Tail text w → LinedPiece L k → LinedAll L ts → LinedAll L (put text s k w q ts)
  put_lined s blank w q ts t h e = e
  put_lined s comment w q ts t h e = e
  put_lined s line_end w q ts t h e = joined_lined s.joins (tok newline (place text w) (place text q) (line_of text w) s.blank) ts ((place_line w t, tt), e)
  put_lined s (token k) w q ts t h e = ((place_line w t, h), e)

  module _ (C : Cutter) (K : Fitting C) where
    special_fit : (c : Class) (w : Bytes) (k : Piece) (r : Bytes) → Tail text w → Quoted C c w k r → Tail w r × LinedPiece L k
    special_fit DoubleQuote w k r t h = quoted_fit C K w k r t h
    special_fit Colon w k r t h = symbol_fit w k r t h
    special_fit _ w k r t h = absurd h

    begins_fit : (s : State) (w : Bytes) (k : Piece) (r : Bytes) → Tail text w → Begins text C s w k r → Tail w r × LinedPiece L k
    begins_fit s [] k r t f = absurd f
    begins_fit s (b ∷ w) k r t (inl h) = let n = special_fit (class_of b) w k r (tail_on t (behind here)) h in (behind n.0, n.1)
    begins_fit s (b ∷ w) k r t (inr o) = one_fit L (b ∷ w) (forms text s (class_of b) b w) k r (forms_fit L text s (class_of b) b w) o

    pub cuts_fit : (s : State) (w : Bytes) (ts : Toks) (z : State) (r : Bytes) → Tail text w → Cuts text C s w ts z r → Tail w r × LinedAll L ts
    cuts_fit s w ts z r t done = (here, tt)
    cuts_fit s w ts z r t (piece {q = q} {ts = us} k f l m) =
        let x = begins_fit s w k q t f in
        let n = cuts_fit (after s k (taken w q)) q us z r (tail_on t x.0) m in
        (tail_on x.0 n.0, put_lined s k w q us t x.1 n.1)

  pub cutter_fit : (n : ℕ) → Fitting (cutter text n)
  unfolding cutter
  cutter_fit zero = λ w ts q t h. absurd h
  cutter_fit (suc n) = λ w ts q t h. cuts_fit (cutter text n) (cutter_fit n) in_code w ts h.0 q t h.1

pub tokens_lined : (bytes : Bytes) (ts : Toks) → AreTokens bytes ts → Lined (line_at (before_end bytes)) ts
tokens_lined bytes ts a =
    let text = before_end bytes in
    record { holds = (cuts_fit text (cutter text 200) (cutter_fit text 200) at_start text ts a.state [] here a.cuts).1 }
