-- The tokens of a text, within literals too, begin at places that rise.
use Rattle.std.proofs.Common.{◌≡◌, ℕ, zero, suc, ◌≤◌, ◌<◌, [], ◌∷◌, length, drop, Bool, true, false, inl, inr, sym, arith, subst, if◌then◌else◌}
use Rattle.std.specs.Prelude.{⊤}
use Rattle.ruby_lexer.specs.declared.class.Class.{Class}
use Rattle.ruby_lexer.specs.declared.class.Class.TheVariants.{DoubleQuote, Colon}
use Rattle.ruby_lexer.specs.declared.state.State.{State}
use Rattle.ruby_lexer.specs.Bytes.{Bytes, taken}
use Rattle.ruby_lexer.specs.Classes.{class_of}
use Rattle.ruby_lexer.specs.Pieces.{Kind, newline, Parts, ends, plain, code, Tok, tok, Toks, none, more, Piece, blank, comment, line_end, token}
use Rattle.ruby_lexer.specs.Pieces as kind
use Rattle.ruby_lexer.specs.Forms.{place, line_of, Cutter, add_byte, add_bytes, Inside, closed, escaped, nested, byte, NoCode, IsQuoted, IsQuotedSymbol, forms, Quoted, Begins}
use Rattle.ruby_lexer.specs.Cut.{after, closes, with_blank, has_blank, put_line, put, Cuts, done, piece, at_start, in_code, cutter}
use Rattle.ruby_lexer.specs.Tokens.{before_end, AreTokens}
use Rattle.ruby_lexer.specs.Scan.{coder}
use Rattle.ruby_lexer.proofs.Whole.{coding, piece_short}
use Rattle.reference_laws.proofs.Sited.{LinedAll, LinedKind, LinedParts}
use Rattle.reference_laws.proofs.Tails.{Tail, here, behind, tail_on, tail_drop, escape_tail, LinedPiece, one_fit, forms_fit}

abbrev mutual
  -- The tokens stand one behind the other between two places, and those of the code of a literal stand within it.
  pub Ascending : ℕ → ℕ → Toks → Type 0
  Ascending low high none = low ≤ high
  Ascending low high (more (tok k from to line b) ts) = (low ≤ from) × ((from < to) × (KindAscending (suc from) to k × Ascending to high ts))

  pub KindAscending : ℕ → ℕ → Kind → Type 0
  KindAscending low high (kind.literal ps) = PartsAscending low high ps
  KindAscending low high _ = ⊤

  pub PartsAscending : ℕ → ℕ → Parts → Type 0
  PartsAscending low high ends = low ≤ high
  PartsAscending low high (plain f ps) = PartsAscending low high ps
  PartsAscending low high (code ts ps) = (middle : ℕ) × (Ascending low middle ts × PartsAscending middle high ps)

-- from a lower place on
pub lower : (l low high : ℕ) (ts : Toks) → l ≤ low → Ascending low high ts → Ascending l high ts
lower l low high none less h = omega (arith, less, h)
lower l low high (more (tok k from to line b) ts) less h = (omega (arith, less, h.0), h.1)

pub parts_lower : (l low high : ℕ) (ps : Parts) → l ≤ low → PartsAscending low high ps → PartsAscending l high ps
parts_lower l low high ends less h = omega (arith, less, h)
parts_lower l low high (plain f ps) less h = parts_lower l low high ps less h
parts_lower l low high (code ts ps) less h = (h.0, (lower l low h.0 ts less h.1.0, h.1.1))

-- Tokens whose lines are those of their places by two tables that have no line in common are none.
abbrev ones : ℕ → ℕ
ones p = 1

abbrev zeros : ℕ → ℕ
zeros p = 0

no_tokens : (low high : ℕ) (ts : Toks) → low ≤ high → LinedAll zeros ts → LinedAll ones ts → Ascending low high ts
no_tokens low high none less h k = less
no_tokens low high (more (tok j from to line b) ts) less h k = absurd (omega (arith, h.0.0, k.0.0))

bare_parts : (low high : ℕ) (ps : Parts) → low ≤ high → LinedParts zeros ps → LinedParts ones ps → PartsAscending low high ps
bare_parts low high ends less h k = less
bare_parts low high (plain f ps) less h k = bare_parts low high ps less h k
bare_parts low high (code ts ps) less h k = (low, (no_tokens low low ts (omega arith) h.0 k.0, bare_parts low high ps less h.1 k.1))

bare_kind : (low high : ℕ) (k : Kind) → low ≤ high → LinedKind zeros k → LinedKind ones k → KindAscending low high k
bare_kind low high (kind.literal ps) less h j = bare_parts low high ps less h j
bare_kind low high _ less h j = tt

tail_short : {w r : Bytes} → Tail w r → length r ≤ length w
tail_short here = omega arith
tail_short (behind t) = omega (arith, tail_short t)

module _ (text : Bytes) where
  abbrev PieceAscending : ℕ → ℕ → Piece → Type 0
  PieceAscending low high (token k) = KindAscending low high k
  PieceAscending low high _ = ⊤

  bare_piece : (low high : ℕ) (k : Piece) → low ≤ high → LinedPiece zeros k → LinedPiece ones k → PieceAscending low high k
  bare_piece low high (token k) less h j = bare_kind low high k less h j
  bare_piece low high _ less h j = tt

  kind_lower : (l low high : ℕ) (k : Kind) → l ≤ low → KindAscending low high k → KindAscending l high k
  kind_lower l low high (kind.literal ps) less h = parts_lower l low high ps less h
  kind_lower l low high _ less h = tt

  piece_lower : (l low high : ℕ) (k : Piece) → l ≤ low → PieceAscending low high k → PieceAscending l high k
  piece_lower l low high (token k) less h = kind_lower l low high k less h
  piece_lower l low high _ less h = tt

  byte_before : (low high b : ℕ) (ps : Parts) → PartsAscending low high ps → PartsAscending low high (add_byte b ps)
  byte_before low high b ends h = h
  byte_before low high b (plain f ps) h = h
  byte_before low high b (code ts ps) h = h

  bytes_before : (low high : ℕ) (f : Bytes) (ps : Parts) → PartsAscending low high ps → PartsAscending low high (add_bytes f ps)
  bytes_before low high [] ps h = h
  bytes_before low high (b ∷ f) ps h = byte_before low high b (add_bytes f ps) (bytes_before low high f ps h)

  blank_before : (low high : ℕ) (b : Bool) (ts : Toks) → Ascending low high ts → Ascending low high (with_blank b ts)
  blank_before low high b none h = h
  blank_before low high b (more (tok k from to line c) ts) h = h

  later : {w r : Bytes} → Tail w r → place text w ≤ place text r
  later t = omega (arith, tail_short t)

  -- what cuts code leaves an end of the text, and tokens between
  abbrev Cutting : Cutter → Type 0
  Cutting C = (w : Bytes) (ts : Toks) (q : Bytes) → Tail text w → C w ts q → Tail w q × Ascending (place text w) (place text q) ts

  no_code : Cutting NoCode
  no_code w ts q t h = absurd h

  module _ (C : Cutter) (K : Cutting C) where
    inside_rises : (w : Bytes) (ps : Parts) (r : Bytes) → Tail text w → Inside C w ps r → Tail w r × PartsAscending (place text w) (place text r) ps
    inside_rises w ps r t (closed {b = b} h) = (behind here, later (behind {b = b} here))
    inside_rises w ps r t (escaped {b = b} {f = f} {w = v} {q = q} {ps = qs} h g e i) =
        let x = escape_tail v f q e in
        let n = inside_rises q qs r (tail_on t (behind x)) i in
        (behind (tail_on x n.0), parts_lower (place text w) (place text q) (place text r) (add_bytes f qs) (later (behind {b = b} x)) (bytes_before (place text q) (place text r) f qs n.1))
    inside_rises w ps r t (nested {b = b} {w = v} {q = q} {ts = ts} {ps = qs} h g o k i) =
        let x = K (drop 1 v) ts q (tail_on t (behind (tail_drop 1 v))) k in
        let y : Tail v (drop 1 q) = tail_on (tail_drop 1 v) (tail_on x.0 (tail_drop 1 q)) in
        let n = inside_rises (drop 1 q) qs r (tail_on t (behind y)) i in (
          behind (tail_on y n.0),
          (
            place text q,
            (
              lower (place text w) (place text (drop 1 v)) (place text q) ts (later (behind {b = b} (tail_drop 1 v))) x.1,
              parts_lower (place text q) (place text (drop 1 q)) (place text r) qs (later (tail_drop 1 q)) n.1,
            ),
          ),
        )
    inside_rises w ps r t (byte {b = b} {w = v} {ps = qs} h g o i) =
        let n = inside_rises v qs r (tail_on t (behind here)) i in
        (behind n.0, parts_lower (place text w) (place text v) (place text r) (add_byte b qs) (later (behind {b = b} here)) (byte_before (place text v) (place text r) b qs n.1))

    quoted_rises : (w : Bytes) (k : Piece) (r : Bytes) → Tail text w → IsQuoted C w k r → Tail w r × PieceAscending (place text w) (place text r) k
    quoted_rises w k r t (ps, q, i, inl f) =
        let n = inside_rises w ps q t i in
        (subst (Tail w) (sym f.1) n.0, subst (λ j. PieceAscending (place text w) (place text r) j) (sym f.0) (subst (λ v. PartsAscending (place text w) (place text v) ps) (sym f.1) n.1))
    quoted_rises w k r t (ps, q, i, inr f) =
        let n = inside_rises w ps q t i in
        (subst (Tail w) (sym f.2) (tail_on n.0 (tail_drop 1 q)), subst (λ j. PieceAscending (place text w) (place text r) j) (sym f.1) tt)

  symbol_rises : (w : Bytes) (k : Piece) (r : Bytes) → Tail text w → IsQuotedSymbol w k r → Tail w r × PieceAscending (place text w) (place text r) k
  symbol_rises w k r t (h, ps, f, i, e, is) =
      let n = inside_rises NoCode no_code (drop 1 w) ps r (tail_on t (tail_drop 1 w)) i in
      (tail_on (tail_drop 1 w) n.0, subst (λ j. PieceAscending (place text w) (place text r) j) (sym is) tt)

  line_by : (low high : ℕ) (b : Bool) (x : Tok) (ts : Toks) → Ascending low high (more x ts) → Ascending low high ts → Ascending low high (if b then with_blank (has_blank x) ts else more x ts)
  line_by low high true x ts h k = blank_before low high (has_blank x) ts k
  line_by low high false x ts h k = h

  joined_by : (low high : ℕ) (b : Bool) (x : Tok) (ts : Toks) → Ascending low high (more x ts) → Ascending low high ts → Ascending low high (if b then ts else put_line text x ts)
  joined_by low high true x ts h k = k
  joined_by low high false x ts h k = line_by low high (closes text ts) x ts h k

  put_rises : (s : State) (k : Piece) (w q z : Bytes) (ts : Toks) → place text w < place text q → PieceAscending (suc (place text w)) (place text q) k → Ascending (place text q) (place text z) ts →
      Ascending (place text w) (place text z) (put text s k w q ts)
  put_rises s blank w q z ts less h e = lower (place text w) (place text q) (place text z) ts (omega (arith, less)) e
  put_rises s comment w q z ts less h e = lower (place text w) (place text q) (place text z) ts (omega (arith, less)) e
  put_rises s line_end w q z ts less h e =
      joined_by (place text w) (place text z) s.joins (tok newline (place text w) (place text q) (line_of text w) s.blank) ts (omega arith, (less, (tt, e)))
      (lower (place text w) (place text q) (place text z) ts (omega (arith, less)) e)
  put_rises s (token k) w q z ts less h e = (omega arith, (less, (h, e)))

  module _ (C : Cutter) (K : Cutting C) where
    special_rises : (c : Class) (w : Bytes) (k : Piece) (r : Bytes) → Tail text w → Quoted C c w k r → Tail w r × PieceAscending (place text w) (place text r) k
    special_rises DoubleQuote w k r t h = quoted_rises C K w k r t h
    special_rises Colon w k r t h = symbol_rises w k r t h
    special_rises _ w k r t h = absurd h

    begins_rises : (s : State) (w : Bytes) (k : Piece) (r : Bytes) → Tail text w → place text w < place text r → Begins text C s w k r → Tail w r × PieceAscending (suc (place text w)) (place text r) k
    begins_rises s [] k r t less f = absurd f
    begins_rises s (b ∷ w) k r t less (inl h) =
        let n = special_rises (class_of b) w k r (tail_on t (behind here)) h in
        (behind n.0, piece_lower (suc (place text (b ∷ w))) (place text w) (place text r) k (omega (arith, tail_short t)) n.1)
    begins_rises s (b ∷ w) k r t less (inr o) =
        let x = one_fit zeros (b ∷ w) (forms text s (class_of b) b w) k r (forms_fit zeros text s (class_of b) b w) o in
        let y = one_fit ones (b ∷ w) (forms text s (class_of b) b w) k r (forms_fit ones text s (class_of b) b w) o in
        (x.0, bare_piece (suc (place text (b ∷ w))) (place text r) k (omega (arith, less)) x.1 y.1)

    -- a piece has at least one byte
    cuts_rise : (s : State) (w : Bytes) (ts : Toks) (z : State) (r : Bytes) → ((s : State) (w : Bytes) (k : Piece) (r : Bytes) → Begins text C s w k r → length r < length w) → Tail text w → Cuts text C s w ts z r → Tail w r × Ascending (place text w) (place text r) ts
    cuts_rise s w ts z r short t done = (here, omega arith)
    cuts_rise s w ts z r short t (piece {q = q} {ts = us} k f l m) =
        let less : place text w < place text q = omega (arith, short s w k q f, tail_short t) in
        let x = begins_rises s w k q t less f in
        let n = cuts_rise (after s k (taken w q)) q us z r short (tail_on t x.0) m in
        (tail_on x.0 n.0, put_rises s k w q r us less x.1 n.1)

  cutter_rises : (n : ℕ) → Cutting (cutter text n)
  unfolding cutter
  cutter_rises zero = λ w ts q t h. absurd h
  cutter_rises (suc n) = λ w ts q t h. cuts_rise (cutter text n) (cutter_rises n) in_code w ts h.0 q (piece_short text (cutter text n) (coder text n) (coding text n)) t h.1

-- each token of a text begins behind the one before it
pub tokens_ascend : (bytes : Bytes) (ts : Toks) → AreTokens bytes ts → Ascending 0 (length (before_end bytes)) ts
tokens_ascend bytes ts a =
    let text = before_end bytes in
    let c = cutter text 200 in
    let from : 0 ≤ place text text = omega arith in
    let all = (cuts_rise text c (cutter_rises text 200) at_start text ts a.state [] (piece_short text c (coder text 200) (coding text 200)) here a.cuts).1 in
    let up : place text [] ≡ length text = omega arith in
    lower 0 (place text text) (length text) ts from (subst (λ high. Ascending (place text text) high ts) up all)
