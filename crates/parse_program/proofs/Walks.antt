-- What the walk to the line at which the grammar stops makes of one turn.
use Rattle.std.proofs.Common.{◌≡◌, refl, ℕ, zero, suc, ◌<◌, ◌≤◌, Bool, true, false, Option, Some, None, if◌then◌else◌, arith}
use Rattle.ruby_lexer.specs.Bytes.{Bytes}
use Rattle.ruby_lexer.specs.Pieces.{Toks, none, more}
use Rattle.ruby_tree.specs.Tree.{Tree}
use Rattle.ruby_tree.specs.Rules.{Scope, own, next, begins_statement}
use Rattle.ruby_tree.specs.FaultLine.{count_of}
use Rattle.reference_parser.specs.Answers.{Answer, taken, fault, deep, ◌>>=◌}
use Rattle.reference_parser.specs.Fronts.{is_newline}
use Rattle.reference_parser.specs.ReadItems.{Readers}
use Rattle.reference_parser.specs.ReadStatements.{read_stmt}
use Rattle.reference_parser.specs.Stops.{Place, front_behind, front_from, front_of, header_at, line_or, stop_behind, stops_from, stops_at}
use Rattle.parse_program.specs.Turn.{first_line, or_else, statement_line, turn_at}

module _ (source : Bytes) (Q : Readers) (end : ℕ) where
  -- where a front has ended
  abbrev pub behind_front : ℕ → Place → Option ℕ
  behind_front m p = if p.cut then None else stop_behind source Q (stops_from source Q m end) end p.rest (header_at source Q p.rest p.scope)

  -- The walk within a front, of which n turns may be left, and with it m fronts.
  abbrev pub walk : ℕ → ℕ → Toks → Scope → Option ℕ
  walk n m w s = behind_front m (front_from source Q n w s)

  pub walk_begins : (w : Toks) (s : Scope) → stops_at source Q end w s ≡ walk (suc (count_of w)) (count_of w) w s
  unfolding stops_at stops_from front_of
  walk_begins w s = refl

  -- what the walk answers behind a turn
  pub data Further (a : Option ℕ) (r : Toks) (z : Scope) : Type 0 where
    further : {n m : ℕ} → count_of r < n → count_of r ≤ m → a ≡ walk n m r z → Further a r z

  -- What the walk answers at w, which has so many tokens, by a turn there: where the turn goes on, what the walk answers behind it.
  pub data Walks (count : ℕ) (w : Toks) (a : Option ℕ) : Answer (Unit {0}) → Type 0 where
    on : {u : Unit {0}} {r : Toks} {z : Scope} → (count_of r < count → Further a r z) → Walks count w a (taken u r z)
    up_to : a ≡ Some (first_line end w) → Walks count w a fault
    cut_short : a ≡ None → Walks count w a deep

  first_is : (w : Toks) → line_or source Q end w ≡ first_line end w
  unfolding line_or
  first_is none = refl
  first_is (more t ts) = refl

  -- by the header at w
  by_header : (m : ℕ) (w : Toks) → count_of w ≤ m → (h : Answer (Unit {0})) → Walks (count_of w) w (stop_behind source Q (stops_from source Q m end) end w h) h
  unfolding stop_behind stops_from front_of
  by_header zero w enough (taken u r z) = on (λ less. absurd (omega arith))
  by_header (suc m) w enough (taken u r z) = on (λ less. further {n = suc (count_of r)} {m = m} (omega arith) (omega arith) refl)
  by_header m w enough fault = up_to (rw (first_is w) refl)
  by_header m w enough deep = cut_short refl

  module _ (k m : ℕ) (w : Toks) (s : Scope) (turns : count_of w ≤ k) (fronts : count_of w ≤ m) where
    -- by the newline behind the statement that was taken at w
    by_newline : (q : Toks) (y : Scope) (b : Bool) → Walks (count_of w) w (behind_front m (if b then front_from source Q k (next q) y else record { rest = w; scope = s; cut = false })) (or_else (if b then taken tt (next q) y else fault) (header_at source Q w s))
    unfolding or_else
    by_newline q y true = on (λ less. further {n = k} {m = m} (omega arith) (omega arith) refl)
    by_newline q y false = by_header m w fronts (header_at source Q w s)

    -- by the statement at w
    by_statement : (a : Answer Tree) → Walks (count_of w) w (behind_front m (front_behind source Q (front_from source Q k) w s a)) (or_else (a >>= λ t q y. if is_newline q then taken tt (next q) y else fault) (header_at source Q w s))
    unfolding or_else front_behind ◌>>=◌
    by_statement (taken t q y) = by_newline q y (is_newline q)
    by_statement fault = by_header m w fronts (header_at source Q w s)
    by_statement deep = cut_short refl

    -- by the first token
    by_front : (b c : Bool) → Walks (count_of w) w (behind_front m (if b then front_from source Q k (next w) s else if c then front_behind source Q (front_from source Q k) w s (read_stmt source Q own w s) else record { rest = w; scope = s; cut = false })) (if b then taken tt (next w) s else or_else (if c then (read_stmt source Q own w s >>= λ t q y. if is_newline q then taken tt (next q) y else fault) else fault) (header_at source Q w s))
    unfolding or_else
    by_front true c = on (λ less. further {n = k} {m = m} (omega arith) (omega arith) refl)
    by_front false true = by_statement (read_stmt source Q own w s)
    by_front false false = by_header m w fronts (header_at source Q w s)

  pub turn_walks : (n m : ℕ) (w : Toks) (s : Scope) → count_of w < n → count_of w ≤ m → Walks (count_of w) w (walk n m w s) (turn_at source Q w s)
  unfolding front_from turn_at statement_line
  turn_walks zero m w s turns fronts = absurd (omega arith)
  turn_walks (suc k) m w s turns fronts = by_front k m w s (omega arith) fronts (is_newline w) (begins_statement source w)
