-- The walks in steps, whatever their fuel: over a newline, over a statement with its newline, and from a front to what stands behind a header.
use Rattle.std.proofs.Common.{◌≡◌, ℕ, zero, suc, ◌<◌, ◌≤◌, Bool, true, false, Option, None, refl, arith, if◌then◌else◌}
use Rattle.ruby_lexer.specs.Bytes.{Bytes}
use Rattle.ruby_lexer.specs.Pieces.{Toks}
use Rattle.ruby_tree.specs.Tree.{Tree}
use Rattle.ruby_tree.specs.Rules.{Scope, own, next, begins_statement}
use Rattle.ruby_tree.specs.Grammar.{derives, Stmt}
use Rattle.ruby_tree.specs.FaultLine.{count_of, Header}
use Rattle.reference_parser.specs.Answers.{Answer}
use Rattle.reference_parser.specs.Fronts.{is_newline}
use Rattle.reference_parser.specs.ReadStatements.{read_stmt, readers}
use Rattle.reference_parser.specs.Stops.{Place, front_behind, front_from, front_of, header_at, stop_behind, stops_from, stops_at}
use Rattle.reference_laws.proofs.Promises.{Each, got, at_fault, at_depth}
use Rattle.reference_parser.proofs.Tests.{kind_newline, next_less}
use Rattle.reference_laws.proofs.Sound.{sound}
use Rattle.reference_laws.proofs.SoundStatements.{sound-stmt}
use Rattle.reference_laws.proofs.Shorter.{shorters, shorter_stmt}
use Rattle.reference_laws.proofs.StopFronts.{shorter_part}
use Rattle.reference_laws.proofs.StopLongest.{walked}
use Rattle.reference_laws.proofs.StopHeaders.{sound_header, shorter_header}

-- one of two, by the same test
either_same : {A : Type 0} (b : Bool) {x y u v : A} → (b ≡ true → x ≡ u) → (b ≡ false → y ≡ v) → (if b then x else y) ≡ (if b then u else v)
either_same true h k = h refl
either_same false h k = k refl

module _ (source : Bytes) (n : ℕ) where
  newline_less : (w : Toks) → is_newline w ≡ true → count_of (next w) < count_of w
  newline_less w e = next_less w _ (kind_newline _ e)

  behind_same : (f h : Toks → Scope → Place) (w : Toks) (s : Scope) → ((q : Toks) (y : Scope) → count_of q < count_of w → f q y ≡ h q y) → (o : Answer Tree) → Each (Stmt source (derives source n) own w s) o →
      front_behind source (readers source n) f w s o ≡ front_behind source (readers source n) h w s o
  unfolding front_behind
  behind_same f h w s same _ (got {r = q} {z = y} d) =
      either_same (is_newline q) (λ e. same (next q) y (omega (arith, newline_less q e, shorter_stmt source (derives source n) (shorters source n) own _ _ _ _ _ d))) (λ e. refl)
  behind_same f h w s same _ at_fault = refl
  behind_same f h w s same _ at_depth = refl

  -- the fuel does not matter, where it is enough
  front_fuel : (m k : ℕ) (w : Toks) (s : Scope) → count_of w < m → count_of w < k → front_from source (readers source n) m w s ≡ front_from source (readers source n) k w s
  unfolding front_from
  front_fuel zero k w s room more = absurd (omega arith)
  front_fuel (suc m) zero w s room more = absurd (omega arith)
  front_fuel (suc m) (suc k) w s room more =
      either_same (is_newline w)
      (λ e. front_fuel m k (next w) s (omega (arith, newline_less w e)) (omega (arith, newline_less w e)))
      (λ e. either_same (begins_statement source w)
      (λ b. behind_same _ _ w s (λ q y less. front_fuel m k q y (omega arith) (omega arith)) _ (sound-stmt source (derives source n) (readers source n) (sound source n) own w s))
      (λ b. refl))

  -- The walk over lines: over a newline,
  pub front_over_line : (w : Toks) (s : Scope) → is_newline w ≡ true → front_of source (readers source n) w s ≡ front_of source (readers source n) (next w) s
  unfolding front_of front_from
  front_over_line w s e = rw e (front_fuel (count_of w) (suc (count_of (next w))) (next w) s (newline_less w e) (omega arith))

  -- over a statement, by what is read of it,
  pub front_over_statement : (w : Toks) (s : Scope) → is_newline w ≡ false → begins_statement source w ≡ true →
      front_of source (readers source n) w s ≡ front_behind source (readers source n) (front_of source (readers source n)) w s (read_stmt source (readers source n) own w s)
  unfolding front_of front_from
  front_over_statement w s e b =
      rw (e, b) (behind_same (front_from source (readers source n) (count_of w)) (λ q y. front_from source (readers source n) (suc (count_of q)) q y) w s (λ q y less. front_fuel (count_of w) (suc (count_of q)) q y less (omega arith)) _ (sound-stmt source (derives source n) (readers source n) (sound source n) own w s))

  -- and no further, where none begins
  pub front_ends : (w : Toks) (s : Scope) → is_newline w ≡ false → begins_statement source w ≡ false → front_of source (readers source n) w s ≡ record { rest = w; scope = s; cut = false }
  unfolding front_of front_from
  front_ends w s e b = rw (e, b) refl

  module _ (end : ℕ) where
    header_same : (f h : Toks → Scope → Option ℕ) (y : Scope) (v : Toks) → ((r : Toks) (z : Scope) → count_of r < count_of v → f r z ≡ h r z) → (o : Answer (Unit {0})) → Each (λ (a : Unit {0}) (r : Toks) (z : Scope). Header source y v r z) o →
        stop_behind source (readers source n) f end v o ≡ stop_behind source (readers source n) h end v o
    unfolding stop_behind
    header_same f h y v same _ (got {r = r} {z = z} d) = same r z (shorter_header source d)
    header_same f h y v same _ at_fault = refl
    header_same f h y v same _ at_depth = refl

    front_no_longer : (w : Toks) (s : Scope) → count_of (front_of source (readers source n) w s).rest ≤ count_of w
    front_no_longer w s = let F = walked source n w s in shorter_part F.first _ w F.parts

    stops_fuel : (m k : ℕ) (w : Toks) (s : Scope) → count_of w < m → count_of w < k → stops_from source (readers source n) m end w s ≡ stops_from source (readers source n) k end w s
    unfolding stops_from
    stops_fuel zero k w s room more = absurd (omega arith)
    stops_fuel (suc m) zero w s room more = absurd (omega arith)
    stops_fuel (suc m) (suc k) w s room more =
        let p = front_of source (readers source n) w s in
        either_same p.cut (λ e. refl)
        (λ e. header_same _ _ p.scope p.rest (λ r z less. stops_fuel m k r z (omega (arith, front_no_longer w s)) (omega (arith, front_no_longer w s))) _ (sound_header source n p.rest p.scope))

    -- The whole walk in one step: a front, and then what stands behind a header.
    pub stops_step : (w : Toks) (s : Scope) →
        let p = front_of source (readers source n) w s in
        stops_at source (readers source n) end w s ≡ (if p.cut then None else stop_behind source (readers source n) (stops_at source (readers source n) end) end p.rest (header_at source (readers source n) p.rest p.scope))
    unfolding stops_at stops_from
    stops_step w s =
        let p = front_of source (readers source n) w s in
        either_same p.cut (λ e. refl)
        (λ e. header_same (stops_from source (readers source n) (count_of w) end) (λ r z. stops_from source (readers source n) (suc (count_of r)) end r z) p.scope p.rest
        (λ r z less. stops_fuel (count_of w) (suc (count_of r)) r z (omega (arith, front_no_longer w s)) (omega arith)) _ (sound_header source n p.rest p.scope))
