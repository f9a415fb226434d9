-- The whole walk: the line at which it stops is that of the grammar, and there is one such line.
use Rattle.std.proofs.Common.{◌≡◌, ℕ, zero, suc, ◌<◌, Bool, true, false, ◌⊎◌, inl, inr, Option, Some, None, refl, sym, ap, arith, subst, if◌then◌else◌}
use Rattle.std.proofs.lemmas.Bool.{false≢true}
use Rattle.ruby_lexer.specs.Bytes.{Bytes}
use Rattle.ruby_lexer.specs.Pieces.{Toks, none, more}
use Rattle.ruby_tree.specs.Rules.{Scope, line_at}
use Rattle.ruby_tree.specs.FaultLine.{count_of, IsLongestFront, Header, StopsAt, inside, token, ends}
use Rattle.reference_parser.specs.Answers.{Answer, taken, fault, deep}
use Rattle.reference_parser.specs.ReadStatements.{readers}
use Rattle.reference_parser.specs.Stops.{front_of, header_at, line_or, stop_behind, stops_from, stops_at}
use Rattle.reference_laws.proofs.Promises.{Each, got, at_fault, at_depth}
use Rattle.reference_laws.proofs.Moves.{is_there}
use Rattle.reference_laws.proofs.StopLongest.{longest_is, front_once}
use Rattle.reference_laws.proofs.StopHeaders.{sound_header, header_taken, header_once, longest_header, shorter_header}

abbrev some_or : ℕ → Option ℕ → ℕ
some_or n (Some k) = k
some_or n None = n

if_some : (b : Bool) (o : Option ℕ) (line : ℕ) → (if b then None else o) ≡ Some line → (b ≡ false) × (o ≡ Some line)
if_some true o line e = absurd cc
if_some false o line e = (refl, e)

module _ (source : Bytes) (n end : ℕ) where
  -- no header stands where the reader finds none
  no_header : {s z : Scope} {w r : Toks} → header_at source (readers source n) w s ≡ fault → Header source s w r z → ⊥
  no_header e h = not_both e (header_taken source n h)
    where
      not_both : {o : Answer (Unit {0})} {r : Toks} {z : Scope} → o ≡ fault → (o ≡ deep) ⊎ (o ≡ taken tt r z) → ⊥
      not_both e (inl d) = cc
      not_both e (inr d) = cc

  at_token : {s y : Scope} {w u : Toks} (v : Toks) → IsLongestFront source s w u v y → ((r : Toks) (z : Scope) → Header source y v r z → ⊥) → (line : ℕ) → line_or source (readers source n) end v ≡ line → StopsAt source end s w line
  unfolding line_or
  at_token {s = s} {w = w} none F free line e = subst (λ (l : ℕ). StopsAt source end s w l) e (ends F)
  at_token {s = s} {w = w} (more t ts) F free line e = subst (λ (l : ℕ). StopsAt source end s w l) e (token F free)

  by_header : {s y : Scope} {w u v : Toks} (further : Toks → Scope → Option ℕ) → ((r : Toks) (z : Scope) (line : ℕ) → further r z ≡ Some line → StopsAt source end z r line) → IsLongestFront source s w u v y →
      (o : Answer (Unit {0})) → Each (λ (a : Unit {0}) (r : Toks) (z : Scope). Header source y v r z) o → header_at source (readers source n) v y ≡ o → (line : ℕ) →
      stop_behind source (readers source n) further end v o ≡ Some line → StopsAt source end s w line
  unfolding stop_behind
  by_header further behind F _ (got {r = r} {z = z} h) is line e = inside F (longest_header source h) (behind r z line e)
  by_header {v = v} further behind F _ at_fault is line e = at_token v F (λ r z h. no_header is h) line (ap (some_or 0) e)
  by_header further behind F _ at_depth is line e = absurd cc

  stops_is : (m : ℕ) (w : Toks) (s : Scope) (line : ℕ) → stops_from source (readers source n) m end w s ≡ Some line → StopsAt source end s w line
  unfolding stops_from
  stops_is zero w s line e = absurd cc
  stops_is (suc m) w s line e =
      let p = front_of source (readers source n) w s in
      let parts = if_some p.cut _ line e in
      by_header (stops_from source (readers source n) m end) (stops_is m) (longest_is source n w s parts.0) (header_at source (readers source n) p.rest p.scope) (sound_header source n p.rest p.scope) refl line parts.1

  -- The line that the walk answers is that at which the grammar stops.
  pub stops_there : (w : Toks) (s : Scope) (line : ℕ) → stops_at source (readers source n) end w s ≡ Some line → StopsAt source end s w line
  unfolding stops_at
  stops_there w s line e = stops_is (suc (count_of w)) w s line e

module _ (source : Bytes) (end : ℕ) where
  -- a header at the same place, with the same locals
  header_at_same : {y x z : Scope} {v q r : Toks} → v ≡ q → y ≡ x → Header source y v r z → Header source x q r z
  header_at_same {x = x} {z = z} {v = v} {r = r} e f h = subst (λ (k : Toks). Header source x k r z) e (subst (λ (k : Scope). Header source k v r z) f h)

  stops_at_same : {z x : Scope} {r q : Toks} {line : ℕ} → r ≡ q → z ≡ x → StopsAt source end z r line → StopsAt source end x q line
  stops_at_same {x = x} {r = r} {line = line} e f h = subst (λ (k : Toks). StopsAt source end x k line) e (subst (λ (k : Scope). StopsAt source end k r line) f h)

  no_header_of_none : {y z : Scope} {r : Toks} → Header source y none r z → ⊥
  no_header_of_none {r = r} h = let shorter : count_of r < 0 = shorter_header source h in omega arith

  -- The grammar stops at one line.
  pub stops_once : {s : Scope} {w : Toks} {line other : ℕ} → StopsAt source end s w line → StopsAt source end s w other → line ≡ other
  stops_once (inside F H S) (inside G I T) =
      let front = front_once source G F in
      let head = header_once source (header_at_same front.0 front.1 I.is) H.is in
      stops_once S (stops_at_same head.0 head.1 T)
  stops_once (inside F H S) (token G free) = let front = front_once source F G in absurd (free _ _ (header_at_same front.0 front.1 H.is))
  stops_once (inside F H S) (ends G) = let front = front_once source F G in absurd (no_header_of_none (header_at_same front.0 front.1 H.is))
  stops_once (token F free) (inside G I T) = let front = front_once source G F in absurd (free _ _ (header_at_same front.0 front.1 I.is))
  stops_once (token F free) (token G loose) = ap line_at (front_once source F G).0
  stops_once (token F free) (ends G) = absurd (false≢true (sym (ap is_there (front_once source F G).0)))
  stops_once (ends F) (inside G I T) = let front = front_once source G F in absurd (no_header_of_none (header_at_same front.0 front.1 I.is))
  stops_once (ends F) (token G free) = absurd (false≢true (ap is_there (front_once source F G).0))
  stops_once (ends F) (ends G) = refl

module _ (source : Bytes) (n end : ℕ) where
  by_answer : {s : Scope} {w : Toks} {line : ℕ} (o : Option ℕ) → stops_at source (readers source n) end w s ≡ o → StopsAt source end s w line → (o ≡ None) ⊎ (o ≡ Some line)
  by_answer None e h = inl refl
  by_answer {s = s} {w = w} (Some k) e h = inr (ap (λ (l : ℕ). Some l) (stops_once source end (stops_there source n end w s k e) h))

  -- The walk finds the line at which the grammar stops, or it is cut by the depth.
  pub stops_found : {s : Scope} {w : Toks} {line : ℕ} → StopsAt source end s w line → (stops_at source (readers source n) end w s ≡ None) ⊎ (stops_at source (readers source n) end w s ≡ Some line)
  stops_found {s = s} {w = w} h = by_answer (stops_at source (readers source n) end w s) refl h
