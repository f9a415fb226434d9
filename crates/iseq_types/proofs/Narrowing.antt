-- Half as many places ask the same of the spans.
use Rattle.std.proofs.Common.{◌≡◌, ℕ, ◌+◌, ◌-◌, ◌*◌, ◌/◌, ◌%◌, ◌<◌, ◌≤◌, List, [], ◌∷◌, ◌++◌, length, get_or, take, All, sym, ap, ◌∙◌, subst, arith, ⊎_elim, inl, inr}
use Rattle.std.specs.Prelude.{◌⊎◌, ◌↔◌}
use Rattle.std.proofs.lemmas.Bool.{cases_lt}
use Rattle.std.proofs.lemmas.List.Elements.{All-more, All-push, All-nil}
use Rattle.iseq_types.proofs.Elements.{All-less, All-last, All-before_push}
use Rattle.iseq_types.specs.declared.spans.Span.{Span}
use Rattle.iseq_types.specs.Spans.{EndsHold, Halves, HoldsOver, IsWithin, Narrows, pairs_of}

-- a place is in a pair of the span, or half a pair at its beginning or its end
where_is : (from to place : ℕ) → from ≤ place → place < to → ((from / 2 + from % 2 ≤ place / 2) × (place / 2 < to / 2)) ⊎ (((from % 2 ≡ 1) × (place ≡ from)) ⊎ ((to % 2 ≡ 1) × (place ≡ to - 1)))
where_is from to place low high =
    ⊎_elim
    (λ before. inr (inl (omega arith, omega arith)))
    (λ after. ⊎_elim (λ inside. inl (after, inside)) (λ beyond. inr (inr (omega arith, omega arith))) (cases_lt (place / 2) (to / 2)))
    (cases_lt (place / 2) (from / 2 + from % 2))

half_below : (rooms half : List ℕ) (floor place : ℕ) → Halves rooms half → place / 2 < length half → floor ≤ get_or half (place / 2) 0 → floor ≤ get_or rooms place 0
half_below rooms half floor place h l low =
    let e = h.each (place / 2) l in
    let both : (floor ≤ get_or rooms (2 * (place / 2)) 0) × (floor ≤ get_or rooms (2 * (place / 2) + 1) 0) = (omega (arith, e, low), omega (arith, e, low)) in
    ⊎_elim
    (λ (same : 2 * (place / 2) ≡ place). subst (λ n. floor ≤ get_or rooms n 0) same both.0)
    (λ (same : 2 * (place / 2) + 1 ≡ place). subst (λ n. floor ≤ get_or rooms n 0) same both.1)
    (even_or_odd place)
  where
    even_or_odd : (n : ℕ) → (2 * (n / 2) ≡ n) ⊎ (2 * (n / 2) + 1 ≡ n)
    even_or_odd n = ⊎_elim (λ l. inl (omega arith)) (λ l. inr (omega arith)) (cases_lt (n % 2) 1)

pub span_holds : (rooms half : List ℕ) (span : Span) → IsWithin (length rooms) span → EndsHold rooms span → Halves rooms half → ((pairs_of span).from < (pairs_of span).to → HoldsOver half (pairs_of span)) → HoldsOver rooms span
span_holds rooms half span within ends h over place low high =
    ⊎_elim
    (λ inside.
    let l : place / 2 < length half = omega (arith, inside.1, h.long, within.1) in
    half_below rooms half span.floor place h l (over (omega (arith, inside)) (place / 2) inside.0 inside.1))
    (λ at. ⊎_elim
    (λ first. subst (λ n. span.floor ≤ get_or rooms n 0) (sym first.1) (ends.first first.0))
    (λ last. subst (λ n. span.floor ≤ get_or rooms n 0) (sym last.1) (ends.last last.0))
    at)
    (where_is span.from span.to place low high)

pub pairs_hold : (rooms half : List ℕ) (span : Span) → IsWithin (length rooms) span → Halves rooms half → HoldsOver rooms span → HoldsOver half (pairs_of span)
pairs_hold rooms half span within h over pair low high =
    let l : pair < length half = omega (arith, high, h.long, within.1) in
    let e = h.each pair l in
    let a = over (2 * pair) (omega (arith, low)) (omega (arith, high)) in
    let b = over (2 * pair + 1) (omega (arith, low)) (omega (arith, high)) in
    omega (arith, e, a, b)

pub ends_of_span : (rooms : List ℕ) (span : Span) → IsWithin (length rooms) span → HoldsOver rooms span → EndsHold rooms span
ends_of_span rooms span within over = record {
  first = λ odd. over span.from (omega arith) (omega (arith, within.0));
  last = λ odd. over (span.to - 1) (omega (arith, within.0)) (omega (arith, within.0));
}

pub Narrows-none : (rooms : List ℕ) (spans : List Span) → Narrows rooms (take 0 spans) []
Narrows-none rooms spans = record {
  within = All-nil (IsWithin (length rooms / 2));
  same = λ half h. (λ _. All-nil (HoldsOver half), λ _. All-nil (HoldsOver rooms));
}

-- a span with no whole pair
pub Narrows-ends : (rooms : List ℕ) (spans inner : List Span) (i : ℕ) (d : Span) → i < length spans → IsWithin (length rooms) (get_or spans i d) → EndsHold rooms (get_or spans i d) → (pairs_of (get_or spans i d)).to ≤ (pairs_of (get_or spans i d)).from → Narrows rooms (take i spans) inner → Narrows rooms (take (i + 1) spans) inner
Narrows-ends rooms spans inner i d l within ends none n = record {
  within = n.within;
  same = λ half h. (
    λ all. (n.same half h).0 (All-less (HoldsOver rooms) spans i all),
    λ all. All-more (HoldsOver rooms) spans i d l ((n.same half h).1 all) (span_holds rooms half (get_or spans i d) within ends h (λ some. absurd (omega (arith, none, some)))),
  );
}

-- a span with whole pairs
pub Narrows-pairs : (rooms : List ℕ) (spans inner : List Span) (i : ℕ) (d : Span) → i < length spans → IsWithin (length rooms) (get_or spans i d) → EndsHold rooms (get_or spans i d) → (pairs_of (get_or spans i d)).from < (pairs_of (get_or spans i d)).to → Narrows rooms (take i spans) inner → Narrows rooms (take (i + 1) spans) (inner ++ pairs_of (get_or spans i d) ∷ [])
Narrows-pairs rooms spans inner i d l within ends some n = record {
  within = All-push (IsWithin (length rooms / 2)) inner (pairs_of (get_or spans i d)) n.within (some, omega (arith, within.1));
  same = λ half h. (
    λ all. All-push (HoldsOver half) inner (pairs_of (get_or spans i d)) ((n.same half h).0 (All-less (HoldsOver rooms) spans i all)) (pairs_hold rooms half (get_or spans i d) within h (All-last (HoldsOver rooms) spans i d l all)),
    λ all. let parts = All-before_push (HoldsOver half) inner (pairs_of (get_or spans i d)) all in
        All-more (HoldsOver rooms) spans i d l ((n.same half h).1 parts.0) (span_holds rooms half (get_or spans i d) within ends h (λ _. parts.1)),
  );
}

pub Narrows-more : (rooms : List ℕ) (spans inner pushed : List Span) (i : ℕ) (d next : Span) → i < length spans → IsWithin (length rooms) (get_or spans i d) → EndsHold rooms (get_or spans i d) → next ≡ pairs_of (get_or spans i d) → next.from < next.to → pushed ≡ inner ++ next ∷ [] → Narrows rooms (take i spans) inner → Narrows rooms (take (i + 1) spans) pushed
Narrows-more rooms spans inner pushed i d next l within ends e some p n =
    let s = subst (λ (x : Span). x.from < x.to) e some in
    let pairs = ap (λ x. inner ++ x ∷ []) e in
    subst (Narrows rooms (take (i + 1) spans)) (sym (p ∙ pairs)) (Narrows-pairs rooms spans inner i d l within ends s n)

pub Narrows-same : (rooms : List ℕ) (spans inner : List Span) (i : ℕ) (d next : Span) → i < length spans → IsWithin (length rooms) (get_or spans i d) → EndsHold rooms (get_or spans i d) → next ≡ pairs_of (get_or spans i d) → next.to ≤ next.from → Narrows rooms (take i spans) inner → Narrows rooms (take (i + 1) spans) inner
Narrows-same rooms spans inner i d next l within ends e none n =
    Narrows-ends rooms spans inner i d l within ends (subst (λ (x : Span). x.to ≤ x.from) e none) n

-- half of the numbers hold half as many places
half_of : (rooms half : List ℕ) (spans inner : List Span) → Halves rooms half → Narrows rooms spans inner → All (IsWithin (length half)) inner
half_of rooms half spans inner h n = subst (λ k. All (IsWithin k) inner) (sym h.long) n.within

-- the spans and the numbers of one turn, and those of the next
pub record Turns (rooms half : List ℕ) (spans inner : List Span) : Type 0 where
  pub within : All (IsWithin (length half)) inner
  pub same : All (HoldsOver rooms) spans ↔ All (HoldsOver half) inner
  pub fewer : 0 < length spans → All (IsWithin (length rooms)) spans → length half < length rooms

pub turn : (rooms half : List ℕ) (spans inner : List Span) → Halves rooms half → Narrows rooms spans inner → Turns rooms half spans inner
turn rooms half spans inner h n = record {
  within = half_of rooms half spans inner h n;
  same = n.same half h;
  fewer = fewer spans;
}
  where
    fewer : (xs : List Span) → 0 < length xs → All (IsWithin (length rooms)) xs → length half < length rooms
    fewer [] l all = absurd (omega (arith, l))
    fewer (x ∷ xs) l all = let w = all 0 x (omega arith) in omega (arith, w.0, w.1, h.long)

pub turn_from : (rooms rooms1 rooms2 half : List ℕ) (spans spans1 inner : List Span) → rooms1 ≡ rooms → spans1 ≡ spans → rooms2 ≡ rooms → Narrows rooms1 spans1 inner → Halves rooms2 half → Turns rooms half spans inner
turn_from rooms rooms1 rooms2 half spans spans1 inner a b e n h =
    turn rooms half spans inner (subst (λ r. Halves r half) e h) (subst (λ r. Narrows r spans inner) a (subst (λ s. Narrows rooms1 s inner) b n))
