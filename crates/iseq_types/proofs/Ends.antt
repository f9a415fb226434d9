-- The furthest end of the ensure rows: one row more, and one place more.
use Rattle.std.proofs.Common.{◌≡◌, ℕ, ◌+◌, ◌<◌, ◌≤◌, List, length, get_or, take, max, Any, sym, ap, ◌∙◌, subst, arith, ⊎_elim, inl, inr}
use Rattle.std.specs.Prelude.{◌⊎◌}
use Rattle.std.proofs.lemmas.List.Elements.{All-more, All-weaker}
use Rattle.std.proofs.lemmas.Bool.{cases_lt, cases_eq}
use Rattle.std.proofs.lemmas.List.{get_or-set_same, get_or-set_other, length-set, get_or-replicate, length-replicate}
use Rattle.std.specs.Prelude.{slice_set, replicate}
use Rattle.iseq_types.specs.declared.sequences.CatchRow.{CatchRow}
use Rattle.iseq_types.specs.declared.sequences.CatchKind as catches
use Rattle.iseq_types.specs.Furthest.{IsFurthestAt, IsFurthestBelow, AreFurthest, FromAt, FromBelow, NoFurtherAt}
use Rattle.iseq_types.specs.Catch.{Holds}
use Rattle.iseq_types.proofs.Elements.{Any-more, Any-here, Any-weaker}

-- a row that is no ensure row, or begins elsewhere
pub IsFurthestAt-other : (rows : List CatchRow) (i place far : ℕ) (d : CatchRow) → i < length rows → ((get_or rows i d).kind ≡ catches.TheVariants.Ensure → (get_or rows i d).from ≡ place → ⊥) → IsFurthestAt (take i rows) place far → IsFurthestAt (take (i + 1) rows) place far
IsFurthestAt-other rows i place far d l other h = record {
  each = All-more (NoFurtherAt place far) rows i d l h.each (λ k f. absurd (other k f));
  one = λ p. Any-more (FromAt place far) rows i d l (h.one p);
}

max_cases : (a b : ℕ) → ((max a b ≡ b) × (a ≤ b)) ⊎ ((max a b ≡ a) × (b ≤ a))
max_cases a b = ⊎_elim (λ l. inl (omega arith, omega arith)) (λ l. inr (omega arith, omega arith)) (cases_lt a b)

-- an ensure row that begins there
pub IsFurthestAt-row : (rows : List CatchRow) (i place far : ℕ) (d : CatchRow) → i < length rows → (get_or rows i d).kind ≡ catches.TheVariants.Ensure → (get_or rows i d).from ≡ place → IsFurthestAt (take i rows) place far → IsFurthestAt (take (i + 1) rows) place (max far (get_or rows i d).to)
IsFurthestAt-row rows i place far d l kind from h =
    let to = (get_or rows i d).to in
    record {
      each = All-more (NoFurtherAt place (max far to)) rows i d l (All-weaker (NoFurtherAt place far) (NoFurtherAt place (max far to)) (λ row low k f. let m = low k f in omega (arith, m)) _ h.each) (λ _ _. omega arith);
      one = λ p. ⊎_elim (λ e. Any-here (FromAt place (max far to)) rows i d l (kind, from, sym e.0)) (λ e. let q : 0 < far = omega (arith, p, e.0) in Any-weaker (FromAt place far) (FromAt place (max far to)) _ (λ row w. (w.0, w.1, w.2 ∙ sym e.0)) (Any-more (FromAt place far) rows i d l (h.one q))) (max_cases far to);
    }

-- no row begins below the first place
pub IsFurthestBelow-none : (rows : List CatchRow) → IsFurthestBelow rows 0 0
IsFurthestBelow-none rows = record {
  each = λ k d l kind from. absurd (omega arith);
  one = λ p. absurd (omega arith);
}

-- one place more
pub IsFurthestBelow-more : (rows : List CatchRow) (place far at : ℕ) → IsFurthestBelow rows place far → IsFurthestAt rows place at → IsFurthestBelow rows (place + 1) (max at far)
IsFurthestBelow-more rows place far at b a = record {
  each = λ k d l kind from. ⊎_elim (λ lt. let m = b.each k d l kind lt in omega (arith, m)) (λ ge. let e : (get_or rows k d).from ≡ place = omega (arith, from, ge) in let m = a.each k d l kind e in omega (arith, m)) (cases_lt (get_or rows k d).from place);
  one = λ p. ⊎_elim (λ e. let q : 0 < far = omega (arith, p, e.0) in Any-weaker (FromBelow place far) (FromBelow (place + 1) (max at far)) rows (λ row w. (w.0, omega (arith, w.1), w.2 ∙ sym e.0)) (b.one q)) (λ e. let q : 0 < at = omega (arith, p, e.0) in Any-weaker (FromAt place at) (FromBelow (place + 1) (max at far)) rows (λ row w. (w.0, omega (arith, w.1), w.2 ∙ sym e.0)) (a.one q)) (max_cases at far);
}

-- the row that an ensure row's place is in, and what it shows
abbrev EnsureHolds : ℕ → CatchRow → Type 0
EnsureHolds place row = (row.kind ≡ catches.TheVariants.Ensure) × Holds row place

pub holds-below : (rows : List CatchRow) (place far : ℕ) → IsFurthestBelow rows (place + 1) far → place < far → Any (λ row. (row.kind ≡ catches.TheVariants.Ensure) × Holds row place) rows
holds-below rows place far b l =
    Any-weaker (FromBelow (place + 1) far) (EnsureHolds place) rows (λ row w. (w.0, (omega (arith, w.1), omega (arith, w.2, l)))) (b.one (omega arith))

pub below-holds : (rows : List CatchRow) (place far : ℕ) → IsFurthestBelow rows (place + 1) far → Any (λ row. (row.kind ≡ catches.TheVariants.Ensure) × Holds row place) rows → place < far
below-holds rows place far b a =
    let e = a.3 in
    let row = get_or rows a.0 a.1 in
    let w = subst (EnsureHolds place) (sym e) a.4 in
    let m = b.each a.0 a.1 a.2 w.0 (omega (arith, w.1)) in
    omega (arith, m, w.1)

pub AreFurthest-none : (rows : List CatchRow) (places : ℕ) → AreFurthest (take 0 rows) places (replicate places 0)
AreFurthest-none rows places = record {
  long = length-replicate places 0;
  each = λ place l. subst (λ far. IsFurthestAt (take 0 rows) place far) (sym (get_or-replicate places place 0 0 l)) (record {
    each = λ k d l kind from. absurd (omega (arith, l));
    one = λ p. absurd (omega (arith, p));
  });
}

pub AreFurthest-other : (rows : List CatchRow) (i places : ℕ) (ends : List ℕ) (d : CatchRow) → i < length rows → ((get_or rows i d).kind ≡ catches.TheVariants.Ensure → ⊥) → AreFurthest (take i rows) places ends → AreFurthest (take (i + 1) rows) places ends
AreFurthest-other rows i places ends d l other h = record {
  long = h.long;
  each = λ place p. IsFurthestAt-other rows i place _ d l (λ k f. other k) (h.each place p);
}

pub AreFurthest-row : (rows : List CatchRow) (i places : ℕ) (ends : List ℕ) (d : CatchRow) (far : ℕ) → i < length rows → (get_or rows i d).kind ≡ catches.TheVariants.Ensure → (get_or rows i d).from < places → far ≡ max (get_or ends (get_or rows i d).from 0) (get_or rows i d).to → AreFurthest (take i rows) places ends → AreFurthest (take (i + 1) rows) places (slice_set ends (get_or rows i d).from far)
AreFurthest-row rows i places ends d far l kind within is h =
    let from = (get_or rows i d).from in
    let e : from < length ends = omega (arith, within, h.long) in
    record {
      long = length-set ends from far ∙ h.long;
      each = λ place p. ⊎_elim
          (λ same. subst (λ n. IsFurthestAt (take (i + 1) rows) place n) (sym (ap (λ n. get_or (slice_set ends from far) n 0) same ∙ get_or-set_same ends from far 0 e ∙ is ∙ ap (λ n. max (get_or ends n 0) (get_or rows i d).to) (sym same))) (IsFurthestAt-row rows i place (get_or ends place 0) d l kind (sym same) (h.each place p)))
          (λ apart. subst (λ n. IsFurthestAt (take (i + 1) rows) place n) (sym (get_or-set_other ends from place far 0 apart)) (IsFurthestAt-other rows i place _ d l (λ k f. apart (sym f)) (h.each place p)))
          (cases_eq place from);
    }
