-- A throw that may stand where it stands, by the furthest end of the ensure rows that begin before.
use Rattle.std.proofs.Common.{◌≡◌, ℕ, ◌+◌, ◌<◌, List, Some, length, get_or, max, refl, sym, ap, ◌∙◌, subst, ⊎_elim, arith}
use Rattle.std.specs.Prelude.{slice_get, nat_lt}
use Rattle.std.proofs.lemmas.Bool.{ltb-true, lt-ltb, cases_lt}
use Rattle.std.proofs.lemmas.List.{get_or_read}
use Rattle.std.proofs.lemmas.Option.{same_Some, slice_get-get_or}
use Rattle.iseq_types.specs.declared.sequences.Sequence.{Sequence}
use Rattle.iseq_types.specs.declared.sequences.SeqKind.{SeqKind}
use Rattle.iseq_types.specs.declared.sequences.CatchRow.{CatchRow}
use Rattle.iseq_types.specs.declared.sequences.Line.{Line}
use Rattle.iseq_types.specs.declared.instructions.Instr.{Instr}
use Rattle.iseq_types.specs.declared.instructions.Instr.TheVariants.{Throw}
use Rattle.iseq_types.specs.Furthest.{IsFurthestBelow, AreFurthest}
use Rattle.iseq_types.specs.Sound.{ThrowsRight, EachThrow}
use Rattle.iseq_types.specs.Throws.{IsRightThrow, IsRightNumber}
use Rattle.iseq_types.proofs.Ends.{holds-below, below-holds, IsFurthestBelow-more}

pub throw_by_furthest : (seq : Sequence) (kind : SeqKind) (place far : ℕ) (i : Instr) (n : ℕ) → IsFurthestBelow seq.rows (place + 1) far → IsRightThrow kind (nat_lt place far) i → i ≡ Throw n → ThrowsRight seq kind place n
throw_by_furthest seq kind place far i n b right is =
    let r : IsRightNumber kind (nat_lt place far) n = subst (IsRightThrow kind (nat_lt place far)) is right in
    record {
      number = r.number;
      pending = r.pending;
      ensured = λ six. holds-below seq.rows place far b (ltb-true place far (r.held six));
    }

pub furthest_by_throw : (seq : Sequence) (kind : SeqKind) (place far : ℕ) (i : Instr) → IsFurthestBelow seq.rows (place + 1) far → ((n : ℕ) → i ≡ Throw n → ThrowsRight seq kind place n) → IsRightThrow kind (nat_lt place far) i
furthest_by_throw seq kind place far (Throw n) b right =
    let r = right n refl in
    record {
      number = r.number;
      pending = r.pending;
      held = λ six. lt-ltb place far (below-holds seq.rows place far b (r.ensured six));
    }
furthest_by_throw seq kind place far _ b right = tt

-- One place more: its throw is right as the check says, by the greater of the furthest end so far and that of the rows there.
pub furthest_here : (seq : Sequence) (ends : List ℕ) (place furthest at read : ℕ) → place < length seq.code → AreFurthest seq.rows (length seq.code) ends → IsFurthestBelow seq.rows place furthest → read ≡ get_or ends place read → at ≡ max read furthest → IsFurthestBelow seq.rows (place + 1) at
furthest_here seq ends place furthest at read l all b e m =
    let r = get_or_read ends place read (omega (arith, l, all.long)) e 0 in
    let same : max (get_or ends place 0) furthest ≡ at = ap (λ n. max n furthest) (sym r) ∙ sym m in
    subst (λ n. IsFurthestBelow seq.rows (place + 1) n) same (IsFurthestBelow-more seq.rows place furthest (get_or ends place 0) b (all.each place l))

pub throws_more : (seq : Sequence) (kind : SeqKind) (code : List Line) (at far : ℕ) (d : Line) → code ≡ seq.code → at < length seq.code → IsFurthestBelow seq.rows (at + 1) far → IsRightThrow kind (nat_lt at far) (get_or code at d).instr → ((place n : ℕ) (line : Line) → place < at → slice_get seq.code place ≡ Some line → line.instr ≡ Throw n → ThrowsRight seq kind place n) → (place n : ℕ) (line : Line) → place < at + 1 → slice_get seq.code place ≡ Some line → line.instr ≡ Throw n → ThrowsRight seq kind place n
throws_more seq kind code at far d same within b right before place n line l found is =
    ⊎_elim
    (λ lt. before place n line lt found is)
    (λ ge.
    let here : at ≡ place = omega (arith, l, ge) in
    let read = slice_get-get_or seq.code at d within in
    let one = same_Some (get_or seq.code at d) line (sym read ∙ ap (slice_get seq.code) here ∙ found) in
    let i = ap (λ (c : List Line). (get_or c at d).instr) same ∙ ap (λ (x : Line). x.instr) one ∙ is in
    subst (λ p. ThrowsRight seq kind p n) here (throw_by_furthest seq kind at far (get_or code at d).instr n b right i))
    (cases_lt place at)

pub throw_is_right : (seq : Sequence) (kind : SeqKind) (code : List Line) (at far : ℕ) (d : Line) → code ≡ seq.code → at < length seq.code → IsFurthestBelow seq.rows (at + 1) far → EachThrow seq kind → IsRightThrow kind (nat_lt at far) (get_or code at d).instr
throw_is_right seq kind code at far d same within b each =
    furthest_by_throw seq kind at far (get_or code at d).instr b (λ n is. each at n (get_or seq.code at d) (slice_get-get_or seq.code at d within) (ap (λ (c : List Line). (get_or c at d).instr) (sym same) ∙ is))

pub same_furthest : (rows rows' : List CatchRow) (code code' : List Line) (ends : List ℕ) → rows' ≡ rows → code' ≡ code → AreFurthest rows' (length code') ends → AreFurthest rows (length code) ends
same_furthest rows rows' code code' ends e f h = rw (← e, ← f) h
