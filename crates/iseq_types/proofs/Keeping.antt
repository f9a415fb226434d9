-- The list of depths has the depth of each way, and the numbers over the rows' ranges say that the rows keep theirs.
use Rattle.std.proofs.Common.{◌≡◌, ℕ, ◌+◌, ◌^◌, ◌<◌, ◌≤◌, List, length, get_or, map, Option, Some, None, All, sym, ap, ◌∙◌, subst, arith, Bool, IsTrue}
use Rattle.std.specs.Prelude.{◌↔◌, slice_get}
use Rattle.std.proofs.lemmas.List.{get_or-map, length-map}
use Rattle.std.proofs.lemmas.List.Elements.{All-contains, All-map, All-weaker}
use Rattle.std.proofs.lemmas.Option.{slice_get_within, slice_get-get_or}
use Rattle.iseq_types.specs.declared.sequences.Sequence.{Sequence}
use Rattle.iseq_types.specs.declared.sequences.SeqKind.{SeqKind}
use Rattle.iseq_types.specs.declared.sequences.CatchRow.{CatchRow}
use Rattle.iseq_types.specs.declared.sequences.Line.{Line}
use Rattle.iseq_types.specs.declared.instructions.Instr.{Instr}
use Rattle.iseq_types.specs.declared.instructions.Instr.TheVariants.{Nop, Dup, TopN, SetN}
use Rattle.iseq_types.specs.declared.spans.Span.{Span}
use Rattle.iseq_types.specs.Instructions.{needs_of, takes_of}
use Rattle.iseq_types.specs.Ways.{Way, begins, enters, catches_on, retries, follows, jumps, start_depth}
use Rattle.iseq_types.specs.Catch.{Holds}
use Rattle.iseq_types.specs.Sound.{IsInside, IsOrdered, KeepsDepth}
use Rattle.iseq_types.specs.Spans.{IsWithin, HoldsOver}
use Rattle.iseq_types.specs.Depths.{DepthAt, HasRow, CoversWays, KeepsFloor, IsTable, AreRooms, span_of, KeepsDepths}
use Rattle.iseq_types.proofs.Reaching.{one_depth_at}

pub takes-needs : (i : Instr) → takes_of i ≤ needs_of i
takes-needs Dup = omega arith
takes-needs (TopN n) = omega arith
takes-needs (SetN n) = omega arith
takes-needs _ = omega arith

-- each way to a place of the body is in the list
pub covered_way : (seq : Sequence) (kind : SeqKind) (found : List (Option ℕ)) → CoversWays seq kind found → (place depth : ℕ) → Way seq kind place depth → place < length seq.code → DepthAt found place depth
covered_way seq kind found t _ _ begins l = t.first
covered_way seq kind found t _ _ (enters place c) l = All-contains (λ entry. DepthAt found entry 0) seq.entries place t.entries c
covered_way seq kind found t _ _ (catches_on row c) l = (All-contains (HasRow found) seq.rows row t.rows c).cont
covered_way seq kind found t _ _ (retries row c k) l = (All-contains (HasRow found) seq.rows row t.rows c).from k
covered_way seq kind found t _ _ (follows place depth line way at goes) l =
    (t.leads place depth line (covered_way seq kind found t place depth way (slice_get_within seq.code place line at)) at).next goes l
covered_way seq kind found t _ _ (jumps place depth target line way at is) l =
    (t.leads place depth line (covered_way seq kind found t place depth way (slice_get_within seq.code place line at)) at).jump target is

pub table_takes : (seq : Sequence) (kind : SeqKind) (found : List (Option ℕ)) → IsTable seq kind found → (place depth : ℕ) (line : Line) → DepthAt found place depth → slice_get seq.code place ≡ Some line → takes_of line.instr ≤ depth
table_takes seq kind found t place depth line at is =
    let a = (t.covers.leads place depth line at is).enough in
    let b = takes-needs line.instr in
    omega (arith, a, b)

-- a list that covers the ways, with floors that it keeps, says what a sound body is to have
module _ (seq : Sequence) (kind : SeqKind) (found : List (Option ℕ)) (t : CoversWays seq kind found) where
  way_at : (place depth : ℕ) → Way seq kind place depth → place < length seq.code → DepthAt found place depth
  way_at place depth way l = covered_way seq kind found t place depth way l

  spared_by : (row : CatchRow) → KeepsFloor seq found row → (place depth : ℕ) (line : Line) → Holds row place → Way seq kind place depth → slice_get seq.code place ≡ Some line → row.sp + takes_of line.instr ≤ depth
  spared_by row floor place depth line holds way is =
      floor place depth line holds (way_at place depth way (slice_get_within seq.code place line is)) is

  row_kept : (row : CatchRow) → HasRow found row → row.from < length seq.code → row.to ≤ length seq.code → row.cont < length seq.code → KeepsFloor seq found row → KeepsDepth seq kind row
  row_kept row has from to cont floor = record {
    deep = λ place depth holds way.
        let d : Line = record { line = 0; instr = Nop } in
        let l : place < length seq.code = omega (arith, holds.1, to) in
        let s = spared_by row floor place depth (get_or seq.code place d) holds way (slice_get-get_or seq.code place d l) in
        omega (arith, s);
    spared = λ place depth line holds way is. spared_by row floor place depth line holds way is;
    from = λ k depth way. one_depth_at found row.from depth row.sp (way_at row.from depth way from) (has.from k);
    cont = λ depth way. one_depth_at found row.cont depth (row.sp + 1) (way_at row.cont depth way cont) has.cont;
  }

  pub keeps_by : 0 < length seq.code → IsInside seq → All (KeepsFloor seq found) seq.rows → KeepsDepths seq kind
  keeps_by some inside floors = record {
    enough = λ place depth line way is. (t.leads place depth line (way_at place depth way (slice_get_within seq.code place line is)) is).enough;
    one_depth = λ place depth other l a b. one_depth_at found place depth other (way_at place depth a l) (way_at place other b l);
    starts = record {
      first = λ depth way. one_depth_at found 0 depth (start_depth kind) (way_at 0 depth way some) t.first;
      entries = λ k d l depth way. one_depth_at found (get_or seq.entries k d) depth 0 (way_at (get_or seq.entries k d) depth way (inside.entries k d l)) (t.entries k d l);
    };
    kept = λ k d l. let in' = inside.rows k d l in row_kept (get_or seq.rows k d) (t.rows k d l) in'.0 in'.1 in'.2 (floors k d l);
  }

module _ (seq : Sequence) (kind : SeqKind) (found : List (Option ℕ)) (rooms : List ℕ) (t : IsTable seq kind found) (r : AreRooms seq.code found rooms) where
  floor_by : (row : CatchRow) → HoldsOver rooms (span_of row) → KeepsFloor seq found row
  floor_by row over place depth line holds at is =
      let room = r.each place line (Some depth) is at in
      let low = over place holds.0 holds.1 in
      let takes = table_takes seq kind found t place depth line at is in
      omega (arith, room, low, takes)

  holds_by : (row : CatchRow) → row.sp < 2 ^ 64 → row.to ≤ length seq.code → KeepsDepth seq kind row → HoldsOver rooms (span_of row)
  holds_by row small below kept place low high =
      let d : Line = record { line = 0; instr = Nop } in
      let l : place < length seq.code = omega (arith, high, below) in
      let is = slice_get-get_or seq.code place d l in
      let m : place < length found = omega (arith, l, t.long) in
      by_depth (get_or seq.code place d) is (get_or found place None) (slice_get-get_or found place None m)
    where
      by_depth : (line : Line) → slice_get seq.code place ≡ Some line → (depth : Option ℕ) → slice_get found place ≡ Some depth → row.sp ≤ get_or rooms place 0
      by_depth line is None at = let e = r.each place line None is at in omega (arith, e, small)
      by_depth line is (Some depth) at =
          let e = r.each place line (Some depth) is at in
          let s = kept.spared place depth line (low, high) (t.ways place depth at) is in
          omega (arith, e, s)

  over_by : IsInside seq → All (λ row. row.sp < 2 ^ 64) seq.rows → KeepsDepths seq kind → All (λ row. HoldsOver rooms (span_of row)) seq.rows
  over_by inside small keeps = λ k d l. holds_by (get_or seq.rows k d) (small k d l) (inside.rows k d l).1 (keeps.kept k d l)

-- the spans are those of the rows
over_map : (rooms : List ℕ) (rows : List CatchRow) → All (HoldsOver rooms) (map span_of rows) ↔ All (λ row. HoldsOver rooms (span_of row)) rows
over_map rooms rows = (
  λ all k d l. subst (HoldsOver rooms) (get_or-map span_of rows k d (span_of d) l) (all k (span_of d) (omega (arith, l, length-map rows span_of))),
  λ all. All-map (HoldsOver rooms) span_of rows all,
)

pub spans_within : (seq : Sequence) (rooms : List ℕ) (spans : List Span) (rows : List CatchRow) → rows ≡ seq.rows → spans ≡ map span_of rows → length rooms ≡ length seq.code → IsInside seq → All IsOrdered seq.rows → All (IsWithin (length rooms)) spans
spans_within seq rooms spans rows e is long inside ordered =
    let P : Span → Type 0 = λ span. IsWithin (length rooms) span in
    let each : All (λ row. P (span_of row)) seq.rows = λ k d l. ((ordered k d l).0, omega (arith, (inside.rows k d l).1, long)) in
    subst (λ (all : List Span). All P all) (sym (is ∙ ap (map span_of) e)) (All-map P span_of seq.rows each)

pub keeps_by_spans : (seq : Sequence) (kind : SeqKind) (found : List (Option ℕ)) (rooms : List ℕ) (spans : List Span) (rows : List CatchRow) → IsTable seq kind found → AreRooms seq.code found rooms → rows ≡ seq.rows → spans ≡ map span_of rows → All (λ row. row.sp < 2 ^ 64) rows → 0 < length seq.code → IsInside seq → (yes : Bool) → IsTrue yes ↔ All (HoldsOver rooms) spans → IsTrue yes ↔ KeepsDepths seq kind
keeps_by_spans seq kind found rooms spans rows t r e is small some inside answer h =
    let same : spans ≡ map span_of seq.rows = is ∙ ap (map span_of) e in
    let small' : All (λ row. row.sp < 2 ^ 64) seq.rows = subst (λ (all : List CatchRow). All (λ row. row.sp < 2 ^ 64) all) e small in (
      λ y. keeps_by seq kind found t.covers some inside (All-weaker (λ row. HoldsOver rooms (span_of row)) (KeepsFloor seq found) (floor_by seq kind found rooms t r) seq.rows ((over_map rooms seq.rows).0 (subst (λ (all : List Span). All (HoldsOver rooms) all) same (h.0 y)))),
      λ keeps. h.1 (subst (λ (all : List Span). All (HoldsOver rooms) all) (sym same) ((over_map rooms seq.rows).1 (over_by seq kind found rooms t r inside small' keeps))),
    )

pub same_rooms : (code code' : List Line) (found found' : List (Option ℕ)) (rooms : List ℕ) → code' ≡ code → found' ≡ found → AreRooms code' found' rooms → AreRooms code found rooms
same_rooms code code' found found' rooms a b r = subst (λ x. AreRooms x found rooms) a (subst (λ x. AreRooms code' x rooms) b r)
