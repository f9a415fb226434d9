-- What a sound body says to one who runs it.
use Rattle.std.proofs.Common.{◌≡◌, ◌≢◌, ℕ, ◌+◌, ◌-◌, ◌<◌, ◌≤◌, List, length, Some, All, false, IsTrue, refl, sym, ap, ◌∙◌, subst, arith, ⊎_elim}
use Rattle.std.specs.Prelude.{IfSome, Contains, slice_get, unwrap_or, option_map}
use Rattle.std.proofs.lemmas.Bool.{cases_lt}
use Rattle.std.proofs.lemmas.List.Elements.{All-contains}
use Rattle.std.proofs.lemmas.Option.{same_Some, slice_get_within}
use Rattle.iseq_types.specs.declared.sequences.Sequence.{Sequence}
use Rattle.iseq_types.specs.declared.sequences.IndexRow.{IndexRow}
use Rattle.iseq_types.specs.declared.sequences.CatchRow.{CatchRow}
use Rattle.iseq_types.specs.declared.sequences.CatchKind.{CatchKind}
use Rattle.iseq_types.specs.declared.sequences.CatchKind as catches
use Rattle.iseq_types.specs.declared.sequences.Line.{Line}
use Rattle.iseq_types.specs.declared.sequences.SeqKind.{SeqKind}
use Rattle.iseq_types.specs.declared.sequences.SeqKind as kinds
use Rattle.iseq_types.specs.declared.instructions.Instr.{Instr}
use Rattle.iseq_types.specs.declared.instructions.Instr.TheVariants.{Jump, Leave, Throw}
use Rattle.iseq_types.specs.Instructions.{goes_on, is_ending, target_of, depth_after, takes_of}
use Rattle.iseq_types.specs.Index.{IsChild, AreIndexRows}
use Rattle.iseq_types.specs.Catch.{Holds}
use Rattle.iseq_types.specs.Ways.{Way, enters, catches_on, retries, follows, jumps}
use Rattle.iseq_types.specs.Depths.{KeepsDepths}
use Rattle.iseq_types.specs.Sound.{CountsLocals, EachInstr, EachThrow, EndsRight, FindsLocal, HasKnownOperands, IsInside, IsOrdered, IsSound, KeepsDepth, NamesChildren, SeqIsRight, SpreadsBelow, kind_of}
use Rattle.iseq_types.proofs.Elements.{All-at}
use Rattle.iseq_types.proofs.Outward.{parent_below}

-- ---- where an instruction leads

pub falls : (i : Instr) → IsTrue (goes_on i) → ((n : ℕ) → i ≢ Throw n) → is_ending i ≡ false
falls (Jump t) on no' = absurd cc
falls (Throw n) on no' = absurd (no' n refl)
falls Leave on no' = absurd cc
falls _ on no' = refl

-- what a body may not end with leads to the next instruction
passes : (i : Instr) → is_ending i ≡ false → IsTrue (goes_on i)
passes (Jump t) e = absurd cc
passes (Throw n) e = absurd cc
passes Leave e = absurd cc
passes _ e = refl

pub code_ends : (seq : Sequence) (kind : SeqKind) → EndsRight seq kind → 0 < length seq.code
code_ends seq kind ends =
    let last = ends.last in
    let l = slice_get_within seq.code (length seq.code - 1) last.0 last.1 in
    omega (arith, l)

pub sound_from : (seq : Sequence) (rows : List IndexRow) (id : ℕ) → KeepsDepths seq (kind_of rows id) → IsInside seq → All IsOrdered seq.rows → EndsRight seq (kind_of rows id) → EachInstr seq (FindsLocal rows id) → NamesChildren seq rows id → EachInstr seq SpreadsBelow → EachInstr seq HasKnownOperands → CountsLocals seq rows id → EachThrow seq (kind_of rows id) → IsSound seq rows id
sound_from seq rows id depths inside ordered ends locals children splats operands counted throws = record {
  enough = depths.enough;
  one_depth = depths.one_depth;
  starts = depths.starts;
  inside = inside;
  ordered = ordered;
  kept = depths.kept;
  ends = ends;
  locals = locals;
  children = children;
  splats = splats;
  operands = operands;
  counted = counted;
  throws = throws;
}

module _ (seq : Sequence) (rows : List IndexRow) (id : ℕ) (sound : IsSound seq rows id) where
  pub has_code : 0 < length seq.code
  has_code = code_ends seq (kind_of rows id) sound.ends

  pub entry_way : (entry : ℕ) → Contains seq.entries entry → (entry < length seq.code) × Way seq (kind_of rows id) entry 0
  entry_way entry c = (All-contains (λ e. e < length seq.code) seq.entries entry sound.inside.entries c, enters entry c)

  pub next_way : (place depth : ℕ) (line : Line) → Way seq (kind_of rows id) place depth → slice_get seq.code place ≡ Some line → is_ending line.instr ≡ false → (place + 1 < length seq.code) × Way seq (kind_of rows id) (place + 1) (depth_after line.instr depth)
  next_way place depth line way at other =
      (⊎_elim (λ l. l) (λ ge. absurd (at_end ge)) (cases_lt (place + 1) (length seq.code)), follows place depth line way at (passes line.instr other))
    where
      at_end : length seq.code ≤ place + 1 → ⊥
      at_end ge =
          let last = sound.ends.last in
          let l = slice_get_within seq.code place line at in
          let e : length seq.code - 1 ≡ place = omega (arith, l, ge) in
          let same = same_Some last.0 line (sym last.1 ∙ ap (slice_get seq.code) e ∙ at) in
          let ends : IsTrue (is_ending line.instr) = subst (λ (x : Line). IsTrue (is_ending x.instr)) same last.2 in
          cc (ends, other)

  pub jump_way : (place depth target : ℕ) (line : Line) → Way seq (kind_of rows id) place depth → slice_get seq.code place ≡ Some line → target_of line.instr ≡ Some target → (target < length seq.code) × Way seq (kind_of rows id) target (depth_after line.instr depth)
  jump_way place depth target line way at is =
      let all = All-at (λ (x : Line). IfSome (target_of x.instr) (λ t. t < length seq.code)) seq.code place line sound.inside.targets at in
      (subst (λ found. IfSome found (λ t. t < length seq.code)) is all, jumps place depth target line way at is)

  -- ---- rows

  pub row_spared : (place depth : ℕ) (row : CatchRow) (line : Line) → Contains seq.rows row → Holds row place → Way seq (kind_of rows id) place depth → slice_get seq.code place ≡ Some line → row.sp + takes_of line.instr ≤ depth
  row_spared place depth row line c holds way at =
      (All-contains (KeepsDepth seq (kind_of rows id)) seq.rows row sound.kept c).spared place depth line holds way at

  pub row_behind : (place : ℕ) (row : CatchRow) → Contains seq.rows row → Holds row place → place < row.cont
  row_behind place row c holds =
      let o = All-contains IsOrdered seq.rows row sound.ordered c in
      omega (arith, o.1, holds.1)

  row_inside : (row : CatchRow) → Contains seq.rows row → (row.from < length seq.code) × (row.to ≤ length seq.code) × (row.cont < length seq.code)
  row_inside row c = All-contains (λ (row : CatchRow). (row.from < length seq.code) × (row.to ≤ length seq.code) × (row.cont < length seq.code)) seq.rows row sound.inside.rows c

  pub row_cont_way : (row : CatchRow) → Contains seq.rows row → (row.cont < length seq.code) × Way seq (kind_of rows id) row.cont (row.sp + 1)
  row_cont_way row c = ((row_inside row c).2, catches_on row c)

  pub row_from_way : (row : CatchRow) → Contains seq.rows row → row.kind ≡ catches.TheVariants.Rescue → (row.from < length seq.code) × Way seq (kind_of rows id) row.from row.sp
  row_from_way row c is = ((row_inside row c).0, retries row c is)

  row_child : (row : CatchRow) → Contains seq.rows row → (kind : CatchKind) → row.kind ≡ kind → SeqIsRight rows id kind row.seq
  row_child row c kind is =
      subst (λ k. SeqIsRight rows id k row.seq) is (All-contains (λ (row : CatchRow). SeqIsRight rows id row.kind row.seq) seq.rows row sound.children.catches c)

  pub row_rescue : (row : CatchRow) → Contains seq.rows row → row.kind ≡ catches.TheVariants.Rescue → IsChild rows id kinds.TheVariants.Rescue row.seq
  row_rescue row c is = row_child row c catches.TheVariants.Rescue is

  pub row_ensure : (row : CatchRow) → Contains seq.rows row → row.kind ≡ catches.TheVariants.Ensure → IsChild rows id kinds.TheVariants.Ensure row.seq
  row_ensure row c is = row_child row c catches.TheVariants.Ensure is

-- ---- children

pub child_kind : (rows : List IndexRow) (parent id : ℕ) (kind : SeqKind) → IsChild rows parent kind id → (id < length rows) × (kind_of rows id ≡ kind)
child_kind rows parent id kind c =
    (slice_get_within rows id c.0 c.1, ap (λ found. unwrap_or (option_map (λ (row : IndexRow). row.kind) found) kinds.TheVariants.File) c.1 ∙ c.2)

pub child_later : (rows : List IndexRow) (parent id : ℕ) (kind : SeqKind) → AreIndexRows rows → IsChild rows parent kind id → kind ≢ kinds.TheVariants.File → parent < id
child_later rows parent id kind index c other =
    subst (λ n. n < id) c.3 (parent_below rows id c.0 index c.1 (λ file. other (sym c.2 ∙ file)))
