-- The sequence of a small file is sound.
use Rattle.std.proofs.Common.{◌≡◌, ℕ, zero, suc, ◌-◌, ◌<◌, ◌≤◌, Some, None, List, [], ◌∷◌, ◌++◌, length, All, refl, sym, ap, subst, ◌∙◌, arith, add-one, length-append}
use Rattle.std.specs.Prelude.{IfSome, slice_get}
use Rattle.std.specs.List.{AllByRecursion}
use Rattle.std.proofs.lemmas.List.Elements.{All-from_recursion}
use Rattle.iseq_types.specs.declared.instructions.Instr.{Instr}
use Rattle.iseq_types.specs.declared.instructions.Instr.TheVariants.{Pop, Dup, PutNil, PutSelf, PutObject, PutString, GetLocal, SetLocal, Send, Leave}
use Rattle.iseq_types.specs.declared.sequences.SeqKind.TheVariants as kinds
use Rattle.iseq_types.specs.declared.sequences.Line.{Line as CodeLine}
use Rattle.iseq_types.specs.declared.sequences.Sequence.{Sequence}
use Rattle.iseq_types.specs.declared.sequences.IndexRow.{IndexRow}
use Rattle.iseq_types.specs.declared.sequences.Unit.{Unit as CompiledUnit}
use Rattle.iseq_types.specs.Index.{Outward, own, HasLocal}
use Rattle.iseq_types.specs.Instructions.{needs_of, target_of, depth_after}
use Rattle.iseq_types.specs.Ways.{Way, begins, enters, catches_on, retries, follows, jumps}
use Rattle.iseq_types.specs.Sound.{EachThrow, EndsRight, FindsLocal, HasKnownOperands, InstrNamesChild, IsSound, SpreadsBelow}
use Rattle.iseq_dump.specs.Dump.{HasSoundBodies}
use Rattle.small_form.specs.declared.tree.Line.{Line}
use Rattle.small_form.specs.declared.tree.SmallFile.{SmallFile}
use Rattle.cache_meaning.specs.SmallUnit.{locals_behind, numbered, at_line, statements_code, file_sequence, file_row, unit_of_program, unit_of}
use Rattle.cache_meaning.proofs.SmallDepths.{code_goes, depth_at, depth_next, finds_enough}
use Rattle.cache_meaning.proofs.SmallInstructions.{IsSmallInstr, IsSmallLine, code_small}
use Rattle.cache_meaning.proofs.SmallLines.{IsSmallProgram}
use Rattle.cache_meaning.proofs.SmallUnits.{program_behind}

-- ---- what each instruction is

small_at : (count : ℕ) (code : List CodeLine) → AllByRecursion (IsSmallLine count) code → (place : ℕ) (line : CodeLine) → slice_get code place ≡ Some line → IsSmallLine count line
small_at count [] are place line e = absurd cc
small_at count (l ∷ code) are zero line e = let same : l ≡ line = cc in subst (IsSmallLine count) same are.0
small_at count (l ∷ code) are (suc place) line e = small_at count code are.1 place line e

instr_of_each : (count : ℕ) (P : Instr → Type 0) → ((i : Instr) → IsSmallInstr count i → P i) → (code : List CodeLine) → AllByRecursion (IsSmallLine count) code → AllByRecursion (λ line. P line.instr) code
instr_of_each count P h [] are = tt
instr_of_each count P h (line ∷ code) are = (h line.instr are.0.instr, instr_of_each count P h code are.1)

each_instr : (count : ℕ) (P : Instr → Type 0) → ((i : Instr) → IsSmallInstr count i → P i) → (code : List CodeLine) → AllByRecursion (IsSmallLine count) code → All (λ line. P line.instr) code
each_instr count P h code are = All-from_recursion (λ line. P line.instr) code (instr_of_each count P h code are)

no_target : (count : ℕ) (i : Instr) → IsSmallInstr count i → target_of i ≡ None
no_target count Pop is = refl
no_target count Dup is = refl
no_target count PutNil is = refl
no_target count PutSelf is = refl
no_target count (PutObject value) is = refl
no_target count (PutString text) is = refl
no_target count (GetLocal slot level) is = refl
no_target count (SetLocal slot level) is = refl
no_target count (Send name n splats flags q) is = refl
no_target count Leave is = refl
no_target count _ is = absurd is

target_inside : (count places : ℕ) (i : Instr) → IsSmallInstr count i → IfSome (target_of i) (λ target. target < places)
target_inside count places i is = rw (no_target count i is) tt

-- a slot of the file's own locals
own_local : (row : IndexRow) (slot level : ℕ) → row.kind ≡ kinds.File → slot < row.locals → level ≡ 0 → HasLocal (row ∷ []) 0 slot level
own_local row slot level kind within e =
    let here : Outward (row ∷ []) 0 0 0 = own 0 row refl (rw kind refl) in
    rw e (0, row, here, refl, within)

finds_local : (row : IndexRow) → row.kind ≡ kinds.File → (i : Instr) → IsSmallInstr row.locals i → FindsLocal (row ∷ []) 0 i
finds_local row kind (GetLocal slot level) is = own_local row slot level kind is.within is.own
finds_local row kind (SetLocal slot level) is = own_local row slot level kind is.within is.own
finds_local row kind Pop is = tt
finds_local row kind Dup is = tt
finds_local row kind PutNil is = tt
finds_local row kind PutSelf is = tt
finds_local row kind (PutObject value) is = tt
finds_local row kind (PutString text) is = tt
finds_local row kind (Send name n splats flags q) is = tt
finds_local row kind Leave is = tt
finds_local row kind _ is = absurd is

names_no_child : (rows : List IndexRow) (count : ℕ) (i : Instr) → IsSmallInstr count i → InstrNamesChild rows 0 i
names_no_child rows count (Send name n splats flags q) is = λ some. absurd (some is.no_block)
names_no_child rows count Pop is = tt
names_no_child rows count Dup is = tt
names_no_child rows count PutNil is = tt
names_no_child rows count PutSelf is = tt
names_no_child rows count (PutObject value) is = tt
names_no_child rows count (PutString text) is = tt
names_no_child rows count (GetLocal slot level) is = tt
names_no_child rows count (SetLocal slot level) is = tt
names_no_child rows count Leave is = tt
names_no_child rows count _ is = absurd is

spreads_none : (count : ℕ) (i : Instr) → IsSmallInstr count i → SpreadsBelow i
spreads_none count (Send name n splats flags q) is = subst (λ (places : List ℕ). All (λ place. place < n) places) (sym is.no_splats) (λ k d lt. absurd (omega (arith, lt)))
spreads_none count Pop is = tt
spreads_none count Dup is = tt
spreads_none count PutNil is = tt
spreads_none count PutSelf is = tt
spreads_none count (PutObject value) is = tt
spreads_none count (PutString text) is = tt
spreads_none count (GetLocal slot level) is = tt
spreads_none count (SetLocal slot level) is = tt
spreads_none count Leave is = tt
spreads_none count _ is = absurd is

operands_known : (count : ℕ) (i : Instr) → IsSmallInstr count i → HasKnownOperands i
operands_known count (Send name n splats flags q) is = omega (arith, is.self_or_none)
operands_known count Pop is = tt
operands_known count Dup is = tt
operands_known count PutNil is = tt
operands_known count PutSelf is = tt
operands_known count (PutObject value) is = tt
operands_known count (PutString text) is = tt
operands_known count (GetLocal slot level) is = tt
operands_known count (SetLocal slot level) is = tt
operands_known count Leave is = tt
operands_known count _ is = absurd is

-- ---- the last one

last_at : (code : List CodeLine) (line : CodeLine) → slice_get (code ++ line ∷ []) (length (code ++ line ∷ []) - 1) ≡ Some line
last_at code line = at_end code (length (code ++ line ∷ []) - 1) (omega (arith, length-append code (line ∷ [])))
  where
    at_end : (xs : List CodeLine) (k : ℕ) → k ≡ length xs → slice_get (xs ++ line ∷ []) k ≡ Some line
    at_end [] k e = rw e refl
    at_end (x ∷ xs) k e = rw e (at_end xs (length xs) refl)

-- ---- the ways through it

module _ (lines : List Line) (small : IsSmallProgram lines) where
  way_depth : (place depth : ℕ) → Way (file_sequence lines) kinds.File place depth → depth ≡ depth_at 0 (file_sequence lines).code place
  way_depth _ _ begins = refl
  way_depth _ _ (enters place c) = absurd (omega (arith, c.1))
  way_depth _ _ (catches_on row c) = absurd (omega (arith, c.1))
  way_depth _ _ (retries row c k) = absurd (omega (arith, c.1))
  way_depth _ _ (follows place depth line way at goes) =
      ap (depth_after line.instr) (way_depth place depth way) ∙ sym (depth_next (file_sequence lines).code 0 place line at) ∙ ap (depth_at 0 (file_sequence lines).code) (sym (add-one place))
  way_depth _ _ (jumps place depth target line way at is) =
      let none = no_target (length (locals_behind [] lines)) line.instr (small_at (length (locals_behind [] lines)) (file_sequence lines).code (code_small lines small) place line at).instr in
      absurd (cc (none, is))

  throws_none : EachThrow (file_sequence lines) kinds.File
  throws_none place n line at is =
      let are = small_at (length (locals_behind [] lines)) (file_sequence lines).code (code_small lines small) place line at in
      let none : ⊥ = subst (IsSmallInstr (length (locals_behind [] lines))) is are.instr in
      absurd none

  ends : EndsRight (file_sequence lines) kinds.File
  ends = record {
    last = (at_line 1 Leave, last_at (statements_code (locals_behind [] lines) (numbered 1 lines)) (at_line 1 Leave), refl);
    leave = λ e. absurd cc;
  }

  file_sound : IsSound (file_sequence lines) (file_row lines ∷ []) 0
  file_sound =
      let locals = locals_behind [] lines in
      let count = length locals in
      let rows : List IndexRow = file_row lines ∷ [] in
      let code = (file_sequence lines).code in
      let are = code_small lines small in
      record {
        enough = λ place depth line way at. subst (λ d. needs_of line.instr ≤ d) (sym (way_depth place depth way)) (finds_enough code 0 0 (code_goes lines) place line at);
        one_depth = λ place depth other lt way way'. way_depth place depth way ∙ sym (way_depth place other way');
        starts = record { first = λ depth way. way_depth 0 depth way; entries = λ k d lt. absurd (omega (arith, lt)) };
        inside = record { targets = each_instr count _ (target_inside count (length code)) code are; entries = λ k d lt. absurd (omega (arith, lt)); rows = λ k d lt. absurd (omega (arith, lt)) };
        ordered = λ k d lt. absurd (omega (arith, lt));
        kept = λ k d lt. absurd (omega (arith, lt));
        ends = ends;
        locals = each_instr count (FindsLocal rows 0) (finds_local (file_row lines) refl) code are;
        children = record { instructions = each_instr count (InstrNamesChild rows 0) (names_no_child rows count) code are; catches = λ k d lt. absurd (omega (arith, lt)) };
        splats = each_instr count SpreadsBelow (spreads_none count) code are;
        operands = each_instr count HasKnownOperands (operands_known count) code are;
        counted = record { locals = refl; parameters = omega arith };
        throws = throws_none;
      }

-- ---- the unit

sound_at : (path : List ℕ) (file : SmallFile) → IsSmallProgram file.lines → HasSoundBodies (unit_of_program path file)
sound_at path file small zero body e = let same : file_sequence file.lines ≡ body = cc in subst (λ (b : Sequence). IsSound b (file_row file.lines ∷ []) 0) same (file_sound file.lines small)
sound_at path file small (suc id) body e = absurd cc

pub sound_by : (path text : List ℕ) (u : CompiledUnit) → unit_of path text ≡ Some u → HasSoundBodies u
sound_by path text u e = let p = program_behind path text u e in subst HasSoundBodies p.2 (sound_at path p.0 p.1)
