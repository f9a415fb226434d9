-- What makes a body sound, in thirteen conditions.
use Rattle.std.specs.Prelude.{◌≡◌, ◌≢◌, ◌⊎◌, ◌+◌, ◌-◌, ◌%◌, ◌<◌, ◌≤◌, ℕ, List, Some, Bool, IsTrue, IfSome, All, Any, length, slice_get, unwrap_or, option_map, ⊤, if◌then◌else◌}
use Rattle.iseq_types.specs.declared.sequences.Sequence.{Sequence}
use Rattle.iseq_types.specs.declared.sequences.IndexRow.{IndexRow}
use Rattle.iseq_types.specs.declared.sequences.CatchRow.{CatchRow}
use Rattle.iseq_types.specs.declared.sequences.Line.{Line}
use Rattle.iseq_types.specs.declared.sequences.SeqKind.{SeqKind}
use Rattle.iseq_types.specs.declared.sequences.SeqKind as kinds
use Rattle.iseq_types.specs.declared.sequences.CatchKind as catches
use Rattle.iseq_types.specs.declared.sequences.CatchKind.{CatchKind}
use Rattle.iseq_types.specs.declared.instructions.Instr.{Instr}
use Rattle.iseq_types.specs.declared.instructions.Instr.TheVariants.{GetLocal, SetLocal, OptGetConstantPath, NewArray, NewHash, NewRange, Send, InvokeSuper, InvokeBlock, DefineMethod, DefineClass, Throw, Leave}
use Rattle.iseq_types.specs.Instructions.{needs_of, takes_of, target_of, is_ending}
use Rattle.iseq_types.specs.Index.{IsChild, HasLocal}
use Rattle.iseq_types.specs.Ways.{Way, start_depth}
use Rattle.iseq_types.specs.Catch.{Holds}

-- The kind that the index gives to a sequence, and the number of its locals there.
abbrev pub kind_of : List IndexRow → ℕ → SeqKind
kind_of rows id = unwrap_or (option_map (λ row. row.kind) (slice_get rows id)) kinds.TheVariants.File

abbrev pub locals_of : List IndexRow → ℕ → ℕ
locals_of rows id = unwrap_or (option_map (λ row. row.locals) (slice_get rows id)) 0

-- P holds of each instruction of the body.
abbrev pub EachInstr : Sequence → (Instr → Type 0) → Type 0
EachInstr seq P = All (λ line. P line.instr) seq.code

-- Each instruction finds on the stack what it takes or looks at, whichever way leads to it.
abbrev pub FindsEnough : Sequence → SeqKind → Type 0
FindsEnough seq kind =
    (place depth : ℕ) (line : Line) → Way seq kind place depth → slice_get seq.code place ≡ Some line → needs_of line.instr ≤ depth

-- All ways to a place of the body come there with one depth.
abbrev pub HasOneDepth : Sequence → SeqKind → Type 0
HasOneDepth seq kind =
    (place depth other : ℕ) → place < length seq.code → Way seq kind place depth → Way seq kind place other → depth ≡ other

-- The first place has the depth at which the kind begins, and each optional entry has depth 0.
pub record StartsRight (seq : Sequence) (kind : SeqKind) : Type 0 where
  pub first : (depth : ℕ) → Way seq kind 0 depth → depth ≡ start_depth kind
  pub entries : All (λ entry. (depth : ℕ) → Way seq kind entry depth → depth ≡ 0) seq.entries

-- Targets, optional entries and rows lie inside the body.
pub record IsInside (seq : Sequence) : Type 0 where
  pub targets : EachInstr seq (λ i. IfSome (target_of i) (λ target. target < length seq.code))
  pub entries : All (λ entry. entry < length seq.code) seq.entries
  pub rows : All (λ row. (row.from < length seq.code) × (row.to ≤ length seq.code) × (row.cont < length seq.code)) seq.rows

-- A row has a range that is not empty, and goes on at its end or later.
abbrev pub IsOrdered : CatchRow → Type 0
IsOrdered row = (row.from < row.to) × (row.to ≤ row.cont)

-- In the row's range no place has less than `sp` on the stack, and no instruction takes the stack below that. A rescue
-- row begins at `sp`, and what goes on after a row has one value more.
pub record KeepsDepth (seq : Sequence) (kind : SeqKind) (row : CatchRow) : Type 0 where
  pub deep : (place depth : ℕ) → Holds row place → Way seq kind place depth → row.sp ≤ depth
  pub spared : (place depth : ℕ) (line : Line) → Holds row place → Way seq kind place depth → slice_get seq.code place ≡ Some line → row.sp + takes_of line.instr ≤ depth
  pub from : row.kind ≡ catches.TheVariants.Rescue → (depth : ℕ) → Way seq kind row.from depth → depth ≡ row.sp
  pub cont : (depth : ℕ) → Way seq kind row.cont depth → depth ≡ row.sp + 1

-- The last instruction is a jump, a leave or a throw, and an ensure part has no leave.
pub record EndsRight (seq : Sequence) (kind : SeqKind) : Type 0 where
  pub last : (line : Line) × (slice_get seq.code (length seq.code - 1) ≡ Some line) × IsTrue (is_ending line.instr)
  pub leave : kind ≡ kinds.TheVariants.Ensure → EachInstr seq (λ i. i ≢ Leave)

-- A local that is read or written is a slot that an environment outward has.
abbrev pub FindsLocal : List IndexRow → ℕ → Instr → Type 0
FindsLocal rows id (GetLocal slot level) = HasLocal rows id slot level
FindsLocal rows id (SetLocal slot level) = HasLocal rows id slot level
FindsLocal rows id _ = ⊤

-- A sequence that an instruction or a rescue or ensure row names is a child of this one, of the kind that goes there.
-- A break or next row names none.
abbrev pub NamesChild : List IndexRow → ℕ → SeqKind → ℕ → Type 0
NamesChild rows id kind q = q ≢ 0 → IsChild rows id kind (q - 1)

abbrev pub InstrNamesChild : List IndexRow → ℕ → Instr → Type 0
InstrNamesChild rows id (Send name n splats flags q) = NamesChild rows id kinds.TheVariants.Block q
InstrNamesChild rows id (InvokeSuper n splats flags q) = NamesChild rows id kinds.TheVariants.Block q
InstrNamesChild rows id (DefineMethod name q own) = NamesChild rows id kinds.TheVariants.Method q
InstrNamesChild rows id (DefineClass name q form) = NamesChild rows id kinds.TheVariants.Class q
InstrNamesChild rows id _ = ⊤

abbrev pub SeqIsRight : List IndexRow → ℕ → CatchKind → ℕ → Type 0
SeqIsRight rows id catches.TheVariants.Rescue seq = IsChild rows id kinds.TheVariants.Rescue seq
SeqIsRight rows id catches.TheVariants.Ensure seq = IsChild rows id kinds.TheVariants.Ensure seq
SeqIsRight rows id catches.TheVariants.Break seq = seq ≡ 0
SeqIsRight rows id catches.TheVariants.Next seq = seq ≡ 0

pub record NamesChildren (seq : Sequence) (rows : List IndexRow) (id : ℕ) : Type 0 where
  pub instructions : EachInstr seq (InstrNamesChild rows id)
  pub catches : All (λ row. SeqIsRight rows id row.kind row.seq) seq.rows

-- The places of splats are below the count of arguments.
abbrev pub SpreadsBelow : Instr → Type 0
SpreadsBelow (NewArray n splats) = All (λ place. place < n) splats
SpreadsBelow (Send name n splats flags q) = All (λ place. place < n) splats
SpreadsBelow (InvokeSuper n splats flags q) = All (λ place. place < n) splats
SpreadsBelow (InvokeBlock n splats) = All (λ place. place < n) splats
SpreadsBelow _ = ⊤

-- Operands have values that their instructions know.
abbrev pub HasKnownOperands : Instr → Type 0
HasKnownOperands (OptGetConstantPath from names) = (from ≤ 2) × (0 < length names)
HasKnownOperands (NewHash n) = n % 2 ≡ 0
HasKnownOperands (NewRange form) = form ≤ 1
HasKnownOperands (Send name n splats flags q) = flags ≤ 7
HasKnownOperands (InvokeSuper n splats flags q) = flags ≤ 7
HasKnownOperands (DefineMethod name q own) = (q ≢ 0) × (own ≤ 1)
HasKnownOperands (DefineClass name q form) = (q ≢ 0) × (form ≤ 2)
HasKnownOperands _ = ⊤

-- The body has as many locals as its index row says, and its parameters are among them: the required ones, the
-- optional ones (one less than there are entries), the one that takes the rest, and the one that takes the block.
abbrev pub one_if : Bool → ℕ
one_if flag = if flag then 1 else 0

abbrev pub parameters_of : Sequence → ℕ
parameters_of seq = seq.required + (length seq.entries - 1) + one_if seq.rest + one_if seq.block

pub record CountsLocals (seq : Sequence) (rows : List IndexRow) (id : ℕ) : Type 0 where
  pub locals : length seq.locals ≡ locals_of rows id
  pub parameters : parameters_of seq ≤ length seq.locals

-- A throw has a number from 0 to 7. Only rescue and ensure parts go on with what was pending, or retry, and the end of
-- an ensured part stands where an ensure row holds it.
pub record ThrowsRight (seq : Sequence) (kind : SeqKind) (place n : ℕ) : Type 0 where
  pub number : n ≤ 7
  pub pending : (n ≡ 0) ⊎ (n ≡ 7) → (kind ≡ kinds.TheVariants.Rescue) ⊎ (kind ≡ kinds.TheVariants.Ensure)
  pub ensured : n ≡ 6 → Any (λ row. (row.kind ≡ catches.TheVariants.Ensure) × Holds row place) seq.rows

abbrev pub EachThrow : Sequence → SeqKind → Type 0
EachThrow seq kind =
    (place n : ℕ) (line : Line) → slice_get seq.code place ≡ Some line → line.instr ≡ Throw n → ThrowsRight seq kind place n

-- The body of the sequence of this number is sound, under these rows of the index.
pub record IsSound (seq : Sequence) (rows : List IndexRow) (id : ℕ) : Type 0 where
  pub enough : FindsEnough seq (kind_of rows id)
  pub one_depth : HasOneDepth seq (kind_of rows id)
  pub starts : StartsRight seq (kind_of rows id)
  pub inside : IsInside seq
  pub ordered : All IsOrdered seq.rows
  pub kept : All (KeepsDepth seq (kind_of rows id)) seq.rows
  pub ends : EndsRight seq (kind_of rows id)
  pub locals : EachInstr seq (FindsLocal rows id)
  pub children : NamesChildren seq rows id
  pub splats : EachInstr seq SpreadsBelow
  pub operands : EachInstr seq HasKnownOperands
  pub counted : CountsLocals seq rows id
  pub throws : EachThrow seq (kind_of rows id)
