-- The one spelling of each unit, and of its parts.
use Rattle.std.specs.Prelude.{◌≡◌, ⊤, ℕ, zero, suc, ℤ, pos, negsuc, ◌+◌, ◌*◌, ◌/◌, ◌%◌, ◌^◌, ◌<◌, ◌≤◌, Bool, Option, Some, None, List, [], ◌∷◌, ◌++◌, length, map, take, drop, slice_get, nat_lt, if◌then◌else◌}
use Rattle.std.specs.List.{flat_map, AllByRecursion}
use Rattle.std.specs.Int.{w64, to_le_bytes}
use Rattle.iseq_types.specs.Index.{AreIndexRows}
use Rattle.iseq_types.specs.Sound.{IsSound}
use Rattle.iseq_types.specs.declared.instructions.Instr.{Instr}
use Rattle.iseq_types.specs.declared.instructions.Instr.TheVariants.{Nop, Pop, Dup, Swap, TopN, SetN, AdjustStack, PutNil, PutSelf, PutObject, PutString, GetLocal, SetLocal, GetInstanceVariable, SetInstanceVariable, GetGlobal, SetGlobal, SetConstant, OptGetConstantPath, NewArray, NewHash, NewRange, ConcatStrings, ObjToString, AnyToString, Send, InvokeSuper, InvokeBlock, DefineMethod, DefineClass, CheckMatch, Jump, BranchIf, BranchUnless, BranchNil, Throw, Leave, ExpandArray}
use Rattle.iseq_types.specs.declared.instructions.Literal.{Literal}
use Rattle.iseq_types.specs.declared.instructions.Literal.TheVariants.{True, False, Int, Sym}
use Rattle.iseq_types.specs.declared.sequences.SeqKind.{SeqKind}
use Rattle.iseq_types.specs.declared.sequences.SeqKind.TheVariants as kinds
use Rattle.iseq_types.specs.declared.sequences.CatchKind.{CatchKind}
use Rattle.iseq_types.specs.declared.sequences.CatchKind.TheVariants as catches
use Rattle.iseq_types.specs.declared.sequences.CatchRow.{CatchRow}
use Rattle.iseq_types.specs.declared.sequences.Line.{Line}
use Rattle.iseq_types.specs.declared.sequences.Sequence.{Sequence}
use Rattle.iseq_types.specs.declared.sequences.IndexRow.{IndexRow}
use Rattle.iseq_types.specs.declared.sequences.Unit.{Unit as CompiledUnit}
use Rattle.iseq_dump.specs.declared.head.Entry.{Entry}
use Rattle.iseq_dump.specs.declared.head.Head.{Head}

-- ---- numbers, texts and lists

-- LEB128, unsigned, by its bytes: one below 128 is the last, and stands for itself. One from 128 on has the low seven
-- bits, and the bytes behind it stand for the rest, which isn't 0, so that no byte is spare.
abbrev pub IsLeb128 : List ℕ → ℕ → Type 0
IsLeb128 [] n = ⊥
IsLeb128 (b ∷ []) n = (b < 128) × (n ≡ b)
IsLeb128 (b ∷ c ∷ bytes) n = (128 ≤ b) × (b < 256) × (high : ℕ) × (0 < high) × (n + 128 ≡ b + 128 * high) × IsLeb128 (c ∷ bytes) high

-- The same from the number: seven bits to a byte, the lowest first, and 128 more on each byte but the last. There are no
-- more bytes than the number needs, and at most one and `more`.
unfoldable pub groups : ℕ → ℕ → List ℕ
groups zero n = n ∷ []
groups (suc more) n = if nat_lt n 128 then n ∷ [] else (128 + n % 128) ∷ groups more (n / 128)

-- a number of at most 64 bits, and so of at most ten bytes
unfoldable pub number_bytes : ℕ → List ℕ
number_bytes n = groups 9 n

abbrev pub IsNumber : ℕ → Type 0
IsNumber n = n < 2 ^ 64

-- a text: how many bytes, and the bytes
abbrev pub text_bytes : List ℕ → List ℕ
text_bytes text = number_bytes (length text) ++ text

abbrev pub IsText : List ℕ → Type 0
IsText text = IsNumber (length text)

-- a list: how many elements, and each, one behind the other
abbrev pub list_bytes : {X : Type 0} → (X → List ℕ) → List X → List ℕ
list_bytes bytes xs = number_bytes (length xs) ++ flat_map bytes xs

abbrev pub IsList : {X : Type 0} → (X → Type 0) → List X → Type 0
IsList Fits xs = IsNumber (length xs) × AllByRecursion Fits xs

-- ---- instructions

-- the integers as numbers: 0, -1, 1, -2, 2 and so on
abbrev pub zigzag : ℤ → ℕ
zigzag (pos n) = 2 * n
zigzag (negsuc n) = 2 * n + 1

abbrev pub literal_bytes : Literal → List ℕ
literal_bytes True = 1 ∷ []
literal_bytes False = 2 ∷ []
literal_bytes (Int z) = 3 ∷ number_bytes (zigzag z)
literal_bytes (Sym name) = 4 ∷ text_bytes name

abbrev pub IsLiteral : Literal → Type 0
IsLiteral True = ⊤
IsLiteral False = ⊤
IsLiteral (Int z) = IsNumber (zigzag z)
IsLiteral (Sym name) = IsText name

abbrev pub opcode_of : Instr → ℕ
opcode_of Nop = 0
opcode_of Pop = 1
opcode_of Dup = 2
opcode_of Swap = 3
opcode_of (TopN _) = 4
opcode_of (SetN _) = 5
opcode_of (AdjustStack _) = 6
opcode_of PutNil = 7
opcode_of PutSelf = 8
opcode_of (PutObject _) = 9
opcode_of (PutString _) = 10
opcode_of (GetLocal _ _) = 11
opcode_of (SetLocal _ _) = 12
opcode_of (GetInstanceVariable _) = 13
opcode_of (SetInstanceVariable _) = 14
opcode_of (GetGlobal _) = 15
opcode_of (SetGlobal _) = 16
opcode_of (SetConstant _) = 17
opcode_of (OptGetConstantPath _ _) = 18
opcode_of (NewArray _ _) = 19
opcode_of (NewHash _) = 20
opcode_of (NewRange _) = 21
opcode_of (ConcatStrings _) = 22
opcode_of ObjToString = 23
opcode_of AnyToString = 24
opcode_of (Send _ _ _ _ _) = 25
opcode_of (InvokeSuper _ _ _ _) = 26
opcode_of (InvokeBlock _ _) = 27
opcode_of (DefineMethod _ _ _) = 28
opcode_of (DefineClass _ _ _) = 29
opcode_of CheckMatch = 30
opcode_of (Jump _) = 31
opcode_of (BranchIf _) = 32
opcode_of (BranchUnless _) = 33
opcode_of (BranchNil _) = 34
opcode_of (Throw _) = 35
opcode_of Leave = 36
opcode_of (ExpandArray _) = 37

-- the operands, one behind the other
abbrev pub operand_bytes : Instr → List ℕ
operand_bytes Nop = []
operand_bytes Pop = []
operand_bytes Dup = []
operand_bytes Swap = []
operand_bytes (TopN n) = number_bytes n
operand_bytes (SetN n) = number_bytes n
operand_bytes (AdjustStack n) = number_bytes n
operand_bytes PutNil = []
operand_bytes PutSelf = []
operand_bytes (PutObject value) = literal_bytes value
operand_bytes (PutString text) = text_bytes text
operand_bytes (GetLocal slot level) = number_bytes slot ++ number_bytes level
operand_bytes (SetLocal slot level) = number_bytes slot ++ number_bytes level
operand_bytes (GetInstanceVariable name) = text_bytes name
operand_bytes (SetInstanceVariable name) = text_bytes name
operand_bytes (GetGlobal name) = text_bytes name
operand_bytes (SetGlobal name) = text_bytes name
operand_bytes (SetConstant name) = text_bytes name
operand_bytes (OptGetConstantPath first names) = number_bytes first ++ list_bytes text_bytes names
operand_bytes (NewArray count splats) = number_bytes count ++ list_bytes number_bytes splats
operand_bytes (NewHash n) = number_bytes n
operand_bytes (NewRange n) = number_bytes n
operand_bytes (ConcatStrings n) = number_bytes n
operand_bytes ObjToString = []
operand_bytes AnyToString = []
operand_bytes (Send name count splats flags block) = text_bytes name ++ number_bytes count ++ list_bytes number_bytes splats ++ number_bytes flags ++ number_bytes block
operand_bytes (InvokeSuper count splats flags block) = number_bytes count ++ list_bytes number_bytes splats ++ number_bytes flags ++ number_bytes block
operand_bytes (InvokeBlock count splats) = number_bytes count ++ list_bytes number_bytes splats
operand_bytes (DefineMethod name sequence singleton) = text_bytes name ++ number_bytes sequence ++ number_bytes singleton
operand_bytes (DefineClass name sequence kind) = text_bytes name ++ number_bytes sequence ++ number_bytes kind
operand_bytes CheckMatch = []
operand_bytes (Jump target) = number_bytes target
operand_bytes (BranchIf target) = number_bytes target
operand_bytes (BranchUnless target) = number_bytes target
operand_bytes (BranchNil target) = number_bytes target
operand_bytes (Throw n) = number_bytes n
operand_bytes Leave = []
operand_bytes (ExpandArray n) = number_bytes n

abbrev pub IsInstr : Instr → Type 0
IsInstr Nop = ⊤
IsInstr Pop = ⊤
IsInstr Dup = ⊤
IsInstr Swap = ⊤
IsInstr (TopN n) = IsNumber n
IsInstr (SetN n) = IsNumber n
IsInstr (AdjustStack n) = IsNumber n
IsInstr PutNil = ⊤
IsInstr PutSelf = ⊤
IsInstr (PutObject value) = IsLiteral value
IsInstr (PutString text) = IsText text
IsInstr (GetLocal slot level) = IsNumber slot × IsNumber level
IsInstr (SetLocal slot level) = IsNumber slot × IsNumber level
IsInstr (GetInstanceVariable name) = IsText name
IsInstr (SetInstanceVariable name) = IsText name
IsInstr (GetGlobal name) = IsText name
IsInstr (SetGlobal name) = IsText name
IsInstr (SetConstant name) = IsText name
IsInstr (OptGetConstantPath first names) = IsNumber first × IsList IsText names
IsInstr (NewArray count splats) = IsNumber count × IsList IsNumber splats
IsInstr (NewHash n) = IsNumber n
IsInstr (NewRange n) = IsNumber n
IsInstr (ConcatStrings n) = IsNumber n
IsInstr ObjToString = ⊤
IsInstr AnyToString = ⊤
IsInstr (Send name count splats flags block) = IsText name × IsNumber count × IsList IsNumber splats × IsNumber flags × IsNumber block
IsInstr (InvokeSuper count splats flags block) = IsNumber count × IsList IsNumber splats × IsNumber flags × IsNumber block
IsInstr (InvokeBlock count splats) = IsNumber count × IsList IsNumber splats
IsInstr (DefineMethod name sequence singleton) = IsText name × IsNumber sequence × IsNumber singleton
IsInstr (DefineClass name sequence kind) = IsText name × IsNumber sequence × IsNumber kind
IsInstr CheckMatch = ⊤
IsInstr (Jump target) = IsNumber target
IsInstr (BranchIf target) = IsNumber target
IsInstr (BranchUnless target) = IsNumber target
IsInstr (BranchNil target) = IsNumber target
IsInstr (Throw n) = IsNumber n
IsInstr Leave = ⊤
IsInstr (ExpandArray n) = IsNumber n

-- an instruction: its opcode, and its operands
abbrev pub instr_bytes : Instr → List ℕ
instr_bytes instr = opcode_of instr ∷ operand_bytes instr

-- ---- sequences

abbrev pub catch_byte : CatchKind → ℕ
catch_byte catches.Rescue = 0
catch_byte catches.Ensure = 1
catch_byte catches.Break = 2
catch_byte catches.Next = 3

-- a break or next row names no sequence
abbrev pub AllowsSequence : CatchKind → ℕ → Type 0
AllowsSequence catches.Rescue sequence = ⊤
AllowsSequence catches.Ensure sequence = ⊤
AllowsSequence catches.Break sequence = sequence ≡ 0
AllowsSequence catches.Next sequence = sequence ≡ 0

abbrev pub IsAllowedRow : CatchRow → Type 0
IsAllowedRow row = AllowsSequence row.kind row.seq

-- a row of a catch table
abbrev pub row_bytes : CatchRow → List ℕ
row_bytes row = catch_byte row.kind ∷ number_bytes row.from ++ number_bytes row.to ++ number_bytes row.cont ++ number_bytes row.sp ++ number_bytes row.seq

pub record IsRow (row : CatchRow) : Type 0 where
  pub from : IsNumber row.from
  pub to : IsNumber row.to
  pub cont : IsNumber row.cont
  pub sp : IsNumber row.sp
  pub sequence : IsNumber row.seq
  pub allowed : IsAllowedRow row

-- an instruction behind its line
abbrev pub line_bytes : Line → List ℕ
line_bytes line = number_bytes line.line ++ instr_bytes line.instr

abbrev pub IsLine : Line → Type 0
IsLine line = IsNumber line.line × IsInstr line.instr

-- 1 for a rest parameter, 2 for a block parameter
abbrev pub flag_byte : Bool → Bool → ℕ
flag_byte rest block = (if rest then 1 else 0) + (if block then 2 else 0)

-- the body of a sequence
abbrev pub body_bytes : Sequence → List ℕ
body_bytes body =
    text_bytes body.name ++ number_bytes body.first_line ++ list_bytes text_bytes body.locals ++ number_bytes body.required
    ++ list_bytes number_bytes body.entries ++ flag_byte body.rest body.block ∷ []
    ++ list_bytes row_bytes body.rows ++ list_bytes line_bytes body.code

pub record IsBody (body : Sequence) : Type 0 where
  pub name : IsText body.name
  pub first_line : IsNumber body.first_line
  pub locals : IsList IsText body.locals
  pub required : IsNumber body.required
  pub entries : IsList IsNumber body.entries
  pub rows : IsList IsRow body.rows
  pub code : IsList IsLine body.code

-- each break or next row of the body has sequence 0
abbrev pub IsAllowedBody : Sequence → Type 0
IsAllowedBody body = AllByRecursion IsAllowedRow body.rows

-- ---- the header and the index

abbrev pub kind_byte : SeqKind → ℕ
kind_byte kinds.File = 0
kind_byte kinds.Method = 1
kind_byte kinds.Class = 2
kind_byte kinds.Block = 3
kind_byte kinds.Rescue = 4
kind_byte kinds.Ensure = 5

-- a number as 8 bytes, the lowest first
unfoldable pub fixed_bytes : ℕ → List ℕ
fixed_bytes n = to_le_bytes w64 n

-- The 33 bytes of a sequence in the index: its kind, its parent, its locals, and where its body begins, counted from
-- the first byte of the header, and how many bytes it has.
abbrev pub entry_bytes : Entry → List ℕ
entry_bytes entry = kind_byte entry.row.kind ∷ fixed_bytes entry.row.parent ++ fixed_bytes entry.row.locals ++ fixed_bytes entry.place ++ fixed_bytes entry.length

pub record IsEntry (entry : Entry) : Type 0 where
  pub parent : IsNumber entry.row.parent
  pub locals : IsNumber entry.row.locals
  pub place : IsNumber entry.place
  pub length : IsNumber entry.length

-- the header: its mark, the path, and the index
abbrev pub head_bytes : Head → List ℕ
head_bytes head = 0x59 ∷ 0x53 ∷ 0x51 ∷ 0x01 ∷ text_bytes head.path ++ list_bytes entry_bytes head.entries

-- the bodies stand one behind the other from this place on, with no gap
abbrev pub AreTiled : ℕ → List Entry → Type 0
AreTiled place [] = ⊤
AreTiled place (entry ∷ entries) = (entry.place ≡ place) × AreTiled (place + entry.length) entries

-- where the last of them ends
abbrev pub end_of : ℕ → List Entry → ℕ
end_of place [] = place
end_of place (entry ∷ entries) = end_of (place + entry.length) entries

abbrev pub rows_of : List Entry → List IndexRow
rows_of entries = map (λ entry. entry.row) entries

-- a header whose index is one of a unit, and whose bodies follow it with no gap
pub record IsHead (head : Head) : Type 0 where
  pub path : IsText head.path
  pub entries : IsList IsEntry head.entries
  pub rows : AreIndexRows (rows_of head.entries)
  pub tiled : AreTiled (length (head_bytes head)) head.entries
  pub ends : IsNumber (end_of (length (head_bytes head)) head.entries)

-- ---- the unit

-- the index of these rows, whose bodies have these lengths and stand one behind the other from this place on
abbrev pub entries_of : ℕ → List IndexRow → List ℕ → List Entry
entries_of place (row ∷ rows) (len ∷ lengths) = record { row = row; place = place; length = len } ∷ entries_of (place + len) rows lengths
entries_of place (row ∷ rows) [] = []
entries_of place [] lengths = []

abbrev pub lengths_of : List Sequence → List ℕ
lengths_of bodies = map (λ body. length (body_bytes body)) bodies

-- how many bytes a header has with this path and so many rows: 4, the path, the number of the rows, and 33 for each
unfoldable pub head_length : List ℕ → ℕ → ℕ
head_length path count = 4 + length (text_bytes path) + length (number_bytes count) + 33 * count

unfoldable pub head_of : CompiledUnit → Head
head_of u = record { path = u.path; entries = entries_of (head_length u.path (length u.rows)) u.rows (lengths_of u.bodies) }

-- the unit of a header and its bodies
abbrev pub unit_of : Head → List Sequence → CompiledUnit
unit_of head bodies = record { path = head.path; rows = rows_of head.entries; bodies = bodies }

-- All of an entry's bytes are there, and they are the body's.
pub record HasBody (bytes : List ℕ) (entry : Entry) (body : Sequence) : Type 0 where
  pub fits : IsBody body
  pub long : entry.length ≡ length (body_bytes body)
  pub inside : entry.place + entry.length ≤ length bytes
  pub spelled : take entry.length (drop entry.place bytes) ≡ body_bytes body

-- The rows are such as an index has, there is a body for each, and each break or next row of a body has sequence 0.
pub record CanBeDumped (u : CompiledUnit) : Type 0 where
  pub rows : AreIndexRows u.rows
  pub bodies : length u.bodies ≡ length u.rows
  pub sequences : AllByRecursion IsAllowedBody u.bodies

-- the bytes are the dump of the unit
pub record Spells (u : CompiledUnit) (bytes : List ℕ) : Type 0 where
  -- the rows are such as an index has, and there is a body for each
  pub rows : AreIndexRows u.rows
  pub bodies : length u.bodies ≡ length u.rows
  -- each number has at most 64 bits, and each break or next row has sequence 0
  pub path : IsText u.path
  pub count : IsNumber (length u.rows)
  pub locals : AllByRecursion (λ (row : IndexRow). IsNumber row.locals) u.rows
  pub each : AllByRecursion IsBody u.bodies
  pub small : IsNumber (length bytes)
  -- the header, and then the bodies
  pub spelled : bytes ≡ head_bytes (head_of u) ++ flat_map body_bytes u.bodies

-- each body of the unit is sound under its rows
abbrev pub HasSoundBodies : CompiledUnit → Type 0
HasSoundBodies u = (id : ℕ) (body : Sequence) → slice_get u.bodies id ≡ Some body → IsSound body u.rows id

-- ---- what is put

-- a value that has a spelling was put behind what was there
pub record Puts {X : Type 0} (Fits : X → Type 0) (bytes : X → List ℕ) (x : X) (old new : List ℕ) : Type 0 where
  pub fits : Fits x
  pub spelled : new ≡ old ++ bytes x

-- What reading answers: a value whose spelling stands at the front of the old bytes, with the new ones behind it; or
-- nothing, where no value has a spelling there.
abbrev pub Reads : {X : Type 0} → (X → Type 0) → (X → List ℕ) → List ℕ → Option X → List ℕ → Type 0
Reads Fits bytes old (Some x) new = Fits x × (old ≡ bytes x ++ new)
Reads {X} Fits bytes old None new = (x : X) (rest : List ℕ) → Fits x → old ≡ bytes x ++ rest → ⊥
