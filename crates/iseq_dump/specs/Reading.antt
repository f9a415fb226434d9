-- Reading from left to right: what stands at the front of the bytes, and the bytes behind it, or nothing. The private
-- readers give this. That it gives what has a spelling, and nothing else, is proved of each part.
use Rattle.std.specs.Prelude.{◌≡◌, ℕ, zero, suc, ◌+◌, ◌-◌, ◌*◌, ◌^◌, List, [], ◌∷◌, ◌++◌, length, IsErr, take, drop, ⊤, ℤ, pos, negsuc, Bool, true, false, ◌%◌, ◌/◌, Option, Some, None, Result, Ok, Err, ◌&&◌, nat_lt, ◌==◌, if◌then◌else◌}
use Rattle.byteorder.specs.Endian.{little_number}
use Rattle.std.specs.Map.{lookup}
use Rattle.std.specs.declared.alloc.AllocError.{AllocError}
use Rattle.std.specs.List.{list_all}
use Rattle.iseq_types.specs.declared.instructions.Instr.{Instr}
use Rattle.iseq_types.specs.declared.instructions.Instr.TheVariants.{Nop, Pop, Dup, Swap, TopN, SetN, AdjustStack, PutNil, PutSelf, PutObject, PutString, GetLocal, SetLocal, GetInstanceVariable, SetInstanceVariable, GetGlobal, SetGlobal, SetConstant, OptGetConstantPath, NewArray, NewHash, NewRange, ConcatStrings, ObjToString, AnyToString, Send, InvokeSuper, InvokeBlock, DefineMethod, DefineClass, CheckMatch, Jump, BranchIf, BranchUnless, BranchNil, Throw, Leave, ExpandArray}
use Rattle.iseq_types.specs.declared.instructions.Literal.{Literal}
use Rattle.iseq_types.specs.declared.instructions.Literal.TheVariants.{True, False, Int, Sym}
use Rattle.iseq_types.specs.declared.sequences.SeqKind.{SeqKind}
use Rattle.iseq_types.specs.declared.sequences.SeqKind.TheVariants as kinds
use Rattle.iseq_types.specs.declared.sequences.CatchKind.{CatchKind}
use Rattle.iseq_types.specs.declared.sequences.CatchKind.TheVariants as catches
use Rattle.iseq_types.specs.declared.sequences.CatchRow.{CatchRow}
use Rattle.iseq_types.specs.declared.sequences.Line.{Line}
use Rattle.iseq_types.specs.declared.sequences.Sequence.{Sequence}
use Rattle.iseq_dump.specs.declared.head.Entry.{Entry}
use Rattle.iseq_dump.specs.declared.head.Head.{Head}
use Rattle.iseq_dump.specs.declared.shapes.Shape.{Shape}
use Rattle.iseq_dump.specs.declared.shapes.Shape.TheVariants as shape
use Rattle.iseq_dump.specs.declared.fault.ReadError.{ReadError}
use Rattle.iseq_dump.specs.declared.fault.ReadError.TheVariants.{Memory, NotSpelled}

infixl 10 ◌▷◌
abbrev pub ◌▷◌ : {A B : Type 0} → Option A → (A → Option B) → Option B
(Some x) ▷ f = f x
None ▷ f = None

-- What a function returned, seen by view, and what it left is what reading gives, unless memory ran out.
abbrev pub Fails : {Y : Type 0} → ReadError → Option Y → Type 0
Fails Memory read = Unit {0}
Fails NotSpelled read = read ≡ None

abbrev pub Gives : {X Y : Type 0} → (X → Y) → Result X ReadError → List ℕ → Option (Y × List ℕ) → Type 0
Gives view (Ok x) left read = read ≡ Some (view x, left)
Gives view (Err e) left read = Fails e read

-- The same in the words of the spelling: a value whose spelling stands at the front of the old bytes, with those that
-- are left behind it; or no value has a spelling there.
abbrev pub ReadsIt : {X : Type 0} → (X → Type 0) → (X → List ℕ) → List ℕ → Result X ReadError → List ℕ → Type 0
ReadsIt Fits bytes old (Ok x) new = Fits x × (old ≡ bytes x ++ new)
ReadsIt Fits bytes old (Err Memory) new = ⊤
ReadsIt {X} Fits bytes old (Err NotSpelled) new = (x : X) (rest : List ℕ) → Fits x → old ≡ bytes x ++ rest → ⊥

-- all of the bytes are a value, or they are none, unless memory ran out
abbrev pub IsIt : {X : Type 0} → (X → Type 0) → Result X ReadError → Type 0
IsIt Holds (Ok x) = Holds x
IsIt Holds (Err Memory) = ⊤
IsIt {X} Holds (Err NotSpelled) = (x : X) → Holds x → ⊥

-- the same answer, with no value as an answer of its own
abbrev pub Turns : {X : Type 0} → Result X ReadError → Result (Option X) AllocError → Type 0
Turns (Ok x) answer = answer ≡ Ok (Some x)
Turns (Err Memory) answer = IsErr answer
Turns (Err NotSpelled) answer = answer ≡ Ok None

-- the same where no bytes are left
abbrev pub Finds : {X : Type 0} → Result X ReadError → Option X → Type 0
Finds (Ok x) read = read ≡ Some x
Finds (Err e) read = Fails e read

abbrev pub byte_at : List ℕ → Option (ℕ × List ℕ)
byte_at [] = None
byte_at (b ∷ rest) = Some (b, rest)

-- the groups behind a first one whose low bits are given
abbrev pub with_low : ℕ → ℕ × List ℕ → Option (ℕ × List ℕ)
with_low byte high = if nat_lt 0 high.0 && nat_lt high.0 (2 ^ 57) && nat_lt byte 256 then Some (high.0 * 128 + (byte - 128), high.1) else None

unfoldable pub groups_at : ℕ → List ℕ → Option (ℕ × List ℕ)
groups_at zero bytes = byte_at bytes ▷ λ b. if nat_lt b.0 128 then Some b else None
groups_at (suc more) bytes = byte_at bytes ▷ λ b. if nat_lt b.0 128 then Some b else groups_at more b.1 ▷ with_low b.0

unfoldable pub number_at : List ℕ → Option (ℕ × List ℕ)
number_at bytes = groups_at 9 bytes

abbrev pub text_at : List ℕ → Option (List ℕ × List ℕ)
text_at bytes = number_at bytes ▷ λ n. if nat_lt (length n.1) n.0 then None else Some (take n.0 n.1, drop n.0 n.1)

-- so many, one behind the other
unfoldable pub times_at : {X : Type 0} → (List ℕ → Option (X × List ℕ)) → ℕ → List ℕ → Option (List X × List ℕ)
times_at at zero bytes = Some ([], bytes)
times_at at (suc n) bytes = at bytes ▷ λ x. times_at at n x.1 ▷ λ xs. Some (x.0 ∷ xs.0, xs.1)

abbrev pub list_at : {X : Type 0} → (List ℕ → Option (X × List ℕ)) → List ℕ → Option (List X × List ℕ)
list_at at bytes = number_at bytes ▷ λ n. times_at at n.0 n.1

-- ---- one part behind another, what is made of a part, and a part that passes a test

infixr 12 ◌⨟◌
abbrev pub ◌⨟◌ : {X Y : Type 0} → (List ℕ → Option (X × List ℕ)) → (List ℕ → Option (Y × List ℕ)) → List ℕ → Option ((X × Y) × List ℕ)
(first ⨟ second) bytes = first bytes ▷ λ x. second x.1 ▷ λ y. Some ((x.0, y.0), y.1)

abbrev pub made_at : {X Y : Type 0} → (X → Y) → (List ℕ → Option (X × List ℕ)) → List ℕ → Option (Y × List ℕ)
made_at make at bytes = at bytes ▷ λ x. Some (make x.0, x.1)

abbrev pub kept_at : {X : Type 0} → (X → Bool) → (List ℕ → Option (X × List ℕ)) → List ℕ → Option (X × List ℕ)
kept_at test at bytes = at bytes ▷ λ x. if test x.0 then Some x else None

-- what a table has for a code
abbrev pub of_code : {X : Type 0} → ℕ → List (ℕ × X) → Option X
of_code code table = lookup (λ other. code == other) table

-- a byte, and what the table has for it
abbrev pub tagged_at : {X : Type 0} → List (ℕ × X) → List ℕ → Option (X × List ℕ)
tagged_at table bytes = byte_at bytes ▷ λ b. of_code b.0 table ▷ λ x. Some (x, b.1)

-- ---- instructions

abbrev pub integer_of : ℕ → ℤ
integer_of n = if n % 2 == 0 then pos (n / 2) else negsuc (n / 2)

unfoldable pub literal_at : List ℕ → Option (Literal × List ℕ)
literal_at bytes = byte_at bytes ▷ λ b.
    if b.0 == 1 then Some (True, b.1)
    else if b.0 == 2 then Some (False, b.1)
    else if b.0 == 3 then made_at (λ n. Int (integer_of n)) number_at b.1
    else if b.0 == 4 then made_at Sym text_at b.1
    else None

-- the instructions whose operands have one shape, by their opcodes
abbrev pub alone : List (ℕ × Instr)
alone = (0, Nop) ∷ (1, Pop) ∷ (2, Dup) ∷ (3, Swap) ∷ (7, PutNil) ∷ (8, PutSelf) ∷ (23, ObjToString) ∷ (24, AnyToString) ∷ (30, CheckMatch) ∷ (36, Leave) ∷ []

abbrev pub numbered : List (ℕ × (ℕ → Instr))
numbered = (4, TopN) ∷ (5, SetN) ∷ (6, AdjustStack) ∷ (20, NewHash) ∷ (21, NewRange) ∷ (22, ConcatStrings) ∷ (31, Jump) ∷ (32, BranchIf) ∷ (33, BranchUnless) ∷ (34, BranchNil) ∷ (35, Throw) ∷ (37, ExpandArray) ∷ []

abbrev pub worded : List (ℕ × (List ℕ → Instr))
worded = (10, PutString) ∷ (13, GetInstanceVariable) ∷ (14, SetInstanceVariable) ∷ (15, GetGlobal) ∷ (16, SetGlobal) ∷ (17, SetConstant) ∷ []

abbrev pub placed : List (ℕ × (ℕ → ℕ → Instr))
placed = (11, GetLocal) ∷ (12, SetLocal) ∷ []

abbrev pub spread : List (ℕ × (ℕ → List ℕ → Instr))
spread = (19, NewArray) ∷ (27, InvokeBlock) ∷ []

abbrev pub defining : List (ℕ × (List ℕ → ℕ → ℕ → Instr))
defining = (28, DefineMethod) ∷ (29, DefineClass) ∷ []

-- the instruction that the table has for an opcode, made of its operands
abbrev pub made_of : {X : Type 0} → ℕ → List (ℕ × X) → (X → Instr) → Option Instr
made_of opcode table fill = of_code opcode table ▷ λ make. Some (fill make)

-- the shape of each opcode
abbrev pub shapes : List (ℕ × Shape)
shapes =
    (0, shape.Alone) ∷ (1, shape.Alone) ∷ (2, shape.Alone) ∷ (3, shape.Alone) ∷ (7, shape.Alone) ∷ (8, shape.Alone) ∷ (23, shape.Alone) ∷ (24, shape.Alone) ∷ (30, shape.Alone) ∷ (36, shape.Alone) ∷ (4, shape.Number) ∷ (5, shape.Number) ∷ (6, shape.Number) ∷ (20, shape.Number) ∷ (21, shape.Number) ∷ (22, shape.Number) ∷ (31, shape.Number) ∷ (32, shape.Number) ∷ (33, shape.Number) ∷ (34, shape.Number) ∷ (35, shape.Number) ∷ (37, shape.Number) ∷ (9, shape.Value) ∷ (10, shape.Word) ∷ (13, shape.Word) ∷ (14, shape.Word) ∷ (15, shape.Word) ∷ (16, shape.Word) ∷ (17, shape.Word) ∷ (11, shape.Local) ∷ (12, shape.Local) ∷ (18, shape.Path) ∷ (19, shape.Spread) ∷ (27, shape.Spread) ∷ (25, shape.Call) ∷ (26, shape.Above) ∷ (28, shape.Definition) ∷ (29, shape.Definition) ∷ []

unfoldable pub call_at : List ℕ → Option (Instr × List ℕ)
call_at = made_at (λ p. Send p.0 p.1.0 p.1.1.0 p.1.1.1.0 p.1.1.1.1) (text_at ⨟ number_at ⨟ list_at number_at ⨟ number_at ⨟ number_at)

unfoldable pub above_at : List ℕ → Option (Instr × List ℕ)
above_at = made_at (λ p. InvokeSuper p.0 p.1.0 p.1.1.0 p.1.1.1) (number_at ⨟ list_at number_at ⨟ number_at ⨟ number_at)

-- the operands of a shape, of an instruction with this opcode
unfoldable pub shaped_at : Shape → ℕ → List ℕ → Option (Instr × List ℕ)
shaped_at shape.Alone opcode bytes = of_code opcode alone ▷ λ instr. Some (instr, bytes)
shaped_at shape.Number opcode bytes = number_at bytes ▷ λ n. made_of opcode numbered (λ make. make n.0) ▷ λ instr. Some (instr, n.1)
shaped_at shape.Value opcode bytes = made_at PutObject literal_at bytes
shaped_at shape.Word opcode bytes = text_at bytes ▷ λ s. made_of opcode worded (λ make. make s.0) ▷ λ instr. Some (instr, s.1)
shaped_at shape.Local opcode bytes = (number_at ⨟ number_at) bytes ▷ λ p. made_of opcode placed (λ make. make p.0.0 p.0.1) ▷ λ instr. Some (instr, p.1)
shaped_at shape.Path opcode bytes = made_at (λ p. OptGetConstantPath p.0 p.1) (number_at ⨟ list_at text_at) bytes
shaped_at shape.Spread opcode bytes = (number_at ⨟ list_at number_at) bytes ▷ λ p. made_of opcode spread (λ make. make p.0.0 p.0.1) ▷ λ instr. Some (instr, p.1)
shaped_at shape.Call opcode bytes = call_at bytes
shaped_at shape.Above opcode bytes = above_at bytes
shaped_at shape.Definition opcode bytes = (text_at ⨟ number_at ⨟ number_at) bytes ▷ λ p. made_of opcode defining (λ make. make p.0.0 p.0.1.0 p.0.1.1) ▷ λ instr. Some (instr, p.1)

unfoldable pub instr_at : List ℕ → Option (Instr × List ℕ)
instr_at bytes = byte_at bytes ▷ λ b. of_code b.0 shapes ▷ λ form. shaped_at form b.0 b.1

-- ---- sequences

abbrev pub catch_kinds : List (ℕ × CatchKind)
catch_kinds = (0, catches.Rescue) ∷ (1, catches.Ensure) ∷ (2, catches.Break) ∷ (3, catches.Next) ∷ []

unfoldable pub catch_kind_at : List ℕ → Option (CatchKind × List ℕ)
catch_kind_at = tagged_at catch_kinds

abbrev pub may_name : CatchKind → ℕ → Bool
may_name catches.Rescue sequence = true
may_name catches.Ensure sequence = true
may_name catches.Break sequence = sequence == 0
may_name catches.Next sequence = sequence == 0

unfoldable pub row_at : List ℕ → Option (CatchRow × List ℕ)
row_at = kept_at (λ row. may_name row.kind row.seq)
    (made_at (λ p. record { kind = p.0; from = p.1.0; to = p.1.1.0; cont = p.1.1.1.0; sp = p.1.1.1.1.0; seq = p.1.1.1.1.1 })
    (catch_kind_at ⨟ number_at ⨟ number_at ⨟ number_at ⨟ number_at ⨟ number_at))

unfoldable pub line_at : List ℕ → Option (Line × List ℕ)
line_at = made_at (λ p. record { line = p.0; instr = p.1 }) (number_at ⨟ instr_at)

-- the flags of a rest and of a block parameter
abbrev pub flags : List (ℕ × (Bool × Bool))
flags = (0, (false, false)) ∷ (1, (true, false)) ∷ (2, (false, true)) ∷ (3, (true, true)) ∷ []

unfoldable pub flags_at : List ℕ → Option ((Bool × Bool) × List ℕ)
flags_at = tagged_at flags

unfoldable pub body_at : List ℕ → Option (Sequence × List ℕ)
body_at = made_at (λ p. record {
  name = p.0;
  first_line = p.1.0;
  locals = p.1.1.0;
  required = p.1.1.1.0;
  entries = p.1.1.1.1.0;
  rest = p.1.1.1.1.1.0.0;
  block = p.1.1.1.1.1.0.1;
  rows = p.1.1.1.1.1.1.0;
  code = p.1.1.1.1.1.1.1;
})
    (text_at ⨟ number_at ⨟ list_at text_at ⨟ number_at ⨟ list_at number_at ⨟ flags_at ⨟ list_at row_at ⨟ list_at line_at)

-- ---- the header

-- a number in 8 bytes
unfoldable pub fixed_at : List ℕ → Option (ℕ × List ℕ)
fixed_at bytes =
    if nat_lt (length bytes) 8 then None
    else if list_all (λ b. nat_lt b 256) (take 8 bytes) then Some (little_number 8 (take 8 bytes), drop 8 bytes)
    else None

abbrev pub sequence_kinds : List (ℕ × SeqKind)
sequence_kinds = (0, kinds.File) ∷ (1, kinds.Method) ∷ (2, kinds.Class) ∷ (3, kinds.Block) ∷ (4, kinds.Rescue) ∷ (5, kinds.Ensure) ∷ []

unfoldable pub sequence_kind_at : List ℕ → Option (SeqKind × List ℕ)
sequence_kind_at = tagged_at sequence_kinds

unfoldable pub entry_at : List ℕ → Option (Entry × List ℕ)
entry_at = made_at (λ p. record { row = record { kind = p.0; parent = p.1.0; locals = p.1.1.0 }; place = p.1.1.1.0; length = p.1.1.1.1 })
    (sequence_kind_at ⨟ fixed_at ⨟ fixed_at ⨟ fixed_at ⨟ fixed_at)

-- these bytes, and no others
unfoldable pub exactly_at : List ℕ → List ℕ → Option (⊤ × List ℕ)
exactly_at [] bytes = Some (tt, bytes)
exactly_at (wanted ∷ others) bytes = byte_at bytes ▷ λ b. if b.0 == wanted then exactly_at others b.1 else None

abbrev pub mark : List ℕ
mark = 0x59 ∷ 0x53 ∷ 0x51 ∷ 0x01 ∷ []

-- the header, before it is looked at whether its index may be one
unfoldable pub head_at : List ℕ → Option (Head × List ℕ)
head_at = made_at (λ p. record { path = p.1.0; entries = p.1.1 }) (exactly_at mark ⨟ text_at ⨟ list_at entry_at)

-- ---- the bodies

-- all of the bytes
abbrev pub whole_at : {X : Type 0} → (List ℕ → Option (X × List ℕ)) → List ℕ → Option X
whole_at at bytes = at bytes ▷ λ x. if length x.1 == 0 then Some x.0 else None

-- the bodies of an index, one behind the other
unfoldable pub bodies_at : List Entry → List ℕ → Option (List Sequence × List ℕ)
bodies_at [] bytes = Some ([], bytes)
bodies_at (entry ∷ entries) bytes =
    if nat_lt (length bytes) entry.length then None
    else whole_at body_at (take entry.length bytes) ▷ λ body. bodies_at entries (drop entry.length bytes) ▷ λ bodies. Some (body ∷ bodies.0, bodies.1)
