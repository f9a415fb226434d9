-- What each instruction does to the stack's depth, and where it leads.
use Rattle.std.specs.Prelude.{◌+◌, ◌-◌, ◌/◌, ◌%◌, ◌==◌, ℕ, Bool, true, false, not, Option, Some, None, if◌then◌else◌}
use Rattle.iseq_types.specs.declared.instructions.Instr.{Instr}
use Rattle.iseq_types.specs.declared.instructions.Instr.TheVariants.{Pop, Dup, Swap, TopN, SetN, AdjustStack, PutNil, PutSelf, PutObject, PutString, GetLocal, SetLocal, GetInstanceVariable, SetInstanceVariable, GetGlobal, SetGlobal, SetConstant, OptGetConstantPath, NewArray, NewHash, NewRange, ConcatStrings, ObjToString, AnyToString, Send, InvokeSuper, InvokeBlock, DefineClass, CheckMatch, Jump, BranchIf, BranchUnless, BranchNil, Throw, Leave, ExpandArray}

-- one where the flags say that a block value stands on top, else none
abbrev pub block_values : ℕ → ℕ
block_values flags = flags / 2 % 2

-- How many values it takes off the stack. A throw that goes on with what was pending has no value of its own.
abbrev pub takes_of : Instr → ℕ
takes_of Pop = 1
takes_of Swap = 2
takes_of (AdjustStack n) = n
takes_of (SetLocal slot level) = 1
takes_of (SetInstanceVariable name) = 1
takes_of (SetGlobal name) = 1
takes_of (SetConstant name) = 1
takes_of (OptGetConstantPath from names) = if from == 2 then 1 else 0
takes_of (NewArray n splats) = n
takes_of (NewHash n) = n
takes_of (NewRange form) = 2
takes_of (ConcatStrings n) = n
takes_of ObjToString = 1
takes_of AnyToString = 2
takes_of (Send name n splats flags q) = 1 + n + block_values flags
takes_of (InvokeSuper n splats flags q) = 1 + n + block_values flags
takes_of (InvokeBlock n splats) = n
takes_of (DefineClass name q form) = 1
takes_of CheckMatch = 2
takes_of (BranchIf t) = 1
takes_of (BranchUnless t) = 1
takes_of (BranchNil t) = 1
takes_of (Throw n) = if n == 0 then 0 else 1
takes_of Leave = 1
takes_of (ExpandArray n) = 1
takes_of _ = 0

-- How many values it puts on the stack after that. A throw leaves the value, for what would come after it.
abbrev pub leaves_of : Instr → ℕ
leaves_of Dup = 1
leaves_of Swap = 2
leaves_of (TopN n) = 1
leaves_of PutNil = 1
leaves_of PutSelf = 1
leaves_of (PutObject v) = 1
leaves_of (PutString text) = 1
leaves_of (GetLocal slot level) = 1
leaves_of (GetInstanceVariable name) = 1
leaves_of (GetGlobal name) = 1
leaves_of (OptGetConstantPath from names) = 1
leaves_of (NewArray n splats) = 1
leaves_of (NewHash n) = 1
leaves_of (NewRange form) = 1
leaves_of (ConcatStrings n) = 1
leaves_of ObjToString = 1
leaves_of AnyToString = 1
leaves_of (Send name n splats flags q) = 1
leaves_of (InvokeSuper n splats flags q) = 1
leaves_of (InvokeBlock n splats) = 1
leaves_of (DefineClass name q form) = 1
leaves_of CheckMatch = 1
leaves_of (Throw n) = if n == 0 then 0 else 1
leaves_of (ExpandArray n) = n
leaves_of _ = 0

-- How many values have to be there: those that it takes, or else the one that it looks at or writes over and all above.
abbrev pub needs_of : Instr → ℕ
needs_of Dup = 1
needs_of (TopN n) = n + 1
needs_of (SetN n) = n + 1
needs_of i = takes_of i

-- the depth after it, from the depth before it
abbrev pub depth_after : Instr → ℕ → ℕ
depth_after i depth = depth - takes_of i + leaves_of i

-- Where it may jump to.
abbrev pub target_of : Instr → Option ℕ
target_of (Jump t) = Some t
target_of (BranchIf t) = Some t
target_of (BranchUnless t) = Some t
target_of (BranchNil t) = Some t
target_of _ = None

-- Whether it leads to the instruction after it. A throw other than 0 counts as leading there.
abbrev pub goes_on : Instr → Bool
goes_on (Jump t) = false
goes_on (Throw n) = not (n == 0)
goes_on Leave = false
goes_on _ = true

-- Whether a body may end with it.
abbrev pub is_ending : Instr → Bool
is_ending (Jump t) = true
is_ending (Throw n) = true
is_ending Leave = true
is_ending _ = false
