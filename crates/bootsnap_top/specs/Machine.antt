-- What the machine does: values on a stack and in slots, and instructions that go straight on from the first to the last.
use Rattle.std.specs.Prelude.{◌≡◌, ℕ, ℤ, ◌==◌, Bool, true, false, cond, ◌&&◌, nat_lt, Option, None, Some, List, [], ◌∷◌, ◌++◌, length, replicate, slice_get, slice_set, codes}
use Rattle.std.specs.Fmt.{signed_decimal}
use Rattle.bs_outside.specs.Paths.{same_bytes}
use Rattle.iseq_types.specs.declared.instructions.Instr.{Instr}
use Rattle.iseq_types.specs.declared.instructions.Instr.TheVariants as instr
use Rattle.iseq_types.specs.declared.instructions.Literal.{Literal}
use Rattle.iseq_types.specs.declared.instructions.Literal.TheVariants as literal
use Rattle.iseq_types.specs.declared.sequences.Line.{Line as CodeLine}
use Rattle.iseq_types.specs.declared.sequences.Sequence.{Sequence}
use Rattle.small_form.specs.SmallForm.{operator_of}
use Rattle.small_form.specs.declared.tree.Operator.{Operator}
use Rattle.bootsnap_top.specs.SmallRun.{Answer, behind, ends_at, ends_well, in_range, applied}
use Rattle.bootsnap_top.specs.declared.ending.Ending.TheVariants as ending
use Rattle.bootsnap_top.specs.declared.machine.calls.Call.{Call}
use Rattle.bootsnap_top.specs.declared.machine.calls.Call.TheVariants as call
use Rattle.bootsnap_top.specs.declared.machine.values.Value.{Value}
use Rattle.bootsnap_top.specs.declared.machine.values.Value.TheVariants as value
use Rattle.bootsnap_top.specs.declared.machine.steps.End.{End}
use Rattle.bootsnap_top.specs.declared.machine.steps.End.TheVariants as end
use Rattle.bootsnap_top.specs.declared.machine.steps.Step.{Step}
use Rattle.bootsnap_top.specs.declared.machine.steps.Step.TheVariants as step

-- A value: nil, the self of a file, an Integer, or a text.
pub data Datum : Type 0 where
  Nil : Datum
  Main : Datum
  Integer : ℤ → Datum
  Bytes : List ℕ → Datum

-- the value, without where its text lies
abbrev pub datum_of : Value → Datum
datum_of value.Nil = Nil
datum_of value.Main = Main
datum_of (value.Integer z) = Integer z
datum_of (value.Text text) = Bytes text.now

-- The values on the stack, the top first, and those of the locals, by slot.
pub record MachineState : Type 0 where
  pub stack : List Datum
  pub locals : List Datum

abbrev pub state_with : List Datum → List Datum → MachineState
state_with stack locals = record { stack = stack; locals = locals }

-- What an instruction does: it goes on, with what it wrote, or it ends the run.
pub data Stepped : Type 0 where
  Goes : List ℕ → MachineState → Stepped
  Ends : End → Stepped

abbrev pub stepped_of : Step → MachineState → Stepped
stepped_of (step.On piece) state = Goes piece state
stepped_of (step.Ends end) state = Ends end

abbrev pub goes_on : List Datum → List Datum → Stepped
goes_on stack locals = Goes [] (state_with stack locals)

-- ---- what instructions take from the stack

abbrev pub with_top : List Datum → (Datum → List Datum → Stepped) → Stepped
with_top [] then = Ends end.NotYet
with_top (top ∷ stack) then = then top stack

abbrev pub integer_of : Datum → Option ℤ
integer_of Nil = None
integer_of Main = None
integer_of (Integer z) = Some z
integer_of (Bytes text) = None

abbrev pub with_number : Option ℤ → (ℤ → Stepped) → Stepped
with_number None then = Ends end.NotYet
with_number (Some z) then = then z

abbrev pub with_integer : List Datum → (ℤ → List Datum → Stepped) → Stepped
with_integer stack then = with_top stack (λ top rest. with_number (integer_of top) (λ z. then z rest))

abbrev pub is_main : Datum → Bool
is_main Nil = false
is_main Main = true
is_main (Integer z) = false
is_main (Bytes text) = false

abbrev pub with_main : List Datum → (List Datum → Stepped) → Stepped
with_main stack then = with_top stack (λ top rest. cond (is_main top) (then rest) (Ends end.NotYet))

-- ---- instructions

-- the value of a literal; of the literals only Integers are there
abbrev pub literal_datum : Literal → Option Datum
literal_datum literal.True = None
literal_datum literal.False = None
literal_datum (literal.Int z) = Some (Integer z)
literal_datum (literal.Sym name) = None

abbrev pub pushed : Option Datum → List Datum → List Datum → Stepped
pushed None stack locals = Ends end.NotYet
pushed (Some top) stack locals = goes_on (top ∷ stack) locals

-- only the file's own locals, at level 0, are there
abbrev pub local_pushed : ℕ → ℕ → List Datum → List Datum → Stepped
local_pushed slot level stack locals = cond (level == 0) (pushed (slice_get locals slot) stack locals) (Ends end.NotYet)

abbrev pub local_set : ℕ → ℕ → List Datum → List Datum → Stepped
local_set slot level stack locals =
    cond (level == 0 && nat_lt slot (length locals)) (with_top stack (λ top rest. goes_on rest (slice_set locals slot top))) (Ends end.NotYet)

abbrev pub operator_call : Option Operator → Call
operator_call None = call.Other
operator_call (Some operator) = call.Apply operator

-- The call of a Send: a sum or a difference, or `puts` to self; there are no others by now.
abbrev pub call_of : List ℕ → ℕ → List ℕ → ℕ → ℕ → Call
call_of name count spread flags block =
    cond (count == 1 && (length spread == 0 && block == 0)) (cond (flags == 0) (operator_call (operator_of name)) (cond (flags == 1 && same_bytes name (codes "puts")) call.Puts call.Other)) call.Other

abbrev pub total_pushed : ℕ → Option ℤ → List Datum → List Datum → Stepped
total_pushed number None stack locals = Ends (end.OutOfRange number)
total_pushed number (Some z) stack locals = goes_on (Integer z ∷ stack) locals

-- the line that `puts` writes
abbrev pub line_of_datum : Datum → Option (List ℕ)
line_of_datum Nil = None
line_of_datum Main = None
line_of_datum (Integer z) = Some (signed_decimal z ++ 10 ∷ [])
line_of_datum (Bytes text) = Some (text ++ 10 ∷ [])

abbrev pub written : Option (List ℕ) → List Datum → List Datum → Stepped
written None stack locals = Ends end.NotYet
written (Some piece) stack locals = Goes piece (state_with (Nil ∷ stack) locals)

abbrev pub called : ℕ → Call → List Datum → List Datum → Stepped
called number (call.Apply operator) stack locals = with_integer stack (λ value rest. with_integer rest (λ total left. total_pushed number (in_range (applied operator total value)) left locals))
called number call.Puts stack locals = with_top stack (λ top rest. with_main rest (λ left. written (line_of_datum top) left locals))
called number call.Other stack locals = Ends end.NotYet

-- What the instruction does, which stands in the line with this number.
abbrev pub instr_step : ℕ → Instr → List Datum → List Datum → Stepped
instr_step number instr.Pop stack locals = with_top stack (λ top rest. goes_on rest locals)
instr_step number instr.Dup stack locals = with_top stack (λ top rest. goes_on (top ∷ top ∷ rest) locals)
instr_step number instr.PutNil stack locals = goes_on (Nil ∷ stack) locals
instr_step number instr.PutSelf stack locals = goes_on (Main ∷ stack) locals
instr_step number (instr.PutObject object) stack locals = pushed (literal_datum object) stack locals
instr_step number (instr.PutString text) stack locals = goes_on (Bytes text ∷ stack) locals
instr_step number (instr.GetLocal slot level) stack locals = local_pushed slot level stack locals
instr_step number (instr.SetLocal slot level) stack locals = local_set slot level stack locals
instr_step number (instr.Send name count spread flags block) stack locals = called number (call_of name count spread flags block) stack locals
instr_step number instr.Leave stack locals = with_top stack (λ top rest. Ends end.Left)
instr_step number _ stack locals = Ends end.NotYet

abbrev pub step_of : MachineState → CodeLine → Stepped
step_of state line = instr_step line.line line.instr state.stack state.locals

-- ---- code

abbrev pub not_yet : Answer
not_yet = record { output = []; errors = []; ending = ending.NotYet }

-- the answer of a run that ends so
abbrev pub end_answer : List ℕ → End → Answer
end_answer path end.Left = ends_well
end_answer path (end.OutOfRange number) = ends_at path number
end_answer path end.NotYet = not_yet

-- The answer's error text and ending are those of a run that ends so.
pub record EndsWith (path : List ℕ) (end : End) (answer : Answer) : Type 0 where
  pub errors : answer.errors ≡ (end_answer path end).errors
  pub ending_is : answer.ending ≡ (end_answer path end).ending

abbrev pub answer_behind : List ℕ → Stepped → (MachineState → Answer) → Answer
answer_behind path (Goes piece state) rest = behind piece (rest state)
answer_behind path (Ends end) rest = end_answer path end

-- The run of the code of the file at the path: from the first instruction on, up to one that ends it.
abbrev pub run_code : List ℕ → List CodeLine → MachineState → Answer
run_code path [] state = not_yet
run_code path (line ∷ code) state = answer_behind path (step_of state line) (run_code path code)

-- at first the stack is empty, and the locals are nil
abbrev pub first_state : ℕ → MachineState
first_state count = state_with [] (replicate count Nil)

-- The run of a file's unit: of the code of its first sequence.
abbrev pub run_bodies : List ℕ → List Sequence → Answer
run_bodies path [] = not_yet
run_bodies path (file ∷ more) = run_code path file.code (first_state (length file.locals))
