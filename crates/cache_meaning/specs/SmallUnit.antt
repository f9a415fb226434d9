-- A small file compiled: one sequence, whose instructions go straight on from the first to the last.
use Rattle.std.specs.Prelude.{ℕ, ◌+◌, Bool, false, cond, unwrap_or, Option, None, List, [], ◌∷◌, ◌++◌, length, map, codes}
use Rattle.std.specs.List.{flat_map, list_any, position}
use Rattle.std.specs.Option.{option_map}
use Rattle.bs_outside.specs.Paths.{same_bytes}
use Rattle.iseq_types.specs.declared.instructions.Instr.{Instr}
use Rattle.iseq_types.specs.declared.instructions.Instr.TheVariants.{Pop, Dup, PutNil, PutSelf, PutObject, PutString, GetLocal, SetLocal, Send, Leave}
use Rattle.iseq_types.specs.declared.instructions.Literal.TheVariants.{Int}
use Rattle.iseq_types.specs.declared.sequences.SeqKind.TheVariants as kinds
use Rattle.iseq_types.specs.declared.sequences.Line.{Line as CodeLine}
use Rattle.iseq_types.specs.declared.sequences.Sequence.{Sequence}
use Rattle.iseq_types.specs.declared.sequences.IndexRow.{IndexRow}
use Rattle.iseq_types.specs.declared.sequences.Unit.{Unit as CompiledUnit}
use Rattle.reference_parser.specs.ReadingOf.{Reading, tree, fault, reading_of}
use Rattle.small_form.specs.SmallForm.{small_of}
use Rattle.small_form.specs.declared.tree.Operand.{Operand}
use Rattle.small_form.specs.declared.tree.Operand.TheVariants as operand
use Rattle.small_form.specs.declared.tree.Operator.{Operator}
use Rattle.small_form.specs.declared.tree.Operator.TheVariants as operator
use Rattle.small_form.specs.declared.tree.Term.{Term}
use Rattle.small_form.specs.declared.tree.Sum.{Sum}
use Rattle.small_form.specs.declared.tree.Line.{Line}
use Rattle.small_form.specs.declared.tree.Line.TheVariants as line
use Rattle.small_form.specs.declared.tree.SmallFile.{SmallFile}

-- ---- locals

abbrev pub is_among : List (List ℕ) → List ℕ → Bool
is_among names name = list_any (λ other. same_bytes other name) names

-- a name takes the next slot where it first appears
abbrev pub with_name : List (List ℕ) → List ℕ → List (List ℕ)
with_name names name = cond (is_among names name) names (names ++ name ∷ [])

-- The locals behind these lines, in the order in which they first appear.
abbrev pub locals_behind : List (List ℕ) → List Line → List (List ℕ)
locals_behind names [] = names
locals_behind names (line.Empty ∷ lines) = locals_behind names lines
locals_behind names (line.Assign name s ∷ lines) = locals_behind (with_name names name) lines
locals_behind names (line.PutsSum s ∷ lines) = locals_behind names lines
locals_behind names (line.PutsText text ∷ lines) = locals_behind names lines

abbrev pub slot_of : List (List ℕ) → List ℕ → ℕ
slot_of locals name = unwrap_or (position (λ other. same_bytes other name) locals) 0

-- ---- statements

-- what puts an operand's value on the stack
abbrev pub operand_code : List (List ℕ) → Operand → Instr
operand_code locals (operand.Number n) = PutObject (Int n)
operand_code locals (operand.Name name) = GetLocal (slot_of locals name) 0

abbrev pub operator_name : Operator → List ℕ
operator_name operator.Plus = codes "+"
operator_name operator.Minus = codes "-"

-- The operand, and the operator sent to what stands below it: a call with one argument, no splats, no flags and no block.
abbrev pub term_code : List (List ℕ) → Term → List Instr
term_code locals term = operand_code locals term.operand ∷ Send (operator_name term.operator) 1 [] 0 0 ∷ []

abbrev pub sum_code : List (List ℕ) → Sum → List Instr
sum_code locals s = operand_code locals s.first ∷ flat_map (term_code locals) s.rest

-- `puts` sent to self with the value of this code; flag 1 says that the receiver is self
abbrev pub puts_code : List Instr → List Instr
puts_code code = PutSelf ∷ (code ++ Send (codes "puts") 1 [] 1 0 ∷ [])

-- What a line's statement does: it leaves one value on the stack. An empty line has no statement, and so no code.
abbrev pub statement_code : List (List ℕ) → Line → List Instr
statement_code locals line.Empty = []
statement_code locals (line.Assign name s) = sum_code locals s ++ Dup ∷ SetLocal (slot_of locals name) 0 ∷ []
statement_code locals (line.PutsSum s) = puts_code (sum_code locals s)
statement_code locals (line.PutsText text) = puts_code (PutString text ∷ [])

-- the lines that have statements, with their numbers
abbrev pub numbered : ℕ → List Line → List (ℕ × Line)
numbered number [] = []
numbered number (line.Empty ∷ lines) = numbered (number + 1) lines
numbered number (line.Assign name s ∷ lines) = (number, line.Assign name s) ∷ numbered (number + 1) lines
numbered number (line.PutsSum s ∷ lines) = (number, line.PutsSum s) ∷ numbered (number + 1) lines
numbered number (line.PutsText text ∷ lines) = (number, line.PutsText text) ∷ numbered (number + 1) lines

abbrev pub at_line : ℕ → Instr → CodeLine
at_line number instr = record { line = number; instr = instr }

-- each instruction of a statement stands in the statement's line
abbrev pub code_of : List (List ℕ) → ℕ × Line → List CodeLine
code_of locals statement = map (at_line statement.0) (statement_code locals statement.1)

-- A statement behind another, whose value is dropped. Statements begin with the text's first token, which stands in line 1: an empty first line is one.
abbrev pub code_behind : List (List ℕ) → ℕ × Line → List CodeLine
code_behind locals statement = at_line 1 Pop ∷ code_of locals statement

-- One statement behind another; the value of the last one stays. Where there is none, nil does.
abbrev pub statements_code : List (List ℕ) → List (ℕ × Line) → List CodeLine
statements_code locals [] = at_line 1 PutNil ∷ []
statements_code locals (statement ∷ statements) = code_of locals statement ++ flat_map (code_behind locals) statements

-- ---- the unit

-- The file's sequence. The last instruction is in the first line of the body, and a file's body begins in line 1.
abbrev pub file_sequence : List Line → Sequence
file_sequence lines = record {
  name = [];
  first_line = 1;
  locals = locals_behind [] lines;
  required = 0;
  entries = [];
  rest = false;
  block = false;
  rows = [];
  code = statements_code (locals_behind [] lines) (numbered 1 lines) ++ at_line 1 Leave ∷ [];
}

abbrev pub file_row : List Line → IndexRow
file_row lines = record { kind = kinds.File; parent = 0; locals = length (locals_behind [] lines) }

-- The unit of a small file: the file's sequence, and no other.
abbrev pub unit_of_program : List ℕ → SmallFile → CompiledUnit
unit_of_program path file = record { path = path; rows = file_row file.lines ∷ []; bodies = file_sequence file.lines ∷ [] }

-- The unit of what a file is read as. By now only a small file has one.
abbrev pub unit_by : List ℕ → Reading → Option CompiledUnit
unit_by path (tree t) = option_map (unit_of_program path) (small_of t)
unit_by path (fault line) = None

-- The unit of a file's text.
unfoldable pub unit_of : List ℕ → List ℕ → Option CompiledUnit
unit_of path text = unit_by path (reading_of text)
