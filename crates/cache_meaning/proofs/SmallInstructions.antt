-- The instructions of a small file: which there are, and with which operands.
use Rattle.std.proofs.Common.{◌≡◌, ℕ, pos, negsuc, ◌+◌, ◌^◌, ◌<◌, ◌≤◌, List, [], ◌∷◌, ◌++◌, map, length, refl, arith}
use Rattle.std.specs.Prelude.{⊤}
use Rattle.std.specs.List.{flat_map, AllByRecursion}
use Rattle.iseq_types.specs.declared.instructions.Instr.{Instr}
use Rattle.iseq_types.specs.declared.instructions.Instr.TheVariants.{Pop, Dup, PutNil, PutSelf, PutObject, PutString, GetLocal, SetLocal, Send, Leave}
use Rattle.iseq_types.specs.declared.instructions.Literal.{Literal}
use Rattle.iseq_types.specs.declared.instructions.Literal.TheVariants.{Int}
use Rattle.iseq_types.specs.declared.sequences.Line.{Line as CodeLine}
use Rattle.small_form.specs.declared.tree.Operand.{Operand}
use Rattle.small_form.specs.declared.tree.Operand.TheVariants as operand
use Rattle.small_form.specs.declared.tree.Operator.{Operator}
use Rattle.small_form.specs.declared.tree.Operator.TheVariants as operator
use Rattle.small_form.specs.declared.tree.Term.{Term}
use Rattle.small_form.specs.declared.tree.Sum.{Sum}
use Rattle.small_form.specs.declared.tree.Line.{Line}
use Rattle.small_form.specs.declared.tree.Line.TheVariants as line
use Rattle.cache_meaning.specs.SmallUnit.{is_among, locals_behind, operand_code, operator_name, term_code, sum_code, puts_code, statement_code, numbered, at_line, code_of, code_behind, statements_code, file_sequence}
use Rattle.cache_meaning.proofs.SmallLines.{IsOperandBy, IsTermBy, IsSumBy, FitsLocals, IsSmallProgram, slot_below}

-- ---- what an instruction may be

abbrev pub IsSmallLiteral : Literal → Type 0
IsSmallLiteral (Int (pos n)) = n < 2 ^ 63
IsSmallLiteral _ = ⊥

-- a local's slot among so many, in the sequence's own environment
pub record IsOwnSlot (count slot level : ℕ) : Type 0 where
  pub within : slot < count
  pub own : level ≡ 0

-- a call with a short name and one argument, no splats and no block
pub record IsSmallSend (name : List ℕ) (n : ℕ) (splats : List ℕ) (flags q : ℕ) : Type 0 where
  pub short : length name ≤ 4
  pub one : n ≡ 1
  pub no_splats : splats ≡ []
  pub self_or_none : flags ≤ 1
  pub no_block : q ≡ 0

-- an instruction of a small file with so many locals
abbrev pub IsSmallInstr : ℕ → Instr → Type 0
IsSmallInstr count Pop = ⊤
IsSmallInstr count Dup = ⊤
IsSmallInstr count PutNil = ⊤
IsSmallInstr count PutSelf = ⊤
IsSmallInstr count (PutObject value) = IsSmallLiteral value
IsSmallInstr count (PutString text) = ⊤
IsSmallInstr count (GetLocal slot level) = IsOwnSlot count slot level
IsSmallInstr count (SetLocal slot level) = IsOwnSlot count slot level
IsSmallInstr count (Send name n splats flags q) = IsSmallSend name n splats flags q
IsSmallInstr count Leave = ⊤
IsSmallInstr count _ = ⊥

-- such an instruction, in one of the lines
pub record IsSmallLine (count : ℕ) (line : CodeLine) : Type 0 where
  pub number : line.line ≤ 1000
  pub instr : IsSmallInstr count line.instr

-- ---- lists

pub all_append : {X : Type 0} (P : X → Type 0) (xs ys : List X) → AllByRecursion P xs → AllByRecursion P ys → AllByRecursion P (xs ++ ys)
all_append P [] ys a b = b
all_append P (x ∷ xs) ys a b = (a.0, all_append P xs ys a.1 b)

all_flat_map : {X Y : Type 0} (P : Y → Type 0) (Q : X → Type 0) (f : X → List Y) → ((x : X) → Q x → AllByRecursion P (f x)) → (xs : List X) → AllByRecursion Q xs → AllByRecursion P (flat_map f xs)
all_flat_map P Q f each [] a = tt
all_flat_map P Q f each (x ∷ xs) a = all_append P (f x) (flat_map f xs) (each x a.0) (all_flat_map P Q f each xs a.1)

-- ---- the code of a statement

operator_short : (o : Operator) → length (operator_name o) ≤ 4
operator_short operator.Plus = omega arith
operator_short operator.Minus = omega arith

module _ (locals : List (List ℕ)) where
  operand_small : (x : Operand) → IsOperandBy (λ name. is_among locals name) x → IsSmallInstr (length locals) (operand_code locals x)
  operand_small (operand.Number (pos n)) is = is
  operand_small (operand.Number (negsuc n)) is = absurd is
  operand_small (operand.Name name) is = record { within = slot_below locals name is; own = refl }

  term_small : (term : Term) → IsTermBy (λ name. is_among locals name) term → AllByRecursion (IsSmallInstr (length locals)) (term_code locals term)
  term_small term is = (operand_small term.operand is, (record { short = operator_short term.operator; one = refl; no_splats = refl; self_or_none = omega arith; no_block = refl }, tt))

  sum_small : (s : Sum) → IsSumBy (λ name. is_among locals name) s → AllByRecursion (IsSmallInstr (length locals)) (sum_code locals s)
  sum_small s is = (operand_small s.first is.first, all_flat_map (IsSmallInstr (length locals)) (IsTermBy (λ name. is_among locals name)) (term_code locals) term_small s.rest is.rest)

  puts_small : (code : List Instr) → AllByRecursion (IsSmallInstr (length locals)) code → AllByRecursion (IsSmallInstr (length locals)) (puts_code code)
  puts_small code are = (tt, all_append (IsSmallInstr (length locals)) code _ are (record { short = omega arith; one = refl; no_splats = refl; self_or_none = omega arith; no_block = refl }, tt))

  statement_small : (l : Line) → FitsLocals locals l → AllByRecursion (IsSmallInstr (length locals)) (statement_code locals l)
  statement_small line.Empty fits = tt
  statement_small (line.Assign name s) fits =
      all_append (IsSmallInstr (length locals)) (sum_code locals s) _ (sum_small s fits.reads) (tt, (record { within = slot_below locals name fits.assigns; own = refl }, tt))
  statement_small (line.PutsSum s) fits = puts_small (sum_code locals s) (sum_small s fits.reads)
  statement_small (line.PutsText text) fits = puts_small (PutString text ∷ []) (tt, tt)

  -- ---- the code of all

  pub record FitsStatement (statement : ℕ × Line) : Type 0 where
    pub number : statement.0 ≤ 1000
    pub line : FitsLocals locals statement.1

  numbered_fit : (number : ℕ) (lines : List Line) → number + length lines ≤ 1001 → AllByRecursion (FitsLocals locals) lines → AllByRecursion FitsStatement (numbered number lines)
  numbered_fit number [] few fit = tt
  numbered_fit number (line.Empty ∷ lines) few fit = numbered_fit (number + 1) lines (omega arith) fit.1
  numbered_fit number (line.Assign name s ∷ lines) few fit = (record { number = omega arith; line = fit.0 }, numbered_fit (number + 1) lines (omega arith) fit.1)
  numbered_fit number (line.PutsSum s ∷ lines) few fit = (record { number = omega arith; line = fit.0 }, numbered_fit (number + 1) lines (omega arith) fit.1)
  numbered_fit number (line.PutsText text ∷ lines) few fit = (record { number = omega arith; line = fit.0 }, numbered_fit (number + 1) lines (omega arith) fit.1)

  at_line_small : (number : ℕ) (code : List Instr) → number ≤ 1000 → AllByRecursion (IsSmallInstr (length locals)) code → AllByRecursion (IsSmallLine (length locals)) (map (at_line number) code)
  at_line_small number [] le are = tt
  at_line_small number (i ∷ code) le are = (record { number = le; instr = are.0 }, at_line_small number code le are.1)

  code_of_small : (statement : ℕ × Line) → FitsStatement statement → AllByRecursion (IsSmallLine (length locals)) (code_of locals statement)
  code_of_small statement fits = at_line_small statement.0 (statement_code locals statement.1) fits.number (statement_small statement.1 fits.line)

  code_behind_small : (statement : ℕ × Line) → FitsStatement statement → AllByRecursion (IsSmallLine (length locals)) (code_behind locals statement)
  code_behind_small statement fits = (record { number = omega arith; instr = tt }, code_of_small statement fits)

  statements_small : (statements : List (ℕ × Line)) → AllByRecursion FitsStatement statements → AllByRecursion (IsSmallLine (length locals)) (statements_code locals statements)
  statements_small [] fit = (record { number = omega arith; instr = tt }, tt)
  statements_small (statement ∷ statements) fit =
      all_append (IsSmallLine (length locals)) (code_of locals statement) _ (code_of_small statement fit.0) (all_flat_map (IsSmallLine (length locals)) FitsStatement (code_behind locals) code_behind_small statements fit.1)

-- each instruction of a small file's sequence is one of these
pub code_small : (lines : List Line) → IsSmallProgram lines → AllByRecursion (IsSmallLine (length (locals_behind [] lines))) (file_sequence lines).code
code_small lines small =
    all_append (IsSmallLine (length (locals_behind [] lines))) (statements_code (locals_behind [] lines) (numbered 1 lines)) (at_line 1 Leave ∷ [])
    (statements_small (locals_behind [] lines) (numbered 1 lines) (numbered_fit (locals_behind [] lines) 1 lines (omega (arith, small.few)) small.fit)) (record { number = omega arith; instr = tt }, tt)
