-- What the machine does with a small file's unit is the run of the file's lines.
use Rattle.std.proofs.Common.{◌≡◌, ℕ, ℤ, ◌+◌, ◌<◌, true, nat_lt, Option, Some, None, List, [], ◌∷◌, ◌++◌, length, map, slice_set, refl, sym, ap, ◌∙◌, append_assoc, arith}
use Rattle.std.specs.Prelude.{codes}
use Rattle.std.proofs.lemmas.List.{map-append}
use Rattle.std.specs.List.{flat_map}
use Rattle.std.specs.Option.{IfSome, option_map}
use Rattle.std.specs.FinMap as finmap
use Rattle.std.specs.Fmt.{signed_decimal}
use Rattle.std.proofs.lemmas.Option.{same_Some, none-some}
use Rattle.std.proofs.lemmas.Bool.Decides.{nat_tests}
use Rattle.iseq_types.specs.declared.instructions.Instr.{Instr}
use Rattle.iseq_types.specs.declared.instructions.Instr.TheVariants as instr
use Rattle.iseq_types.specs.declared.sequences.Line.{Line as CodeLine}
use Rattle.iseq_types.specs.declared.sequences.Unit.{Unit as CompiledUnit}
use Rattle.reference_parser.specs.ReadingOf.{Reading, reading_of}
use Rattle.reference_parser.specs.ReadingOf as reading
use Rattle.small_form.specs.SmallForm.{Names, names_after, small_of}
use Rattle.small_form.specs.declared.tree.Operand.{Operand}
use Rattle.small_form.specs.declared.tree.Operand.TheVariants as operand
use Rattle.small_form.specs.declared.tree.Operator.{Operator}
use Rattle.small_form.specs.declared.tree.Operator.TheVariants as operator
use Rattle.small_form.specs.declared.tree.Term.{Term}
use Rattle.small_form.specs.declared.tree.Sum.{Sum}
use Rattle.small_form.specs.declared.tree.Line.{Line}
use Rattle.small_form.specs.declared.tree.Line.TheVariants as line
use Rattle.small_form.specs.declared.tree.SmallFile.{SmallFile}
use Rattle.cache_meaning.specs.SmallUnit.{slot_of, locals_behind, is_among, operand_code, operator_name, term_code, sum_code, numbered, at_line, code_of, code_behind, statements_code, unit_of_program, unit_by, unit_of}
use Rattle.bootsnap_top.specs.Answer.{answer_of_program, answer_of_reading, answer_of_file}
use Rattle.bootsnap_top.specs.SmallRun.{Answer, Values, applied, in_range, value_of, total_of, sum_value, line_piece, assigned, values_after, behind, shown, ends_at, run_lines}
use Rattle.bootsnap_top.specs.Machine.{Datum, Nil, Main, Integer, state_with, answer_behind, total_pushed, call_of, run_code, run_bodies, first_state}
use Rattle.bootsnap_top.specs.declared.machine.calls.Call.TheVariants as call
use Rattle.bootsnap_top.proofs.KnownNames.{KnownOperand, KnownTerms, KnownSum, KnownLine, KnownLines, small_known}
use Rattle.bootsnap_top.proofs.Slots.{Holds, AssignsAmong, AllAssignAmong, holds_none, holds_set, slot_below, locals_have}

-- ---- sums

operand_runs : (path : List ℕ) (number : ℕ) (names : List (List ℕ)) (known : Names) (values : Values) (stack locals : List Datum) (x : Operand) (rest : List CodeLine) → KnownOperand known x → Holds names known values locals
    → run_code path (at_line number (operand_code names x) ∷ rest) (state_with stack locals) ≡ run_code path rest (state_with (Integer (value_of values x) ∷ stack) locals)
operand_runs path number names known values stack locals (operand.Number n) rest k h = refl
operand_runs path number names known values stack locals (operand.Name name) rest k h = rw (h.each name k).1 refl

-- the run goes on with the total, or ends at the line where there is none
abbrev pub with_total : List ℕ → ℕ → Option ℤ → (ℤ → Answer) → Answer
with_total path number None then = ends_at path number
with_total path number (Some total) then = then total

operator_calls : (o : Operator) → call_of (operator_name o) 1 [] 0 0 ≡ call.Apply o
operator_calls operator.Plus = refl
operator_calls operator.Minus = refl

terms_run : (path : List ℕ) (number : ℕ) (names : List (List ℕ)) (known : Names) (values : Values) (stack locals : List Datum) (rest : List CodeLine) (terms : List Term) (total : ℤ) → KnownTerms known terms → Holds names known values locals
    → run_code path (map (at_line number) (flat_map (term_code names) terms) ++ rest) (state_with (Integer total ∷ stack) locals)
    ≡ with_total path number (total_of values (Some total) terms) (λ v. run_code path rest (state_with (Integer v ∷ stack) locals))
terms_run path number names known values stack locals rest [] total k h = refl
terms_run path number names known values stack locals rest (term ∷ terms) total k h =
    let value = value_of values term.operand in
    let more = map (at_line number) (flat_map (term_code names) terms) ++ rest in
    let goal : Option ℤ → Type 0 = λ r. answer_behind path (total_pushed number r stack locals) (run_code path more) ≡ with_total path number (total_of values r terms) (λ v. run_code path rest (state_with (Integer v ∷ stack) locals)) in
    let next : goal (in_range (applied term.operator total value)) = elim (in_range (applied term.operator total value)) as goal [
      | None ↦ refl
      | Some z ↦ terms_run path number names known values stack locals rest terms z k.1 h
    ] in
    operand_runs path number names known values (Integer total ∷ stack) locals term.operand (at_line number (instr.Send (operator_name term.operator) 1 [] 0 0) ∷ more) k.0 h
    ∙ rw (operator_calls term.operator) next

sum_runs : (path : List ℕ) (number : ℕ) (names : List (List ℕ)) (known : Names) (values : Values) (stack locals : List Datum) (rest : List CodeLine) (s : Sum) → KnownSum known s → Holds names known values locals
    → run_code path (map (at_line number) (sum_code names s) ++ rest) (state_with stack locals)
    ≡ with_total path number (sum_value values s) (λ v. run_code path rest (state_with (Integer v ∷ stack) locals))
sum_runs path number names known values stack locals rest s k h =
    operand_runs path number names known values stack locals s.first (map (at_line number) (flat_map (term_code names) s.rest) ++ rest) k.0 h
    ∙ terms_run path number names known values stack locals rest s.rest (value_of values s.first) k.1 h

-- ---- statements

code_split : (number : ℕ) (a b : List Instr) (rest : List CodeLine) → map (at_line number) (a ++ b) ++ rest ≡ map (at_line number) a ++ (map (at_line number) b ++ rest)
code_split number a b rest = ap (λ l. l ++ rest) (map-append (at_line number) a b) ∙ append_assoc (map (at_line number) a) (map (at_line number) b) rest

below_true : (n m : ℕ) → n < m → nat_lt n m ≡ true
below_true n m h = grind (arith, nat_tests)

-- each line but an empty one has a statement
abbrev pub IsStatement : Line → Type 0
IsStatement line.Empty = ⊥
IsStatement (line.Assign name s) = Unit {0}
IsStatement (line.PutsSum s) = Unit {0}
IsStatement (line.PutsText text) = Unit {0}

-- whatever stands on top and in the slots behind the line, if the slots hold the values behind it, the rest has this answer
abbrev pub GoesOn : List ℕ → List (List ℕ) → Names → Values → List Datum → List CodeLine → Answer → Type 0
GoesOn path names known values stack rest next = (top : Datum) (locals : List Datum) → Holds names known values locals → run_code path rest (state_with (top ∷ stack) locals) ≡ next

assign_runs : (path : List ℕ) (number : ℕ) (names : List (List ℕ)) (known : Names) (values : Values) (stack locals : List Datum) (rest : List CodeLine) (name : List ℕ) (next : Answer) (total : Option ℤ) → is_among names name ≡ true → Holds names known values locals
    → GoesOn path names (finmap.insert known name tt) (assigned values name total) stack rest next
    → with_total path number total (λ v. run_code path (at_line number instr.Dup ∷ at_line number (instr.SetLocal (slot_of names name) 0) ∷ rest) (state_with (Integer v ∷ stack) locals))
    ≡ shown path number (option_map (λ v. []) total) next
assign_runs path number names known values stack locals rest name next None m h g = refl
assign_runs path number names known values stack locals rest name next (Some v) m h g =
    let slot : slot_of names name < length locals = omega (arith, slot_below names name m, h.count) in
    rw (below_true (slot_of names name) (length locals) slot) (g (Integer v) (slice_set locals (slot_of names name) (Integer v)) (holds_set names known values locals name v m h))

puts_runs : (path : List ℕ) (number : ℕ) (names : List (List ℕ)) (known : Names) (values : Values) (stack locals : List Datum) (rest : List CodeLine) (next : Answer) (total : Option ℤ) → Holds names known values locals
    → GoesOn path names known values stack rest next
    → with_total path number total (λ v. run_code path (at_line number (instr.Send (codes "puts") 1 [] 1 0) ∷ rest) (state_with (Integer v ∷ Main ∷ stack) locals))
    ≡ shown path number (option_map (λ v. signed_decimal v ++ 10 ∷ []) total) next
puts_runs path number names known values stack locals rest next None h g = refl
puts_runs path number names known values stack locals rest next (Some v) h g = ap (behind (signed_decimal v ++ 10 ∷ [])) (g Nil locals h)

statement_runs : (path : List ℕ) (number : ℕ) (names : List (List ℕ)) (known : Names) (values : Values) (stack locals : List Datum) (rest : List CodeLine) (next : Answer) (l : Line) → KnownLine known l → AssignsAmong names l → Holds names known values locals
    → IsStatement l → GoesOn path names (names_after known (Some l)) (values_after values l) stack rest next
    → run_code path (code_of names (number, l) ++ rest) (state_with stack locals) ≡ shown path number (line_piece values l) next
statement_runs path number names known values stack locals rest next line.Empty k m h s g = absurd s
statement_runs path number names known values stack locals rest next (line.Assign name sum) k m h s g =
    ap (λ (code : List CodeLine). run_code path code (state_with stack locals)) (code_split number (sum_code names sum) (instr.Dup ∷ instr.SetLocal (slot_of names name) 0 ∷ []) rest)
    ∙ sum_runs path number names known values stack locals (at_line number instr.Dup ∷ at_line number (instr.SetLocal (slot_of names name) 0) ∷ rest) sum k h
    ∙ assign_runs path number names known values stack locals rest name next (sum_value values sum) m h g
statement_runs path number names known values stack locals rest next (line.PutsSum sum) k m h s g =
    ap (λ (code : List CodeLine). run_code path code (state_with (Main ∷ stack) locals)) (code_split number (sum_code names sum) (instr.Send (codes "puts") 1 [] 1 0 ∷ []) rest)
    ∙ sum_runs path number names known values (Main ∷ stack) locals (at_line number (instr.Send (codes "puts") 1 [] 1 0) ∷ rest) sum k h
    ∙ puts_runs path number names known values stack locals rest next (sum_value values sum) h g
statement_runs path number names known values stack locals rest next (line.PutsText text) k m h s g = ap (behind (text ++ 10 ∷ [])) (g Nil locals h)

-- ---- lines

abbrev pub leaving : List CodeLine
leaving = at_line 1 instr.Leave ∷ []

first_behind : (path : List ℕ) (number : ℕ) (names : List (List ℕ)) (known : Names) (values : Values) (stack locals : List Datum) (l : Line) (lines : List Line) → KnownLines known (l ∷ lines) → AllAssignAmong names (l ∷ lines) → Holds names known values locals → IsStatement l
    → GoesOn path names (names_after known (Some l)) (values_after values l) stack (flat_map (code_behind names) (numbered (number + 1) lines) ++ leaving) (run_lines path (number + 1) (values_after values l) lines)
    → run_code path ((code_of names (number, l) ++ flat_map (code_behind names) (numbered (number + 1) lines)) ++ leaving) (state_with stack locals) ≡ run_lines path number values (l ∷ lines)
first_behind path number names known values stack locals l lines k m h s g =
    ap (λ (code : List CodeLine). run_code path code (state_with stack locals)) (append_assoc (code_of names (number, l)) (flat_map (code_behind names) (numbered (number + 1) lines)) leaving)
    ∙ statement_runs path number names known values stack locals (flat_map (code_behind names) (numbered (number + 1) lines) ++ leaving) (run_lines path (number + 1) (values_after values l) lines) l k.0 m.0 h s g

-- a statement behind another
next_behind : (path : List ℕ) (number : ℕ) (names : List (List ℕ)) (known : Names) (values : Values) (stack locals : List Datum) (lines : List Line) → KnownLines known lines → AllAssignAmong names lines → Holds names known values locals → (top : Datum)
    → run_code path (flat_map (code_behind names) (numbered number lines) ++ leaving) (state_with (top ∷ stack) locals) ≡ run_lines path number values lines
next_behind path number names known values stack locals [] k m h top = refl
next_behind path number names known values stack locals (line.Empty ∷ lines) k m h top = next_behind path (number + 1) names known values stack locals lines k.1 m.1 h top
next_behind path number names known values stack locals (line.Assign name sum ∷ lines) k m h top =
    first_behind path number names known values stack locals (line.Assign name sum) lines k m h tt (λ t l held. next_behind path (number + 1) names _ _ stack l lines k.1 m.1 held t)
next_behind path number names known values stack locals (line.PutsSum sum ∷ lines) k m h top =
    first_behind path number names known values stack locals (line.PutsSum sum) lines k m h tt (λ t l held. next_behind path (number + 1) names _ _ stack l lines k.1 m.1 held t)
next_behind path number names known values stack locals (line.PutsText text ∷ lines) k m h top =
    first_behind path number names known values stack locals (line.PutsText text) lines k m h tt (λ t l held. next_behind path (number + 1) names _ _ stack l lines k.1 m.1 held t)

-- all statements
statements_run : (path : List ℕ) (number : ℕ) (names : List (List ℕ)) (known : Names) (values : Values) (stack locals : List Datum) (lines : List Line) → KnownLines known lines → AllAssignAmong names lines → Holds names known values locals
    → run_code path (statements_code names (numbered number lines) ++ leaving) (state_with stack locals) ≡ run_lines path number values lines
statements_run path number names known values stack locals [] k m h = refl
statements_run path number names known values stack locals (line.Empty ∷ lines) k m h = statements_run path (number + 1) names known values stack locals lines k.1 m.1 h
statements_run path number names known values stack locals (line.Assign name sum ∷ lines) k m h =
    first_behind path number names known values stack locals (line.Assign name sum) lines k m h tt (λ t l held. next_behind path (number + 1) names _ _ stack l lines k.1 m.1 held t)
statements_run path number names known values stack locals (line.PutsSum sum ∷ lines) k m h =
    first_behind path number names known values stack locals (line.PutsSum sum) lines k m h tt (λ t l held. next_behind path (number + 1) names _ _ stack l lines k.1 m.1 held t)
statements_run path number names known values stack locals (line.PutsText text ∷ lines) k m h =
    first_behind path number names known values stack locals (line.PutsText text) lines k m h tt (λ t l held. next_behind path (number + 1) names _ _ stack l lines k.1 m.1 held t)

-- ---- units

program_answer : (path : List ℕ) (program : Option SmallFile) (unit : CompiledUnit) → IfSome program (λ p. KnownLines finmap.empty p.lines) → option_map (unit_of_program path) program ≡ Some unit → run_bodies path unit.bodies ≡ answer_of_program path program
program_answer path None unit k e = absurd (none-some unit e)
program_answer path (Some program) unit k e =
    let locals = locals_behind [] program.lines in
    let all = statements_run path 1 locals finmap.empty finmap.empty [] (first_state (length locals)).locals program.lines k (locals_have [] program.lines) (holds_none locals) in
    ap (λ (u : CompiledUnit). run_bodies path u.bodies) (sym (same_Some (unit_of_program path program) unit e)) ∙ all

reading_answer : (path : List ℕ) (r : Reading) (unit : CompiledUnit) → unit_by path r ≡ Some unit → run_bodies path unit.bodies ≡ answer_of_reading path r
reading_answer path (reading.fault line) unit e = absurd (none-some unit e)
reading_answer path (reading.tree t) unit e = program_answer path (small_of t) unit (small_known t) e

-- the run of a file's unit is that of its text
pub unit_answer : (path text : List ℕ) (unit : CompiledUnit) → unit_of path text ≡ Some unit → run_bodies path unit.bodies ≡ answer_of_file path (Some text)
unfolding unit_of
unit_answer path text unit e = reading_answer path (reading_of text) unit e
