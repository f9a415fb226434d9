-- The code of a small file goes straight on: each place has one depth, the one that the instructions before it leave, and each instruction finds enough.
use Rattle.std.proofs.Common.{◌≡◌, ℕ, zero, suc, ◌+◌, ◌≤◌, Some, List, [], ◌∷◌, ◌++◌, map, refl, sym, ap, subst, arith}
use Rattle.std.specs.Prelude.{codes, slice_get}
use Rattle.std.specs.List.{flat_map, AllByRecursion}
use Rattle.iseq_types.specs.declared.instructions.Instr.{Instr}
use Rattle.iseq_types.specs.declared.instructions.Instr.TheVariants.{Dup, PutSelf, PutString, SetLocal, Send, Leave}
use Rattle.iseq_types.specs.declared.sequences.Line.{Line as CodeLine}
use Rattle.iseq_types.specs.Instructions.{needs_of, depth_after}
use Rattle.small_form.specs.declared.tree.Operand.{Operand}
use Rattle.small_form.specs.declared.tree.Operand.TheVariants as operand
use Rattle.small_form.specs.declared.tree.Term.{Term}
use Rattle.small_form.specs.declared.tree.Sum.{Sum}
use Rattle.small_form.specs.declared.tree.Line.{Line}
use Rattle.small_form.specs.declared.tree.Line.TheVariants as line
use Rattle.cache_meaning.specs.SmallUnit.{locals_behind, operand_code, term_code, sum_code, puts_code, statement_code, numbered, at_line, code_of, code_behind, statements_code, file_sequence, slot_of}

-- ---- instructions that go straight on

-- From one depth each of the instructions finds enough, and they lead to the other depth.
abbrev Leads : ℕ → List Instr → ℕ → Type 0
Leads before [] after = before ≡ after
Leads before (i ∷ code) after = (needs_of i ≤ before) × Leads (depth_after i before) code after

-- the same of a body's lines
abbrev pub Goes : ℕ → List CodeLine → ℕ → Type 0
Goes before [] after = before ≡ after
Goes before (line ∷ code) after = (needs_of line.instr ≤ before) × Goes (depth_after line.instr before) code after

leads_append : (a b : List Instr) (before mid after : ℕ) → Leads before a mid → Leads mid b after → Leads before (a ++ b) after
leads_append [] b before mid after g h = subst (λ d. Leads d b after) (sym g) h
leads_append (i ∷ a) b before mid after g h = (g.0, leads_append a b (depth_after i before) mid after g.1 h)

goes_append : (a b : List CodeLine) (before mid after : ℕ) → Goes before a mid → Goes mid b after → Goes before (a ++ b) after
goes_append [] b before mid after g h = subst (λ d. Goes d b after) (sym g) h
goes_append (line ∷ a) b before mid after g h = (g.0, goes_append a b (depth_after line.instr before) mid after g.1 h)

goes_at_line : (number : ℕ) (code : List Instr) (before after : ℕ) → Leads before code after → Goes before (map (at_line number) code) after
goes_at_line number [] before after g = g
goes_at_line number (i ∷ code) before after g = (g.0, goes_at_line number code (depth_after i before) after g.1)

-- ---- a statement leaves one value more

module _ (locals : List (List ℕ)) where
  operand_leads : (x : Operand) (d : ℕ) → (needs_of (operand_code locals x) ≤ d) × (depth_after (operand_code locals x) d ≡ d + 1)
  operand_leads (operand.Number z) d = (omega arith, omega arith)
  operand_leads (operand.Name name) d = (omega arith, omega arith)

  term_leads : (term : Term) (d : ℕ) → Leads (d + 1) (term_code locals term) (d + 1)
  term_leads term d =
      let x = operand_leads term.operand (d + 1) in
      (x.0, (omega (arith, x.1), omega (arith, x.1)))

  terms_lead : (terms : List Term) (d : ℕ) → Leads (d + 1) (flat_map (term_code locals) terms) (d + 1)
  terms_lead [] d = refl
  terms_lead (term ∷ terms) d = leads_append (term_code locals term) (flat_map (term_code locals) terms) (d + 1) (d + 1) (d + 1) (term_leads term d) (terms_lead terms d)

  sum_leads : (s : Sum) (d : ℕ) → Leads d (sum_code locals s) (d + 1)
  sum_leads s d =
      let x = operand_leads s.first d in
      (x.0, subst (λ e. Leads e (flat_map (term_code locals) s.rest) (d + 1)) (sym x.1) (terms_lead s.rest d))

  puts_leads : (code : List Instr) (d : ℕ) → Leads (d + 1) code (d + 2) → Leads d (puts_code code) (d + 1)
  puts_leads code d g =
      let call : List Instr = Send (codes "puts") 1 [] 1 0 ∷ [] in
      let called : Leads (d + 2) call (d + 1) = (omega arith, omega arith) in
      let self : depth_after PutSelf d ≡ d + 1 = omega arith in
      (omega arith, subst (λ e. Leads e (code ++ call) (d + 1)) (sym self) (leads_append code call (d + 1) (d + 2) (d + 1) g called))

  assign_leads : (name : List ℕ) (s : Sum) (d : ℕ) → Leads d (statement_code locals (line.Assign name s)) (d + 1)
  assign_leads name s d =
      let kept : List Instr = Dup ∷ SetLocal (slot_of locals name) 0 ∷ [] in
      leads_append (sum_code locals s) kept d (d + 1) (d + 1) (sum_leads s d) (omega arith, (omega arith, omega arith))

  puts_sum_leads : (s : Sum) (d : ℕ) → Leads d (statement_code locals (line.PutsSum s)) (d + 1)
  puts_sum_leads s d =
      let next : d + 1 + 1 ≡ d + 2 = omega arith in
      puts_leads (sum_code locals s) d (subst (Leads (d + 1) (sum_code locals s)) next (sum_leads s (d + 1)))

  puts_text_leads : (text : List ℕ) (d : ℕ) → Leads d (statement_code locals (line.PutsText text)) (d + 1)
  puts_text_leads text d = puts_leads (PutString text ∷ []) d (omega arith, omega arith)

  -- ---- and so do all

  -- it leaves one value more, whatever stands below
  abbrev AddsOne : ℕ × Line → Type 0
  AddsOne statement = (d : ℕ) → Leads d (statement_code locals statement.1) (d + 1)

  numbered_add : (number : ℕ) (lines : List Line) → AllByRecursion AddsOne (numbered number lines)
  numbered_add number [] = tt
  numbered_add number (line.Empty ∷ lines) = numbered_add (number + 1) lines
  numbered_add number (line.Assign name s ∷ lines) = (assign_leads name s, numbered_add (number + 1) lines)
  numbered_add number (line.PutsSum s ∷ lines) = (puts_sum_leads s, numbered_add (number + 1) lines)
  numbered_add number (line.PutsText text ∷ lines) = (puts_text_leads text, numbered_add (number + 1) lines)

  -- a statement behind another, whose value it drops
  code_behind_goes : (statement : ℕ × Line) → AddsOne statement → Goes 1 (code_behind locals statement) 1
  code_behind_goes statement adds = (omega arith, goes_at_line statement.0 (statement_code locals statement.1) 0 1 (adds 0))

  behind_go : (statements : List (ℕ × Line)) → AllByRecursion AddsOne statements → Goes 1 (flat_map (code_behind locals) statements) 1
  behind_go [] add = refl
  behind_go (statement ∷ statements) add = goes_append (code_behind locals statement) (flat_map (code_behind locals) statements) 1 1 1 (code_behind_goes statement add.0) (behind_go statements add.1)

  statements_go : (statements : List (ℕ × Line)) → AllByRecursion AddsOne statements → Goes 0 (statements_code locals statements) 1
  statements_go [] add = (omega arith, refl)
  statements_go (statement ∷ statements) add =
      goes_append (code_of locals statement) (flat_map (code_behind locals) statements) 0 1 1 (goes_at_line statement.0 (statement_code locals statement.1) 0 1 (add.0 0)) (behind_go statements add.1)

-- the whole code of a small file, from an empty stack to an empty one
pub code_goes : (lines : List Line) → Goes 0 (file_sequence lines).code 0
code_goes lines =
    let locals = locals_behind [] lines in
    goes_append (statements_code locals (numbered 1 lines)) (at_line 1 Leave ∷ []) 0 1 0 (statements_go locals (numbered 1 lines) (numbered_add locals 1 lines)) (omega arith, refl)

-- ---- the depth at a place

-- the depth at a place, from that at the first
abbrev pub depth_at : ℕ → List CodeLine → ℕ → ℕ
depth_at first code zero = first
depth_at first [] (suc place) = first
depth_at first (line ∷ code) (suc place) = depth_at (depth_after line.instr first) code place

-- an instruction on the way finds enough
pub finds_enough : (code : List CodeLine) (first last : ℕ) → Goes first code last → (place : ℕ) (line : CodeLine) → slice_get code place ≡ Some line → needs_of line.instr ≤ depth_at first code place
finds_enough [] first last g place line e = absurd cc
finds_enough (l ∷ code) first last g zero line e = let same : l ≡ line = cc in subst (λ (x : CodeLine). needs_of x.instr ≤ first) same g.0
finds_enough (l ∷ code) first last g (suc place) line e = finds_enough code (depth_after l.instr first) last g.1 place line e

-- the next place
pub depth_next : (code : List CodeLine) (first : ℕ) (place : ℕ) (line : CodeLine) → slice_get code place ≡ Some line → depth_at first code (suc place) ≡ depth_after line.instr (depth_at first code place)
depth_next [] first place line e = absurd cc
depth_next (l ∷ code) first zero line e = let same : l ≡ line = cc in ap (λ (x : CodeLine). depth_after x.instr first) same
depth_next (l ∷ code) first (suc place) line e = depth_next code (depth_after l.instr first) place line e
