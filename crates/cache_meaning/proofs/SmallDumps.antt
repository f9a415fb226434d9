-- A dump of fewer than 2 ^ 64 bytes is the spelling of a small file's unit: each text and list of it stands whole in the dump.
use Rattle.std.proofs.Common.{◌≡◌, ℕ, pos, ◌^◌, ◌<◌, ◌≤◌, Some, Bool, true, false, cond, List, [], ◌∷◌, ◌++◌, length, refl, sym, subst, arith}
use Rattle.std.specs.Prelude.{⊤, nat_lt}
use Rattle.std.specs.List.{flat_map, AllByRecursion}
use Rattle.std.proofs.lemmas.List.{length-append}
use Rattle.iseq_types.specs.declared.instructions.Instr.{Instr}
use Rattle.iseq_types.specs.declared.instructions.Instr.TheVariants.{Pop, Dup, PutNil, PutSelf, PutObject, PutString, GetLocal, SetLocal, Send, Leave}
use Rattle.iseq_types.specs.declared.instructions.Literal.{Literal}
use Rattle.iseq_types.specs.declared.instructions.Literal.TheVariants.{Int}
use Rattle.iseq_types.specs.declared.sequences.Line.{Line as CodeLine}
use Rattle.iseq_types.specs.declared.sequences.Unit.{Unit as CompiledUnit}
use Rattle.iseq_dump.specs.Dump.{IsNumber, IsText, IsList, IsLiteral, IsInstr, IsLine, IsBody, groups, number_bytes, text_bytes, list_bytes, instr_bytes, row_bytes, line_bytes, flag_byte, body_bytes, entry_bytes, head_of, head_bytes, Spells}
use Rattle.small_form.specs.declared.tree.Line.{Line}
use Rattle.small_form.specs.declared.tree.SmallFile.{SmallFile}
use Rattle.cache_meaning.specs.Payload.{dump_of}
use Rattle.cache_meaning.specs.SmallUnit.{file_sequence, unit_of_program, unit_of}
use Rattle.cache_meaning.proofs.SmallInstructions.{IsSmallLiteral, IsOwnSlot, IsSmallInstr, IsSmallLine, code_small}
use Rattle.cache_meaning.proofs.SmallLines.{IsSmallProgram}
use Rattle.cache_meaning.proofs.SmallUnits.{program_behind, rows_fit}

-- ---- texts and lists

text_fits : (text : List ℕ) → length (text_bytes text) < 2 ^ 64 → IsText text
text_fits text lt = omega (arith, lt, length-append (number_bytes (length text)) text)

number_some : (n : ℕ) → 0 < length (number_bytes n)
unfolding number_bytes groups
number_some n = one_or_more (nat_lt n 128) _ _
  where
    one_or_more : (b : Bool) (x : ℕ) (xs : List ℕ) → 0 < length (cond b (n ∷ []) (x ∷ xs))
    one_or_more true x xs = omega arith
    one_or_more false x xs = omega arith

text_some : (text : List ℕ) → 0 < length (text_bytes text)
text_some text = omega (arith, length-append (number_bytes (length text)) text, number_some (length text))

line_some : (line : CodeLine) → 0 < length (line_bytes line)
line_some line = omega (arith, length-append (number_bytes line.line) (instr_bytes line.instr), number_some line.line)

module _ {X : Type 0} (Given Fits : X → Type 0) (bytes : X → List ℕ) (some : (x : X) → 0 < length (bytes x)) (one : (x : X) → Given x → length (bytes x) < 2 ^ 64 → Fits x) where
  items_long : (xs : List X) → length xs ≤ length (flat_map bytes xs)
  items_long [] = omega arith
  items_long (x ∷ xs) = omega (arith, length-append (bytes x) (flat_map bytes xs), some x, items_long xs)

  items_fit : (xs : List X) → AllByRecursion Given xs → length (flat_map bytes xs) < 2 ^ 64 → AllByRecursion Fits xs
  items_fit [] given lt = tt
  items_fit (x ∷ xs) given lt =
      let all = length-append (bytes x) (flat_map bytes xs) in
      (one x given.0 (omega (arith, lt, all)), items_fit xs given.1 (omega (arith, lt, all)))

  list_fits : (xs : List X) → AllByRecursion Given xs → length (list_bytes bytes xs) < 2 ^ 64 → IsList Fits xs
  list_fits xs given lt =
      let all = length-append (number_bytes (length xs)) (flat_map bytes xs) in
      (omega (arith, lt, all, items_long xs), items_fit xs given (omega (arith, lt, all)))

all_given : {X : Type 0} (xs : List X) → AllByRecursion (λ x. ⊤) xs
all_given [] = tt
all_given (x ∷ xs) = (tt, all_given xs)

texts_fit : (texts : List (List ℕ)) → length (list_bytes text_bytes texts) < 2 ^ 64 → IsList IsText texts
texts_fit texts lt = list_fits (λ text. ⊤) IsText text_bytes text_some (λ text given lt. text_fits text lt) texts (all_given texts) lt

-- ---- instructions

literal_fits : (value : Literal) → IsSmallLiteral value → IsLiteral value
literal_fits (Int (pos n)) is = omega arith
literal_fits _ is = absurd is

slot_fits : (count slot level : ℕ) → IsNumber count → IsOwnSlot count slot level → IsNumber slot × IsNumber level
slot_fits count slot level small is = (omega (arith, small, is.within), omega (arith, is.own))

instr_fits : (count : ℕ) → IsNumber count → (i : Instr) → IsSmallInstr count i → length (instr_bytes i) < 2 ^ 64 → IsInstr i
instr_fits count small Pop is lt = tt
instr_fits count small Dup is lt = tt
instr_fits count small PutNil is lt = tt
instr_fits count small PutSelf is lt = tt
instr_fits count small (PutObject value) is lt = literal_fits value is
instr_fits count small (PutString text) is lt = text_fits text (omega (arith, lt))
instr_fits count small (GetLocal slot level) is lt = slot_fits count slot level small is
instr_fits count small (SetLocal slot level) is lt = slot_fits count slot level small is
instr_fits count small (Send name n splats flags q) is lt = (omega (arith, is.short), omega (arith, is.one), subst (IsList IsNumber) (sym is.no_splats) (omega arith, tt), omega (arith, is.self_or_none), omega (arith, is.no_block))
instr_fits count small Leave is lt = tt
instr_fits count small _ is lt = absurd is

line_fits : (count : ℕ) → IsNumber count → (line : CodeLine) → IsSmallLine count line → length (line_bytes line) < 2 ^ 64 → IsLine line
line_fits count small line is lt = (omega (arith, is.number), instr_fits count small line.instr is.instr (omega (arith, lt, length-append (number_bytes line.line) (instr_bytes line.instr))))

code_fits : (count : ℕ) → IsNumber count → (code : List CodeLine) → AllByRecursion (IsSmallLine count) code → length (list_bytes line_bytes code) < 2 ^ 64 → IsList IsLine code
code_fits count small code are lt = list_fits (IsSmallLine count) IsLine line_bytes line_some (line_fits count small) code are lt

-- ---- the body

third_within : (a b c d e f g h : List ℕ) → length c ≤ length (a ++ b ++ c ++ d ++ e ++ f ++ g ++ h)
third_within a b c d e f g h = simp length-append (omega arith)

last_within : (a h : List ℕ) → length h ≤ length (a ++ h)
last_within a h = omega (arith, length-append a h)

body_fits : (lines : List Line) → IsSmallProgram lines → length (body_bytes (file_sequence lines)) < 2 ^ 64 → IsBody (file_sequence lines)
body_fits lines small lt =
    let body = file_sequence lines in
    let locals_within = third_within (text_bytes body.name) (number_bytes body.first_line) (list_bytes text_bytes body.locals) (number_bytes body.required) (list_bytes number_bytes body.entries) (flag_byte body.rest body.block ∷ []) (list_bytes row_bytes body.rows) (list_bytes line_bytes body.code) in
    let code_within = last_within (text_bytes body.name ++ number_bytes body.first_line ++ list_bytes text_bytes body.locals ++ number_bytes body.required ++ list_bytes number_bytes body.entries ++ flag_byte body.rest body.block ∷ [] ++ list_bytes row_bytes body.rows) (list_bytes line_bytes body.code) in
    let locals = texts_fit body.locals (omega (arith, locals_within, lt)) in
    record {
      name = omega arith;
      first_line = omega arith;
      locals = locals;
      required = omega arith;
      entries = (omega arith, tt);
      rows = (omega arith, tt);
      code = code_fits (length body.locals) locals.0 body.code (code_small lines small) (omega (arith, code_within, lt));
    }

-- ---- the unit

path_within : (path rest : List ℕ) (a b c d : ℕ) → length (text_bytes path) ≤ length (a ∷ b ∷ c ∷ d ∷ text_bytes path ++ rest)
path_within path rest a b c d = omega (arith, length-append (text_bytes path) rest)

program_spelled : (path : List ℕ) (file : SmallFile) → IsSmallProgram file.lines → length (dump_of (unit_of_program path file)) < 2 ^ 64 → Spells (unit_of_program path file) (dump_of (unit_of_program path file))
unfolding dump_of head_of
program_spelled path file small lt =
    let u = unit_of_program path file in
    let lines = file.lines in
    let head = head_of u in
    let body = file_sequence lines in
    let all = length-append (head_bytes head) (flat_map body_bytes u.bodies) in
    let body_within = length-append (body_bytes body) [] in
    let head_within = path_within path (list_bytes entry_bytes head.entries) 0x59 0x53 0x51 0x01 in
    let fits = body_fits lines small (omega (arith, lt, all, body_within)) in
    record {
      rows = rows_fit lines;
      bodies = refl;
      path = text_fits path (omega (arith, lt, all, head_within));
      count = omega arith;
      locals = (fits.locals.0, tt);
      each = (fits, tt);
      small = lt;
      spelled = refl;
    }

pub spelled_by : (path text : List ℕ) (u : CompiledUnit) → unit_of path text ≡ Some u → length (dump_of u) < 2 ^ 64 → Spells u (dump_of u)
spelled_by path text u e =
    let p = program_behind path text u e in
    subst (λ (v : CompiledUnit). length (dump_of v) < 2 ^ 64 → Spells v (dump_of v)) p.2 (program_spelled path p.0 p.1)
