-- Reading is exact for rows, lines, bodies and headers.
use Rattle.std.proofs.Common.{◌≡◌, ℕ, zero, suc, ◌/◌, ◌%◌, ◌^◌, ◌<◌, ◌≤◌, Bool, true, false, cond, eqb, List, [], ◌∷◌, ◌++◌, length, take, drop, get_or, Some, None, refl, sym, ap, ◌∙◌, append_assoc, arith}
use Rattle.std.specs.Prelude.{⊤, nat_lt, ◌&&◌}
use Rattle.std.specs.List.{list_all}
use Rattle.std.specs.Int.{w64, to_le_bytes, from_le_bytes, bytes_low_first, byte_at as low_byte}
use Rattle.std.proofs.lemmas.Nat.{le_bytes_8, from_le_bytes-to_le_bytes_8}
use Rattle.std.proofs.lemmas.Bool.{eqb-true, eq-eqb, ltb-true, ltb-false}
use Rattle.std.proofs.lemmas.List.{take-append-drop, length-take}
use Rattle.byteorder.specs.Endian.{little_number}
use Rattle.iseq_types.specs.declared.sequences.CatchKind.{CatchKind}
use Rattle.iseq_types.specs.declared.sequences.CatchKind.TheVariants as catches
use Rattle.iseq_types.specs.declared.sequences.CatchRow.{CatchRow}
use Rattle.iseq_types.specs.declared.sequences.SeqKind.{SeqKind}
use Rattle.iseq_types.specs.declared.sequences.SeqKind.TheVariants as kinds
use Rattle.iseq_types.specs.declared.sequences.Line.{Line}
use Rattle.iseq_types.specs.declared.sequences.Sequence.{Sequence}
use Rattle.iseq_types.specs.declared.instructions.Instr.{Instr}
use Rattle.iseq_dump.specs.declared.head.Entry.{Entry}
use Rattle.iseq_dump.specs.declared.head.Head.{Head}
use Rattle.iseq_dump.specs.Dump.{number_bytes, IsNumber, text_bytes, IsText, list_bytes, IsList, IsInstr, instr_bytes, catch_byte, AllowsSequence, row_bytes, IsRow, line_bytes, IsLine, flag_byte, body_bytes, IsBody, kind_byte, fixed_bytes, entry_bytes, IsEntry, head_bytes}
use Rattle.iseq_dump.specs.Reading.{◌⨟◌, byte_at, number_at, text_at, list_at, of_code, instr_at, catch_kinds, catch_kind_at, may_name, row_at, line_at, flags, flags_at, body_at, fixed_at, sequence_kinds, sequence_kind_at, entry_at, exactly_at, mark, head_at}
use Rattle.iseq_dump.proofs.Exact.{found, found_is, Exact, bind_some, kept_some, passed_some, byte_takes, both_exact, made_exact, kept_exact, fits_exact, number_exact, text_exact, list_exact}
use Rattle.iseq_dump.proofs.Parts.{tagged_exact, instr_exact}
use Rattle.iseq_dump.proofs.Heads.{fixed_given}

kept_front : (a b : Bool) → (a && b) ≡ true → (a ≡ true) × (b ≡ true)
kept_front true true e = (refl, refl)
kept_front true false e = absurd cc
kept_front false b e = absurd cc

-- ---- catch rows

catch_kind_exact : Exact (λ (k : CatchKind). ⊤) (λ k. catch_byte k ∷ []) catch_kind_at
unfolding catch_kind_at
catch_kind_exact = tagged_exact catch_byte catch_kinds (refl, (refl, (refl, (refl, tt)))) (elim [ catches.Rescue ↦ refl | catches.Ensure ↦ refl | catches.Break ↦ refl | catches.Next ↦ refl ])

five_regrouped : (a b c d e : List ℕ) → a ++ b ++ c ++ d ++ e ≡ a ++ (b ++ (c ++ (d ++ e)))
five_regrouped a b c d e = simp append_assoc

abbrev Numbers : Type 0
Numbers = ℕ × (ℕ × (ℕ × (ℕ × ℕ)))

abbrev AreNumbers : Numbers → Type 0
AreNumbers p = IsNumber p.0 × (IsNumber p.1.0 × (IsNumber p.1.1.0 × (IsNumber p.1.1.1.0 × IsNumber p.1.1.1.1)))

abbrev numbers_bytes : Numbers → List ℕ
numbers_bytes p = number_bytes p.0 ++ (number_bytes p.1.0 ++ (number_bytes p.1.1.0 ++ (number_bytes p.1.1.1.0 ++ number_bytes p.1.1.1.1)))

two_exact : Exact (λ (p : ℕ × ℕ). IsNumber p.0 × IsNumber p.1) (λ p. number_bytes p.0 ++ number_bytes p.1) (number_at ⨟ number_at)
two_exact = both_exact IsNumber IsNumber number_bytes number_bytes number_at number_at number_exact number_exact

three_exact : Exact (λ (p : ℕ × (ℕ × ℕ)). IsNumber p.0 × (IsNumber p.1.0 × IsNumber p.1.1)) (λ p. number_bytes p.0 ++ (number_bytes p.1.0 ++ number_bytes p.1.1)) (number_at ⨟ number_at ⨟ number_at)
three_exact = both_exact IsNumber (λ (p : ℕ × ℕ). IsNumber p.0 × IsNumber p.1) number_bytes (λ p. number_bytes p.0 ++ number_bytes p.1) number_at (number_at ⨟ number_at) number_exact two_exact

four_exact : Exact (λ (p : ℕ × (ℕ × (ℕ × ℕ))). IsNumber p.0 × (IsNumber p.1.0 × (IsNumber p.1.1.0 × IsNumber p.1.1.1))) (λ p. number_bytes p.0 ++ (number_bytes p.1.0 ++ (number_bytes p.1.1.0 ++ number_bytes p.1.1.1))) (number_at ⨟ number_at ⨟ number_at ⨟ number_at)
four_exact = both_exact IsNumber (λ (p : ℕ × (ℕ × ℕ)). IsNumber p.0 × (IsNumber p.1.0 × IsNumber p.1.1)) number_bytes (λ p. number_bytes p.0 ++ (number_bytes p.1.0 ++ number_bytes p.1.1)) number_at (number_at ⨟ number_at ⨟ number_at) number_exact three_exact

five_exact : Exact AreNumbers numbers_bytes (number_at ⨟ number_at ⨟ number_at ⨟ number_at ⨟ number_at)
five_exact = both_exact IsNumber (λ (p : ℕ × (ℕ × (ℕ × ℕ))). IsNumber p.0 × (IsNumber p.1.0 × (IsNumber p.1.1.0 × IsNumber p.1.1.1))) number_bytes (λ p. number_bytes p.0 ++ (number_bytes p.1.0 ++ (number_bytes p.1.1.0 ++ number_bytes p.1.1.1))) number_at (number_at ⨟ number_at ⨟ number_at ⨟ number_at) number_exact four_exact

allows : (kind : CatchKind) (sequence : ℕ) → may_name kind sequence ≡ true → AllowsSequence kind sequence
allows catches.Rescue sequence e = tt
allows catches.Ensure sequence e = tt
allows catches.Break sequence e = eqb-true sequence 0 e
allows catches.Next sequence e = eqb-true sequence 0 e

allowed : (kind : CatchKind) (sequence : ℕ) → AllowsSequence kind sequence → may_name kind sequence ≡ true
allowed catches.Rescue sequence h = refl
allowed catches.Ensure sequence h = refl
allowed catches.Break sequence h = eq-eqb sequence 0 h
allowed catches.Next sequence h = eq-eqb sequence 0 h

abbrev RowFields : Type 0
RowFields = CatchKind × Numbers

abbrev row_from : RowFields → CatchRow
row_from p = record { kind = p.0; from = p.1.0; to = p.1.1.0; cont = p.1.1.1.0; sp = p.1.1.1.1.0; seq = p.1.1.1.1.1 }

abbrev row_fields : CatchRow → RowFields
row_fields row = (row.kind, (row.from, (row.to, (row.cont, (row.sp, row.seq)))))

abbrev InRange : CatchRow → Type 0
InRange row = AreNumbers (row_fields row).1

pub row_exact : Exact IsRow row_bytes row_at
unfolding row_at
row_exact =
    fits_exact (λ row. InRange row × (may_name row.kind row.seq ≡ true)) IsRow row_bytes _
    (kept_exact InRange row_bytes _ (λ row. may_name row.kind row.seq)
    (made_exact (λ (p : RowFields). ⊤ × AreNumbers p.1) (λ p. (catch_byte p.0 ∷ []) ++ numbers_bytes p.1) (catch_kind_at ⨟ number_at ⨟ number_at ⨟ number_at ⨟ number_at ⨟ number_at) InRange row_bytes row_from row_fields
    (both_exact (λ (k : CatchKind). ⊤) AreNumbers (λ k. catch_byte k ∷ []) numbers_bytes catch_kind_at (number_at ⨟ number_at ⨟ number_at ⨟ number_at ⨟ number_at) catch_kind_exact five_exact)
    (λ p. refl) (λ row. refl) (λ row h. h.1) (λ row h. (tt, h)) (λ row. ap (λ (bs : List ℕ). catch_byte row.kind ∷ bs) (five_regrouped (number_bytes row.from) (number_bytes row.to) (number_bytes row.cont) (number_bytes row.sp) (number_bytes row.seq)))))
    (λ row h. record { from = h.0.0; to = h.0.1.0; cont = h.0.1.1.0; sp = h.0.1.1.1.0; sequence = h.0.1.1.1.1; allowed = allows row.kind row.seq h.1 })
    (λ row h. ((h.from, (h.to, (h.cont, (h.sp, h.sequence)))), allowed row.kind row.seq h.allowed))

-- ---- lines

pub line_exact : Exact IsLine line_bytes line_at
unfolding line_at
line_exact =
    made_exact (λ (p : ℕ × Instr). IsNumber p.0 × IsInstr p.1) (λ p. number_bytes p.0 ++ instr_bytes p.1) (number_at ⨟ instr_at) IsLine line_bytes (λ p. record { line = p.0; instr = p.1 }) (λ line. (line.line, line.instr))
    (both_exact IsNumber IsInstr number_bytes instr_bytes number_at instr_at number_exact instr_exact)
    (λ p. refl) (λ line. refl) (λ line h. h) (λ line h. h) (λ line. refl)

-- ---- bodies

both_flags : (rest block : Bool) → of_code (flag_byte rest block) flags ≡ Some (rest, block)
both_flags false false = refl
both_flags true false = refl
both_flags false true = refl
both_flags true true = refl

flags_exact : Exact (λ (p : Bool × Bool). ⊤) (λ p. flag_byte p.0 p.1 ∷ []) flags_at
unfolding flags_at
flags_exact =
    tagged_exact (λ (p : Bool × Bool). flag_byte p.0 p.1) flags (refl, (refl, (refl, (refl, tt)))) (λ p. both_flags p.0 p.1)

abbrev Code : Type 0
Code = (Bool × Bool) × (List CatchRow × List Line)

abbrev Middle : Type 0
Middle = ℕ × (List ℕ × Code)

abbrev BodyFields : Type 0
BodyFields = List ℕ × (ℕ × (List (List ℕ) × Middle))

abbrev IsCode : Code → Type 0
IsCode p = ⊤ × (IsList IsRow p.1.0 × IsList IsLine p.1.1)

abbrev code_bytes : Code → List ℕ
code_bytes p = (flag_byte p.0.0 p.0.1 ∷ []) ++ (list_bytes row_bytes p.1.0 ++ list_bytes line_bytes p.1.1)

code_exact : Exact IsCode code_bytes (flags_at ⨟ list_at row_at ⨟ list_at line_at)
code_exact =
    both_exact (λ (p : Bool × Bool). ⊤) (λ (p : List CatchRow × List Line). IsList IsRow p.0 × IsList IsLine p.1) (λ p. flag_byte p.0 p.1 ∷ []) (λ p. list_bytes row_bytes p.0 ++ list_bytes line_bytes p.1) flags_at (list_at row_at ⨟ list_at line_at) flags_exact
    (both_exact (IsList IsRow) (IsList IsLine) (list_bytes row_bytes) (list_bytes line_bytes) (list_at row_at) (list_at line_at) (list_exact IsRow row_bytes row_at row_exact) (list_exact IsLine line_bytes line_at line_exact))

abbrev IsMiddle : Middle → Type 0
IsMiddle p = IsNumber p.0 × (IsList IsNumber p.1.0 × IsCode p.1.1)

abbrev middle_bytes : Middle → List ℕ
middle_bytes p = number_bytes p.0 ++ (list_bytes number_bytes p.1.0 ++ code_bytes p.1.1)

middle_exact : Exact IsMiddle middle_bytes (number_at ⨟ list_at number_at ⨟ flags_at ⨟ list_at row_at ⨟ list_at line_at)
middle_exact =
    both_exact IsNumber (λ (p : List ℕ × Code). IsList IsNumber p.0 × IsCode p.1) number_bytes (λ p. list_bytes number_bytes p.0 ++ code_bytes p.1) number_at (list_at number_at ⨟ flags_at ⨟ list_at row_at ⨟ list_at line_at) number_exact
    (both_exact (IsList IsNumber) IsCode (list_bytes number_bytes) code_bytes (list_at number_at) (flags_at ⨟ list_at row_at ⨟ list_at line_at) (list_exact IsNumber number_bytes number_at number_exact) code_exact)

fields_exact : Exact (λ (p : BodyFields). IsText p.0 × (IsNumber p.1.0 × (IsList IsText p.1.1.0 × IsMiddle p.1.1.1))) (λ p. text_bytes p.0 ++ (number_bytes p.1.0 ++ (list_bytes text_bytes p.1.1.0 ++ middle_bytes p.1.1.1))) (text_at ⨟ number_at ⨟ list_at text_at ⨟ number_at ⨟ list_at number_at ⨟ flags_at ⨟ list_at row_at ⨟ list_at line_at)
fields_exact =
    both_exact IsText (λ (p : ℕ × (List (List ℕ) × Middle)). IsNumber p.0 × (IsList IsText p.1.0 × IsMiddle p.1.1)) text_bytes (λ p. number_bytes p.0 ++ (list_bytes text_bytes p.1.0 ++ middle_bytes p.1.1)) text_at (number_at ⨟ list_at text_at ⨟ number_at ⨟ list_at number_at ⨟ flags_at ⨟ list_at row_at ⨟ list_at line_at) text_exact
    (both_exact IsNumber (λ (p : List (List ℕ) × Middle). IsList IsText p.0 × IsMiddle p.1) number_bytes (λ p. list_bytes text_bytes p.0 ++ middle_bytes p.1) number_at (list_at text_at ⨟ number_at ⨟ list_at number_at ⨟ flags_at ⨟ list_at row_at ⨟ list_at line_at) number_exact
    (both_exact (IsList IsText) IsMiddle (list_bytes text_bytes) middle_bytes (list_at text_at) (number_at ⨟ list_at number_at ⨟ flags_at ⨟ list_at row_at ⨟ list_at line_at) (list_exact IsText text_bytes text_at text_exact) middle_exact))

abbrev body_from : BodyFields → Sequence
body_from p = record {
  name = p.0;
  first_line = p.1.0;
  locals = p.1.1.0;
  required = p.1.1.1.0;
  entries = p.1.1.1.1.0;
  rest = p.1.1.1.1.1.0.0;
  block = p.1.1.1.1.1.0.1;
  rows = p.1.1.1.1.1.1.0;
  code = p.1.1.1.1.1.1.1;
}

abbrev body_fields : Sequence → BodyFields
body_fields b = (b.name, (b.first_line, (b.locals, (b.required, (b.entries, ((b.rest, b.block), (b.rows, b.code)))))))

pub body_exact : Exact IsBody body_bytes body_at
unfolding body_at
body_exact =
    made_exact (λ (p : BodyFields). IsText p.0 × (IsNumber p.1.0 × (IsList IsText p.1.1.0 × IsMiddle p.1.1.1))) (λ p. text_bytes p.0 ++ (number_bytes p.1.0 ++ (list_bytes text_bytes p.1.1.0 ++ middle_bytes p.1.1.1)))
    (text_at ⨟ number_at ⨟ list_at text_at ⨟ number_at ⨟ list_at number_at ⨟ flags_at ⨟ list_at row_at ⨟ list_at line_at) IsBody body_bytes body_from body_fields fields_exact
    (λ p. refl) (λ b. refl)
    (λ b h. record { name = h.0; first_line = h.1.0; locals = h.1.1.0; required = h.1.1.1.0; entries = h.1.1.1.1.0; rows = h.1.1.1.1.1.1.0; code = h.1.1.1.1.1.1.1 })
    (λ b h. (h.name, (h.first_line, (h.locals, (h.required, (h.entries, (tt, (h.rows, h.code))))))))
    (λ b. simp append_assoc)

-- ---- the index

kind_exact : Exact (λ (k : SeqKind). ⊤) (λ k. kind_byte k ∷ []) sequence_kind_at
unfolding sequence_kind_at
kind_exact = tagged_exact kind_byte sequence_kinds (refl, (refl, (refl, (refl, (refl, (refl, tt)))))) (elim [ kinds.File ↦ refl | kinds.Method ↦ refl | kinds.Class ↦ refl | kinds.Block ↦ refl | kinds.Rescue ↦ refl | kinds.Ensure ↦ refl ])

all_below : (bytes : List ℕ) → list_all (λ b. nat_lt b 256) bytes ≡ true → (i : ℕ) → get_or bytes i 0 < 256
all_below [] h i = omega arith
all_below (b ∷ bytes) h zero = ltb-true _ _ (kept_front (nat_lt b 256) (list_all (λ b. nat_lt b 256) bytes) h).0
all_below (b ∷ bytes) h (suc i) = all_below bytes (kept_front (nat_lt b 256) (list_all (λ b. nat_lt b 256) bytes) h).1 i

little_is : (bytes : List ℕ) → little_number 8 bytes ≡ from_le_bytes w64 bytes
little_is bytes = omega arith

fixed_takes : (old : List ℕ) (n : ℕ) (new : List ℕ) → fixed_at old ≡ found n new → (old ≡ fixed_bytes n ++ new) × IsNumber n
unfolding fixed_at fixed_bytes
fixed_takes old n new e =
    let eight = take 8 old in
    let a = passed_some (nat_lt (length old) 8) (cond (list_all (λ b. nat_lt b 256) eight) (found (little_number 8 eight) (drop 8 old)) None) (n, new) e in
    let b = kept_some (list_all (λ b. nat_lt b 256) eight) (found (little_number 8 eight) (drop 8 old)) (n, new) a.1 in
    let is = found_is (little_number 8 eight) n (drop 8 old) new b.1 in
    let long : 8 ≤ length old = ltb-false _ _ a.0 in
    let len : length eight ≡ 8 = omega (arith, length-take 8 old) in
    let fits = all_below eight b.0 in
    let number : n ≡ from_le_bytes w64 eight = sym is.0 ∙ little_is eight in
    let spelled : to_le_bytes w64 n ≡ eight = le_bytes_8 eight n len fits number in (
      sym (take-append-drop 8 old) ∙ (ap (λ (bs : List ℕ). bs ++ drop 8 old) (sym spelled) ∙ ap (λ (r : List ℕ). to_le_bytes w64 n ++ r) is.1),
      omega (arith, number, fits 0, fits 1, fits 2, fits 3, fits 4, fits 5, fits 6, fits 7),
    )

byte_small : (i n : ℕ) → low_byte i n < 256
byte_small zero n = omega arith
byte_small (suc i) n = let rest : ℕ = n / 256 ^ suc i in let small : rest % 256 < 256 = omega arith in small

each_from : (k i n j : ℕ) → get_or (bytes_low_first i k n) j 0 < 256
each_from zero i n j = omega arith
each_from (suc k) i n zero = byte_small i n
each_from (suc k) i n (suc j) = each_from k (suc i) n j

each_byte : (n : ℕ) (i : ℕ) → get_or (to_le_bytes w64 n) i 0 < 256
each_byte n i = each_from 8 0 n i

fixed_again : (n : ℕ) (rest : List ℕ) → IsNumber n → fixed_at (fixed_bytes n ++ rest) ≡ found n rest
unfolding fixed_bytes
fixed_again n rest lt =
    fixed_given (to_le_bytes w64 n) (to_le_bytes w64 n ++ rest) rest refl (each_byte n) refl ∙ ap (λ (m : ℕ). found m rest) (little_is (to_le_bytes w64 n) ∙ from_le_bytes-to_le_bytes_8 n lt)

pub fixed_exact : Exact IsNumber fixed_bytes fixed_at
fixed_exact = record { takes = fixed_takes; again = fixed_again }

abbrev Four : Type 0
Four = ℕ × (ℕ × (ℕ × ℕ))

abbrev AreFour : Four → Type 0
AreFour p = IsNumber p.0 × (IsNumber p.1.0 × (IsNumber p.1.1.0 × IsNumber p.1.1.1))

abbrev four_bytes : Four → List ℕ
four_bytes p = fixed_bytes p.0 ++ (fixed_bytes p.1.0 ++ (fixed_bytes p.1.1.0 ++ fixed_bytes p.1.1.1))

four_fixed_exact : Exact AreFour four_bytes (fixed_at ⨟ fixed_at ⨟ fixed_at ⨟ fixed_at)
four_fixed_exact =
    both_exact IsNumber (λ (p : ℕ × (ℕ × ℕ)). IsNumber p.0 × (IsNumber p.1.0 × IsNumber p.1.1)) fixed_bytes (λ p. fixed_bytes p.0 ++ (fixed_bytes p.1.0 ++ fixed_bytes p.1.1)) fixed_at (fixed_at ⨟ fixed_at ⨟ fixed_at) fixed_exact
    (both_exact IsNumber (λ (p : ℕ × ℕ). IsNumber p.0 × IsNumber p.1) fixed_bytes (λ p. fixed_bytes p.0 ++ fixed_bytes p.1) fixed_at (fixed_at ⨟ fixed_at) fixed_exact
    (both_exact IsNumber IsNumber fixed_bytes fixed_bytes fixed_at fixed_at fixed_exact fixed_exact))

four_regrouped : (a b c d : List ℕ) → a ++ b ++ c ++ d ≡ a ++ (b ++ (c ++ d))
four_regrouped a b c d = simp append_assoc

abbrev EntryFields : Type 0
EntryFields = SeqKind × Four

abbrev entry_from : EntryFields → Entry
entry_from p = record { row = record { kind = p.0; parent = p.1.0; locals = p.1.1.0 }; place = p.1.1.1.0; length = p.1.1.1.1 }

abbrev entry_fields : Entry → EntryFields
entry_fields e = (e.row.kind, (e.row.parent, (e.row.locals, (e.place, e.length))))

pub entry_exact : Exact IsEntry entry_bytes entry_at
unfolding entry_at
entry_exact =
    made_exact (λ (p : EntryFields). ⊤ × AreFour p.1) (λ p. (kind_byte p.0 ∷ []) ++ four_bytes p.1) (sequence_kind_at ⨟ fixed_at ⨟ fixed_at ⨟ fixed_at ⨟ fixed_at) IsEntry entry_bytes entry_from entry_fields
    (both_exact (λ (k : SeqKind). ⊤) AreFour (λ k. kind_byte k ∷ []) four_bytes sequence_kind_at (fixed_at ⨟ fixed_at ⨟ fixed_at ⨟ fixed_at) kind_exact four_fixed_exact)
    (λ p. refl) (λ e. refl)
    (λ e h. record { parent = h.1.0; locals = h.1.1.0; place = h.1.1.1.0; length = h.1.1.1.1 })
    (λ e h. (tt, (h.parent, (h.locals, (h.place, h.length)))))
    (λ e. ap (λ (bs : List ℕ). kind_byte e.row.kind ∷ bs) (four_regrouped (fixed_bytes e.row.parent) (fixed_bytes e.row.locals) (fixed_bytes e.place) (fixed_bytes e.length)))

-- ---- the header

exactly_takes : (wanted old : List ℕ) (u : ⊤) (new : List ℕ) → exactly_at wanted old ≡ found u new → old ≡ wanted ++ new
unfolding exactly_at
exactly_takes [] old u new e = (found_is tt u old new e).1
exactly_takes (w ∷ ws) old u new e =
    let s = bind_some (byte_at old) (λ (b : ℕ × List ℕ). cond (eqb b.0 w) (exactly_at ws b.1) None) (u, new) e in
    let k = kept_some (eqb s.0.0 w) (exactly_at ws s.0.1) (u, new) s.2 in
    byte_takes old s.0.0 s.0.1 s.1 ∙ (ap (λ (b : ℕ). b ∷ s.0.1) (eqb-true s.0.0 w k.0) ∙ ap (λ (r : List ℕ). w ∷ r) (exactly_takes ws s.0.1 u new k.1))

exactly_again : (wanted rest : List ℕ) → exactly_at wanted (wanted ++ rest) ≡ found tt rest
unfolding exactly_at
exactly_again [] rest = refl
exactly_again (w ∷ ws) rest = rw (eq-eqb w w refl) (exactly_again ws rest)

exactly_exact : (wanted : List ℕ) → Exact (λ (u : ⊤). ⊤) (λ u. wanted) (exactly_at wanted)
exactly_exact wanted = record { takes = λ old u new e. (exactly_takes wanted old u new e, tt); again = λ u rest fits. exactly_again wanted rest }

abbrev HeadFields : Type 0
HeadFields = ⊤ × (List ℕ × List Entry)

-- the header, before it is looked at whether its index may be one
pub record IsAnyHead (head : Head) : Type 0 where
  pub path : IsText head.path
  pub entries : IsList IsEntry head.entries

pub head_exact : Exact IsAnyHead head_bytes head_at
unfolding head_at
head_exact =
    made_exact (λ (p : HeadFields). ⊤ × (IsText p.1.0 × IsList IsEntry p.1.1)) (λ p. mark ++ (text_bytes p.1.0 ++ list_bytes entry_bytes p.1.1)) (exactly_at mark ⨟ text_at ⨟ list_at entry_at) IsAnyHead head_bytes (λ p. record { path = p.1.0; entries = p.1.1 }) (λ h. (tt, (h.path, h.entries)))
    (both_exact (λ (u : ⊤). ⊤) (λ (p : List ℕ × List Entry). IsText p.0 × IsList IsEntry p.1) (λ u. mark) (λ p. text_bytes p.0 ++ list_bytes entry_bytes p.1) (exactly_at mark) (text_at ⨟ list_at entry_at) (exactly_exact mark)
    (both_exact IsText (IsList IsEntry) text_bytes (list_bytes entry_bytes) text_at (list_at entry_at) text_exact (list_exact IsEntry entry_bytes entry_at entry_exact)))
    (λ p. refl) (λ h. refl) (λ h f. record { path = f.1.0; entries = f.1.1 }) (λ h f. (tt, (f.path, f.entries)))
    (λ h. refl)
