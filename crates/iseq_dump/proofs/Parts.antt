-- Reading is exact for each part of a body.
use Rattle.std.proofs.Common.{◌≡◌, ℕ, ◌+◌, ◌*◌, ◌/◌, ◌%◌, ℤ, pos, negsuc, Bool, true, false, cond, eqb, List, [], ◌∷◌, ◌++◌, Option, Some, None, refl, sym, ap, subst, ◌∙◌, append_assoc, arith, ◌⊎◌, inl, inr}
use Rattle.std.specs.Prelude.{⊤}
use Rattle.std.specs.List.{AllByRecursion}
use Rattle.std.proofs.lemmas.Bool.{eqb-true, eqb-false, eq-eqb}
use Rattle.iseq_types.specs.declared.instructions.Instr.{Instr}
use Rattle.iseq_types.specs.declared.instructions.Instr.TheVariants.{Nop, Pop, Dup, Swap, TopN, SetN, AdjustStack, PutNil, PutSelf, PutObject, PutString, GetLocal, SetLocal, GetInstanceVariable, SetInstanceVariable, GetGlobal, SetGlobal, SetConstant, OptGetConstantPath, NewArray, NewHash, NewRange, ConcatStrings, ObjToString, AnyToString, Send, InvokeSuper, InvokeBlock, DefineMethod, DefineClass, CheckMatch, Jump, BranchIf, BranchUnless, BranchNil, Throw, Leave, ExpandArray}
use Rattle.iseq_types.specs.declared.instructions.Literal.{Literal}
use Rattle.iseq_types.specs.declared.instructions.Literal.TheVariants.{True, False, Int, Sym}
use Rattle.iseq_dump.specs.declared.shapes.Shape.{Shape}
use Rattle.iseq_dump.specs.declared.shapes.Shape.TheVariants as shape
use Rattle.iseq_dump.specs.Dump.{number_bytes, IsNumber, text_bytes, IsText, list_bytes, IsList, zigzag, literal_bytes, IsLiteral, opcode_of, operand_bytes, IsInstr, instr_bytes}
use Rattle.iseq_dump.specs.Reading.{◌▷◌, ◌⨟◌, made_at, byte_at, number_at, text_at, list_at, of_code, tagged_at, integer_of, literal_at, alone, numbered, worded, placed, spread, defining, made_of, shapes, call_at, above_at, shaped_at, instr_at, flags}
use Rattle.iseq_dump.proofs.Exact.{found, found_is, some_is, Exact, bind_some, byte_takes, both_exact, same_exact, number_exact, text_exact, list_exact}

-- ---- tables

pub nothing : {A : Type 0} (x : A) (r : List ℕ) → None ≡ found x r → ⊥
nothing x r e = cc

eqb_no : (a b : ℕ) → (a ≡ b → ⊥) → eqb a b ≡ false
eqb_no a b ne =
    let decide : (t : Bool) → eqb a b ≡ t → t ≡ false = elim [ true ↦ λ e. absurd (ne (eqb-true a b e)) | false ↦ λ e. refl ] in
    decide (eqb a b) refl

-- which way a test went
pub chosen : {A : Type 0} (b : Bool) (x y z : A) → cond b x y ≡ z → ((b ≡ true) × (x ≡ z)) ⊎ ((b ≡ false) × (y ≡ z))
chosen true x y z e = inl (refl, e)
chosen false x y z e = inr (refl, e)

-- what a table has for a code has what each row has
pub of_code_row : {X : Type 0} (P : ℕ → X → Type 0) (code : ℕ) (table : List (ℕ × X)) (x : X) → AllByRecursion (λ (row : ℕ × X). P row.0 row.1) table → of_code code table ≡ Some x → P code x
of_code_row P code [] x rows e = absurd cc
of_code_row {X} P code (row ∷ table) x rows e =
    elim (chosen (eqb code row.0) (Some row.1) (of_code code table) (Some x) e) [
      | inl h ↦ subst (λ (y : X). P code y) (some_is row.1 x h.1) (subst (λ (n : ℕ). P n row.1) (sym (eqb-true code row.0 h.0)) rows.0)
      | inr h ↦ of_code_row P code table x rows.1 h.1
    ]

pub tagged_exact : {X : Type 0} (code : X → ℕ) (table : List (ℕ × X)) → AllByRecursion (λ (row : ℕ × X). code row.1 ≡ row.0) table → ((x : X) → of_code (code x) table ≡ Some x) → Exact (λ (x : X). ⊤) (λ x. code x ∷ []) (tagged_at table)
tagged_exact {X} code table rows back = record {
  takes = λ old x new e.
      let s = bind_some (byte_at old) (λ (b : ℕ × List ℕ). of_code b.0 table ▷ λ (y : X). found y b.1) (x, new) e in
      let t = bind_some (of_code s.0.0 table) (λ (y : X). found y s.0.1) (x, new) s.2 in
      let is = found_is t.0 x s.0.1 new t.2 in
      let front = byte_takes old s.0.0 s.0.1 s.1 in
      let right : code t.0 ≡ s.0.0 = of_code_row (λ (n : ℕ) (y : X). code y ≡ n) s.0.0 table t.0 rows t.1 in
      (front ∙ (ap (λ (n : ℕ). n ∷ s.0.1) (sym right ∙ ap code is.0) ∙ ap (λ (r : List ℕ). code x ∷ r) is.1), tt);
  again = λ x rest fits. rw (back x) refl;
}

-- ---- literals

halves : (n : ℕ) → zigzag (integer_of n) ≡ n
halves n =
    elim (chosen (eqb (n % 2) 0) (pos (n / 2)) (negsuc (n / 2)) (integer_of n) refl) [
      | inl h ↦ let even : n % 2 ≡ 0 = eqb-true _ _ h.0 in ap zigzag (sym h.1) ∙ omega arith
      | inr h ↦ let not_even = eqb-false _ _ h.0 in let odd : n % 2 ≡ 1 = omega arith in ap zigzag (sym h.1) ∙ omega arith
    ]

back_again : (z : ℤ) → integer_of (zigzag z) ≡ z
back_again (pos n) = rw (eq-eqb (2 * n % 2) 0 (omega arith)) (ap pos (omega arith))
back_again (negsuc n) =
    let no : eqb ((2 * n + 1) % 2) 0 ≡ false = eqb_no ((2 * n + 1) % 2) 0 (λ e. absurd (omega arith)) in
    rw no (ap negsuc (omega arith))

-- what is found is x, so what holds of what is found holds of x
found_at : {X : Type 0} (P : X → List ℕ → Type 0) (x y : X) (r s : List ℕ) → found x r ≡ found y s → P x r → P y s
found_at {X} P x y r s e p = let is = found_is x y r s e in subst (λ (t : List ℕ). P y t) is.1 (subst (λ (z : X). P z r) is.0 p)

literal_takes : (old : List ℕ) (x : Literal) (new : List ℕ) → literal_at old ≡ found x new → (old ≡ literal_bytes x ++ new) × IsLiteral x
unfolding literal_at
literal_takes old x new e =
    let P : Literal → List ℕ → Type 0 = λ l r. (old ≡ literal_bytes l ++ r) × IsLiteral l in
    let integers = made_at (λ n. Int (integer_of n)) number_at in
    let symbols = made_at Sym text_at in
    let s = bind_some (byte_at old) (λ (b : ℕ × List ℕ). cond (eqb b.0 1) (found True b.1) (cond (eqb b.0 2) (found False b.1) (cond (eqb b.0 3) (integers b.1) (cond (eqb b.0 4) (symbols b.1) None)))) (x, new) e in
    let front = byte_takes old s.0.0 s.0.1 s.1 in
    let tag : (n : ℕ) → eqb s.0.0 n ≡ true → old ≡ n ∷ s.0.1 = λ n h. front ∙ ap (λ (m : ℕ). m ∷ s.0.1) (eqb-true s.0.0 n h) in
    elim (chosen (eqb s.0.0 1) (found True s.0.1) (cond (eqb s.0.0 2) (found False s.0.1) (cond (eqb s.0.0 3) (integers s.0.1) (cond (eqb s.0.0 4) (symbols s.0.1) None))) (found x new) s.2) [
      | inl h ↦ found_at P True x s.0.1 new h.1 (tag 1 h.0, tt)
      | inr g ↦ elim (chosen (eqb s.0.0 2) (found False s.0.1) (cond (eqb s.0.0 3) (integers s.0.1) (cond (eqb s.0.0 4) (symbols s.0.1) None)) (found x new) g.1) [
        | inl h ↦ found_at P False x s.0.1 new h.1 (tag 2 h.0, tt)
        | inr f ↦ elim (chosen (eqb s.0.0 3) (integers s.0.1) (cond (eqb s.0.0 4) (symbols s.0.1) None) (found x new) f.1) [
          | inl h ↦
              let t = bind_some (number_at s.0.1) (λ (n : ℕ × List ℕ). found (Int (integer_of n.0)) n.1) (x, new) h.1 in
              let first = number_exact.takes s.0.1 t.0.0 t.0.1 t.1 in
              found_at P (Int (integer_of t.0.0)) x t.0.1 new t.2 (rw halves (tag 3 h.0 ∙ ap (λ (r : List ℕ). 3 ∷ r) first.0), rw halves first.1)
          | inr d ↦ elim (chosen (eqb s.0.0 4) (symbols s.0.1) None (found x new) d.1) [
            | inl h ↦
                let t = bind_some (text_at s.0.1) (λ (n : List ℕ × List ℕ). found (Sym n.0) n.1) (x, new) h.1 in
                let first = text_exact.takes s.0.1 t.0.0 t.0.1 t.1 in
                found_at P (Sym t.0.0) x t.0.1 new t.2 (tag 4 h.0 ∙ ap (λ (r : List ℕ). 4 ∷ r) first.0, first.1)
            | inr h ↦ absurd (nothing x new h.1)
          ]
        ]
      ]
    ]

literal_again : (x : Literal) (rest : List ℕ) → IsLiteral x → literal_at (literal_bytes x ++ rest) ≡ found x rest
unfolding literal_at
literal_again True rest fits = refl
literal_again False rest fits = refl
literal_again (Int z) rest fits = rw (number_exact.again (zigzag z) rest fits, back_again) refl
literal_again (Sym name) rest fits = rw (text_exact.again name rest fits) refl

pub literal_exact : Exact IsLiteral literal_bytes literal_at
literal_exact = record { takes = literal_takes; again = literal_again }

-- ---- instructions

local_exact : Exact (λ (p : ℕ × ℕ). IsNumber p.0 × IsNumber p.1) (λ p. number_bytes p.0 ++ number_bytes p.1) (number_at ⨟ number_at)
local_exact = both_exact IsNumber IsNumber number_bytes number_bytes number_at number_at number_exact number_exact

path_exact : Exact (λ (p : ℕ × List (List ℕ)). IsNumber p.0 × IsList IsText p.1) (λ p. number_bytes p.0 ++ list_bytes text_bytes p.1) (number_at ⨟ list_at text_at)
path_exact = both_exact IsNumber (IsList IsText) number_bytes (list_bytes text_bytes) number_at (list_at text_at) number_exact (list_exact IsText text_bytes text_at text_exact)

numbers_exact : Exact (IsList IsNumber) (list_bytes number_bytes) (list_at number_at)
numbers_exact = list_exact IsNumber number_bytes number_at number_exact

spread_exact : Exact (λ (p : ℕ × List ℕ). IsNumber p.0 × IsList IsNumber p.1) (λ p. number_bytes p.0 ++ list_bytes number_bytes p.1) (number_at ⨟ list_at number_at)
spread_exact = both_exact IsNumber (IsList IsNumber) number_bytes (list_bytes number_bytes) number_at (list_at number_at) number_exact numbers_exact

definition_exact : Exact (λ (p : List ℕ × (ℕ × ℕ)). IsText p.0 × (IsNumber p.1.0 × IsNumber p.1.1)) (λ p. text_bytes p.0 ++ number_bytes p.1.0 ++ number_bytes p.1.1) (text_at ⨟ number_at ⨟ number_at)
definition_exact =
    same_exact (λ (p : List ℕ × (ℕ × ℕ)). IsText p.0 × (IsNumber p.1.0 × IsNumber p.1.1)) (λ p. text_bytes p.0 ++ (number_bytes p.1.0 ++ number_bytes p.1.1)) (λ p. text_bytes p.0 ++ number_bytes p.1.0 ++ number_bytes p.1.1) (text_at ⨟ number_at ⨟ number_at)
    (both_exact IsText (λ (p : ℕ × ℕ). IsNumber p.0 × IsNumber p.1) text_bytes (λ p. number_bytes p.0 ++ number_bytes p.1) text_at (number_at ⨟ number_at) text_exact local_exact)
    (λ p. append_assoc (text_bytes p.0) (number_bytes p.1.0) (number_bytes p.1.1))

-- the number of arguments, those that are spread, flags and a sequence
abbrev Above : Type 0
Above = ℕ × (List ℕ × (ℕ × ℕ))

abbrev IsAbove : Above → Type 0
IsAbove p = IsNumber p.0 × (IsList IsNumber p.1.0 × (IsNumber p.1.1.0 × IsNumber p.1.1.1))

abbrev above_bytes : Above → List ℕ
above_bytes p = number_bytes p.0 ++ (list_bytes number_bytes p.1.0 ++ (number_bytes p.1.1.0 ++ number_bytes p.1.1.1))

above_nested : Exact IsAbove above_bytes (number_at ⨟ list_at number_at ⨟ number_at ⨟ number_at)
above_nested =
    both_exact IsNumber (λ (p : List ℕ × (ℕ × ℕ)). IsList IsNumber p.0 × (IsNumber p.1.0 × IsNumber p.1.1)) number_bytes (λ p. list_bytes number_bytes p.0 ++ (number_bytes p.1.0 ++ number_bytes p.1.1)) number_at (list_at number_at ⨟ number_at ⨟ number_at) number_exact
    (both_exact (IsList IsNumber) (λ (p : ℕ × ℕ). IsNumber p.0 × IsNumber p.1) (list_bytes number_bytes) (λ p. number_bytes p.0 ++ number_bytes p.1) (list_at number_at) (number_at ⨟ number_at) numbers_exact local_exact)

above_exact : Exact IsAbove (λ p. number_bytes p.0 ++ list_bytes number_bytes p.1.0 ++ number_bytes p.1.1.0 ++ number_bytes p.1.1.1) (number_at ⨟ list_at number_at ⨟ number_at ⨟ number_at)
above_exact = same_exact IsAbove above_bytes (λ p. number_bytes p.0 ++ list_bytes number_bytes p.1.0 ++ number_bytes p.1.1.0 ++ number_bytes p.1.1.1) (number_at ⨟ list_at number_at ⨟ number_at ⨟ number_at) above_nested (λ p. simp append_assoc)

call_exact : Exact (λ (p : List ℕ × Above). IsText p.0 × IsAbove p.1) (λ p. text_bytes p.0 ++ number_bytes p.1.0 ++ list_bytes number_bytes p.1.1.0 ++ number_bytes p.1.1.1.0 ++ number_bytes p.1.1.1.1) (text_at ⨟ number_at ⨟ list_at number_at ⨟ number_at ⨟ number_at)
call_exact =
    same_exact (λ (p : List ℕ × Above). IsText p.0 × IsAbove p.1) (λ p. text_bytes p.0 ++ above_bytes p.1) (λ p. text_bytes p.0 ++ number_bytes p.1.0 ++ list_bytes number_bytes p.1.1.0 ++ number_bytes p.1.1.1.0 ++ number_bytes p.1.1.1.1) (text_at ⨟ number_at ⨟ list_at number_at ⨟ number_at ⨟ number_at)
    (both_exact IsText IsAbove text_bytes above_bytes text_at (number_at ⨟ list_at number_at ⨟ number_at ⨟ number_at) text_exact above_nested)
    (λ p. simp append_assoc)

-- what was taken is the operands of an instruction with this opcode
record IsTaken (old : List ℕ) (code : ℕ) (i : Instr) (new : List ℕ) : Type 0 where
  parts : old ≡ operand_bytes i ++ new
  fits : IsInstr i
  opcode : opcode_of i ≡ code

-- a constructor of instructions with this opcode, whose operands are spelled so
record Makes {X : Type 0} (F : X → Type 0) (f : X → List ℕ) (code : ℕ) (make : X → Instr) : Type 0 where
  opcode : (x : X) → opcode_of (make x) ≡ code
  bytes : (x : X) → operand_bytes (make x) ≡ f x
  fits : (x : X) → F x → IsInstr (make x)

single_takes : {X : Type 0} (F : X → Type 0) (f : X → List ℕ) (a : List ℕ → Option (X × List ℕ)) → Exact F f a → (code : ℕ) (make : X → Instr) → Makes F f code make → (old : List ℕ) (i : Instr) (new : List ℕ) → made_at make a old ≡ found i new → IsTaken old code i new
single_takes {X} F f a p code make m old i new e =
    let s = bind_some (a old) (λ (u : X × List ℕ). found (make u.0) u.1) (i, new) e in
    let first = p.takes old s.0.0 s.0.1 s.1 in
    found_at (λ j r. IsTaken old code j r) (make s.0.0) i s.0.1 new s.2
    (record { parts = first.0 ∙ ap (λ (bs : List ℕ). bs ++ s.0.1) (sym (m.bytes s.0.0)); fits = m.fits s.0.0 first.1; opcode = m.opcode s.0.0 })

table_takes : {X M : Type 0} (F : X → Type 0) (f : X → List ℕ) (a : List ℕ → Option (X × List ℕ)) → Exact F f a → (table : List (ℕ × M)) (fill : M → X → Instr) → AllByRecursion (λ (row : ℕ × M). Makes F f row.0 (fill row.1)) table
    → (code : ℕ) (old : List ℕ) (i : Instr) (new : List ℕ) → (a old ▷ λ x. made_of code table (λ make. fill make x.0) ▷ λ instr. found instr x.1) ≡ found i new → IsTaken old code i new
table_takes {X} {M} F f a p table fill rows code old i new e =
    let s = bind_some (a old) (λ (x : X × List ℕ). made_of code table (λ make. fill make x.0) ▷ λ instr. found instr x.1) (i, new) e in
    let t = bind_some (made_of code table (λ make. fill make s.0.0)) (λ (instr : Instr). found instr s.0.1) (i, new) s.2 in
    let u = bind_some (of_code code table) (λ (make : M). Some (fill make s.0.0)) t.0 t.1 in
    let m = of_code_row (λ (n : ℕ) (make : M). Makes F f n (fill make)) code table u.0 rows u.1 in
    let first = p.takes old s.0.0 s.0.1 s.1 in
    let is : fill u.0 s.0.0 ≡ t.0 = some_is (fill u.0 s.0.0) t.0 u.2 in
    let taken : IsTaken old code (fill u.0 s.0.0) s.0.1 = record { parts = first.0 ∙ ap (λ (bs : List ℕ). bs ++ s.0.1) (sym (m.bytes s.0.0)); fits = m.fits s.0.0 first.1; opcode = m.opcode s.0.0 } in
    found_at (λ j r. IsTaken old code j r) t.0 i s.0.1 new t.2 (subst (λ (j : Instr). IsTaken old code j s.0.1) is taken)

alone_takes : (code : ℕ) (old : List ℕ) (i : Instr) (new : List ℕ) → (of_code code alone ▷ λ instr. found instr old) ≡ found i new → IsTaken old code i new
alone_takes code old i new e =
    let s = bind_some (of_code code alone) (λ (instr : Instr). found instr old) (i, new) e in
    let taken = of_code_row (λ (n : ℕ) (j : Instr). IsTaken old n j old) code alone s.0 (record { parts = refl; fits = tt; opcode = refl }, (record { parts = refl; fits = tt; opcode = refl }, (record { parts = refl; fits = tt; opcode = refl }, (record { parts = refl; fits = tt; opcode = refl }, (record { parts = refl; fits = tt; opcode = refl }, (record { parts = refl; fits = tt; opcode = refl }, (record { parts = refl; fits = tt; opcode = refl }, (record { parts = refl; fits = tt; opcode = refl }, (record { parts = refl; fits = tt; opcode = refl }, (record { parts = refl; fits = tt; opcode = refl }, tt)))))))))) s.1 in
    found_at (λ j r. IsTaken old code j r) s.0 i old new s.2 taken

-- the opcodes of the shapes that one instruction has
abbrev HasOpcode : ℕ → Shape → Type 0
HasOpcode code shape.Alone = ⊤
HasOpcode code shape.Number = ⊤
HasOpcode code shape.Value = code ≡ 9
HasOpcode code shape.Word = ⊤
HasOpcode code shape.Local = ⊤
HasOpcode code shape.Path = code ≡ 18
HasOpcode code shape.Spread = ⊤
HasOpcode code shape.Call = code ≡ 25
HasOpcode code shape.Above = code ≡ 26
HasOpcode code shape.Definition = ⊤

coded : (old : List ℕ) (code other : ℕ) (i : Instr) (new : List ℕ) → code ≡ other → IsTaken old other i new → IsTaken old code i new
coded old code other i new e t = record { parts = t.parts; fits = t.fits; opcode = t.opcode ∙ sym e }

shaped_takes : (form : Shape) (code : ℕ) (old : List ℕ) (i : Instr) (new : List ℕ) → HasOpcode code form → shaped_at form code old ≡ found i new → IsTaken old code i new
unfolding shaped_at call_at above_at
shaped_takes shape.Alone code old i new h e = alone_takes code old i new e
shaped_takes shape.Number code old i new h e = table_takes IsNumber number_bytes number_at number_exact numbered (λ make n. make n) (record { opcode = λ n. refl; bytes = λ n. refl; fits = λ n h. h }, (record { opcode = λ n. refl; bytes = λ n. refl; fits = λ n h. h }, (record { opcode = λ n. refl; bytes = λ n. refl; fits = λ n h. h }, (record { opcode = λ n. refl; bytes = λ n. refl; fits = λ n h. h }, (record { opcode = λ n. refl; bytes = λ n. refl; fits = λ n h. h }, (record { opcode = λ n. refl; bytes = λ n. refl; fits = λ n h. h }, (record { opcode = λ n. refl; bytes = λ n. refl; fits = λ n h. h }, (record { opcode = λ n. refl; bytes = λ n. refl; fits = λ n h. h }, (record { opcode = λ n. refl; bytes = λ n. refl; fits = λ n h. h }, (record { opcode = λ n. refl; bytes = λ n. refl; fits = λ n h. h }, (record { opcode = λ n. refl; bytes = λ n. refl; fits = λ n h. h }, (record { opcode = λ n. refl; bytes = λ n. refl; fits = λ n h. h }, tt)))))))))))) code old i new e
shaped_takes shape.Value code old i new h e = coded old code 9 i new h (single_takes IsLiteral literal_bytes literal_at literal_exact 9 PutObject (record { opcode = λ v. refl; bytes = λ v. refl; fits = λ v h. h }) old i new e)
shaped_takes shape.Word code old i new h e = table_takes IsText text_bytes text_at text_exact worded (λ make s. make s) (record { opcode = λ s. refl; bytes = λ s. refl; fits = λ s h. h }, (record { opcode = λ s. refl; bytes = λ s. refl; fits = λ s h. h }, (record { opcode = λ s. refl; bytes = λ s. refl; fits = λ s h. h }, (record { opcode = λ s. refl; bytes = λ s. refl; fits = λ s h. h }, (record { opcode = λ s. refl; bytes = λ s. refl; fits = λ s h. h }, (record { opcode = λ s. refl; bytes = λ s. refl; fits = λ s h. h }, tt)))))) code old i new e
shaped_takes shape.Local code old i new h e = table_takes (λ (p : ℕ × ℕ). IsNumber p.0 × IsNumber p.1) (λ p. number_bytes p.0 ++ number_bytes p.1) (number_at ⨟ number_at) local_exact placed (λ make p. make p.0 p.1) (record { opcode = λ p. refl; bytes = λ p. refl; fits = λ p h. (h.0, h.1) }, (record { opcode = λ p. refl; bytes = λ p. refl; fits = λ p h. (h.0, h.1) }, tt)) code old i new e
shaped_takes shape.Path code old i new h e = coded old code 18 i new h (single_takes (λ (p : ℕ × List (List ℕ)). IsNumber p.0 × IsList IsText p.1) (λ p. number_bytes p.0 ++ list_bytes text_bytes p.1) (number_at ⨟ list_at text_at) path_exact 18 (λ p. OptGetConstantPath p.0 p.1) (record { opcode = λ p. refl; bytes = λ p. refl; fits = λ p h. (h.0, h.1) }) old i new e)
shaped_takes shape.Spread code old i new h e = table_takes (λ (p : ℕ × List ℕ). IsNumber p.0 × IsList IsNumber p.1) (λ p. number_bytes p.0 ++ list_bytes number_bytes p.1) (number_at ⨟ list_at number_at) spread_exact spread (λ make p. make p.0 p.1) (record { opcode = λ p. refl; bytes = λ p. refl; fits = λ p h. (h.0, h.1) }, (record { opcode = λ p. refl; bytes = λ p. refl; fits = λ p h. (h.0, h.1) }, tt)) code old i new e
shaped_takes shape.Call code old i new h e = coded old code 25 i new h (single_takes (λ (p : List ℕ × Above). IsText p.0 × IsAbove p.1) (λ p. text_bytes p.0 ++ number_bytes p.1.0 ++ list_bytes number_bytes p.1.1.0 ++ number_bytes p.1.1.1.0 ++ number_bytes p.1.1.1.1) (text_at ⨟ number_at ⨟ list_at number_at ⨟ number_at ⨟ number_at) call_exact 25 (λ p. Send p.0 p.1.0 p.1.1.0 p.1.1.1.0 p.1.1.1.1) (record { opcode = λ p. refl; bytes = λ p. refl; fits = λ p h. (h.0, h.1.0, h.1.1.0, h.1.1.1.0, h.1.1.1.1) }) old i new e)
shaped_takes shape.Above code old i new h e = coded old code 26 i new h (single_takes IsAbove (λ p. number_bytes p.0 ++ list_bytes number_bytes p.1.0 ++ number_bytes p.1.1.0 ++ number_bytes p.1.1.1) (number_at ⨟ list_at number_at ⨟ number_at ⨟ number_at) above_exact 26 (λ p. InvokeSuper p.0 p.1.0 p.1.1.0 p.1.1.1) (record { opcode = λ p. refl; bytes = λ p. refl; fits = λ p h. (h.0, h.1.0, h.1.1.0, h.1.1.1) }) old i new e)
shaped_takes shape.Definition code old i new h e = table_takes (λ (p : List ℕ × (ℕ × ℕ)). IsText p.0 × (IsNumber p.1.0 × IsNumber p.1.1)) (λ p. text_bytes p.0 ++ number_bytes p.1.0 ++ number_bytes p.1.1) (text_at ⨟ number_at ⨟ number_at) definition_exact defining (λ make p. make p.0 p.1.0 p.1.1) (record { opcode = λ p. refl; bytes = λ p. refl; fits = λ p h. (h.0, h.1.0, h.1.1) }, (record { opcode = λ p. refl; bytes = λ p. refl; fits = λ p h. (h.0, h.1.0, h.1.1) }, tt)) code old i new e

instr_takes : (old : List ℕ) (i : Instr) (new : List ℕ) → instr_at old ≡ found i new → (old ≡ instr_bytes i ++ new) × IsInstr i
unfolding instr_at
instr_takes old i new e =
    let s = bind_some (byte_at old) (λ (b : ℕ × List ℕ). of_code b.0 shapes ▷ λ (form : Shape). shaped_at form b.0 b.1) (i, new) e in
    let t = bind_some (of_code s.0.0 shapes) (λ (form : Shape). shaped_at form s.0.0 s.0.1) (i, new) s.2 in
    let known = of_code_row HasOpcode s.0.0 shapes t.0 (tt, (tt, (tt, (tt, (tt, (tt, (tt, (tt, (tt, (tt, (tt, (tt, (tt, (tt, (tt, (tt, (tt, (tt, (tt, (tt, (tt, (tt, (refl, (tt, (tt, (tt, (tt, (tt, (tt, (tt, (tt, (refl, (tt, (tt, (refl, (refl, (tt, (tt, tt)))))))))))))))))))))))))))))))))))))) t.1 in
    let taken = shaped_takes t.0 s.0.0 s.0.1 i new known t.2 in
    (byte_takes old s.0.0 s.0.1 s.1 ∙ (ap (λ (n : ℕ). n ∷ s.0.1) (sym taken.opcode) ∙ ap (λ (r : List ℕ). opcode_of i ∷ r) taken.parts), taken.fits)

instr_again : (i : Instr) (rest : List ℕ) → IsInstr i → instr_at (instr_bytes i ++ rest) ≡ found i rest
unfolding instr_at shaped_at call_at above_at
instr_again Nop rest fits = refl
instr_again Pop rest fits = refl
instr_again Dup rest fits = refl
instr_again Swap rest fits = refl
instr_again (TopN n) rest fits = rw (number_exact.again n rest fits) refl
instr_again (SetN n) rest fits = rw (number_exact.again n rest fits) refl
instr_again (AdjustStack n) rest fits = rw (number_exact.again n rest fits) refl
instr_again PutNil rest fits = refl
instr_again PutSelf rest fits = refl
instr_again (PutObject v) rest fits = rw (literal_exact.again v rest fits) refl
instr_again (PutString s) rest fits = rw (text_exact.again s rest fits) refl
instr_again (GetLocal slot level) rest fits = rw (local_exact.again (slot, level) rest (fits.0, fits.1)) refl
instr_again (SetLocal slot level) rest fits = rw (local_exact.again (slot, level) rest (fits.0, fits.1)) refl
instr_again (GetInstanceVariable s) rest fits = rw (text_exact.again s rest fits) refl
instr_again (SetInstanceVariable s) rest fits = rw (text_exact.again s rest fits) refl
instr_again (GetGlobal s) rest fits = rw (text_exact.again s rest fits) refl
instr_again (SetGlobal s) rest fits = rw (text_exact.again s rest fits) refl
instr_again (SetConstant s) rest fits = rw (text_exact.again s rest fits) refl
instr_again (OptGetConstantPath first names) rest fits = rw (path_exact.again (first, names) rest (fits.0, fits.1)) refl
instr_again (NewArray count splats) rest fits = rw (spread_exact.again (count, splats) rest (fits.0, fits.1)) refl
instr_again (NewHash n) rest fits = rw (number_exact.again n rest fits) refl
instr_again (NewRange n) rest fits = rw (number_exact.again n rest fits) refl
instr_again (ConcatStrings n) rest fits = rw (number_exact.again n rest fits) refl
instr_again ObjToString rest fits = refl
instr_again AnyToString rest fits = refl
instr_again (Send name count splats flags block) rest fits = rw (call_exact.again (name, (count, (splats, (flags, block)))) rest (fits.0, (fits.1, (fits.2, (fits.3, fits.4))))) refl
instr_again (InvokeSuper count splats flags block) rest fits = rw (above_exact.again (count, (splats, (flags, block))) rest (fits.0, (fits.1, (fits.2, fits.3)))) refl
instr_again (InvokeBlock count splats) rest fits = rw (spread_exact.again (count, splats) rest (fits.0, fits.1)) refl
instr_again (DefineMethod name sequence flag) rest fits = rw (definition_exact.again (name, (sequence, flag)) rest (fits.0, (fits.1, fits.2))) refl
instr_again (DefineClass name sequence flag) rest fits = rw (definition_exact.again (name, (sequence, flag)) rest (fits.0, (fits.1, fits.2))) refl
instr_again CheckMatch rest fits = refl
instr_again (Jump n) rest fits = rw (number_exact.again n rest fits) refl
instr_again (BranchIf n) rest fits = rw (number_exact.again n rest fits) refl
instr_again (BranchUnless n) rest fits = rw (number_exact.again n rest fits) refl
instr_again (BranchNil n) rest fits = rw (number_exact.again n rest fits) refl
instr_again (Throw n) rest fits = rw (number_exact.again n rest fits) refl
instr_again Leave rest fits = refl
instr_again (ExpandArray n) rest fits = rw (number_exact.again n rest fits) refl

pub instr_exact : Exact IsInstr instr_bytes instr_at
instr_exact = record { takes = instr_takes; again = instr_again }
