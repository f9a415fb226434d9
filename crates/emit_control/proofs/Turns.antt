-- A jump back that is led to the beginning of a loop, and the loop.
use Rattle.std.proofs.Common.{◌≡◌, ◌<◌, ℕ, zero, suc, ◌+◌, ◌-◌, Bool, true, false, List, [], ◌∷◌, ◌++◌, length, Option, None, Some, slice_get, slice_set, refl, ap, sym, ◌∙◌, arith, add-zero, length-append}
use Rattle.std.proofs.Math.ListN.{length-set}
use Rattle.std.proofs.Math.Seq.{set-append_seam}
use Rattle.iseq_types.specs.declared.instructions.Instr.{Instr}
use Rattle.iseq_types.specs.declared.instructions.Instr.TheVariants.{Pop, PutNil, Jump}
use Rattle.iseq_types.specs.declared.sequences.CatchKind.{CatchKind}
use Rattle.iseq_types.specs.declared.sequences.CatchKind.TheVariants as catches
use Rattle.ruby_tree.specs.Tree.{SourcePosition, Tree, while_loop}
use Rattle.code_meaning.specs.Code.{Shape, done, op, ahead, behind, deep, part, held, size, at_line}
use Rattle.code_writer.specs.Writing.{Step, plain, on, back, Writing, wrote, row_opened, row_begun, set_begin, set_over, led_back, grown}
use Rattle.code_writer.proofs.Growing.{grown_length}
use Rattle.compile_table.specs.Shapes.{Where, own, looped, shape, form_shape, branch_by, turns}

-- the step of a number leads back over so many
abbrev led : ℕ → ℕ → Writing → Writing
led i n w = record w { steps = set_over i n w.steps (slice_get w.steps i) }

-- ---- what is written later

get_before : (xs : List Step) (i : ℕ) (y : Step) → i < length xs → slice_get (xs ++ y ∷ []) i ≡ slice_get xs i
get_before [] i y less = absurd (omega (arith, less))
get_before (x ∷ xs) zero y less = refl
get_before (x ∷ xs) (suc i) y less = get_before xs i y (omega (arith, less))

set_before : (xs : List Step) (i : ℕ) (x y : Step) → i < length xs → slice_set (xs ++ y ∷ []) i x ≡ slice_set xs i x ++ y ∷ []
set_before [] i x y less = absurd (omega (arith, less))
set_before (z ∷ xs) zero x y less = refl
set_before (z ∷ xs) (suc i) x y less = ap (λ zs. z ∷ zs) (set_before xs i x y (omega (arith, less)))

over_before : (i n : ℕ) (xs : List Step) (y : Step) (o : Option Step) → i < length xs → set_over i n (xs ++ y ∷ []) o ≡ set_over i n xs o ++ y ∷ []
over_before i n xs y None less = refl
over_before i n xs y (Some (plain l)) less = refl
over_before i n xs y (Some (on l j m)) less = refl
over_before i n xs y (Some (back l j m)) less = set_before xs i (back l j n) y less

over_length : (i n : ℕ) (xs : List Step) (o : Option Step) → length (set_over i n xs o) ≡ length xs
over_length i n xs None = refl
over_length i n xs (Some (plain l)) = refl
over_length i n xs (Some (on l j m)) = refl
over_length i n xs (Some (back l j m)) = length-set xs i (back l j n)

led_wrote : (i n : ℕ) (x : Step) (w : Writing) → i < length w.steps → led i n (wrote x w) ≡ wrote x (led i n w)
led_wrote i n x w less =
    ap (λ (xs : List Step). record { steps = xs; rows = w.rows })
    (ap (set_over i n (w.steps ++ x ∷ [])) (get_before w.steps i x less) ∙ over_before i n w.steps x (slice_get w.steps i) less)

led_opened : (i n : ℕ) (k : CatchKind) (far q h : ℕ) (w : Writing) → led i n (row_opened k far q h w) ≡ row_opened k far q h (led i n w)
led_opened i n k far q h w =
    ap (λ (m : ℕ). record { steps = set_over i n w.steps (slice_get w.steps i); rows = w.rows ++ record { kind = k; from = m; to = m; far = far; sp = h; seq = q } ∷ [] })
    (sym (over_length i n w.steps (slice_get w.steps i)))

led_begun : (i n r : ℕ) (w : Writing) → led i n (row_begun r w) ≡ row_begun r (led i n w)
led_begun i n r w =
    ap (λ (m : ℕ). record { steps = set_over i n w.steps (slice_get w.steps i); rows = set_begin r m w.rows (slice_get w.rows r) })
    (sym (over_length i n w.steps (slice_get w.steps i)))

still : (i h : ℕ) (s : Shape) (w : Writing) → i < length w.steps → i < length (grown h s w).steps
still i h s w less = let e = grown_length h s w in omega (arith, less)

-- A jump back may be led before what stands in front of it is written, or after.
led_grown : (i n h : ℕ) (s : Shape) (w : Writing) → i < length w.steps → led i n (grown h s w) ≡ grown h s (led i n w)
led_grown i n h done w less = refl
led_grown i n h (op l x s) w less = led_wrote i n _ (grown h s w) (still i h s w less) ∙ ap (wrote (plain (at_line l x))) (led_grown i n h s w less)
led_grown i n h (ahead l j m s) w less = led_wrote i n _ (grown h s w) (still i h s w less) ∙ ap (wrote (on l j m)) (led_grown i n h s w less)
led_grown i n h (behind l j m s) w less = led_wrote i n _ (grown h s w) (still i h s w less) ∙ ap (wrote (back l j m)) (led_grown i n h s w less)
led_grown i n h (deep l j s) w less = led_wrote i n _ (grown h s w) (still i h s w less) ∙ ap (wrote (plain (at_line l (j h)))) (led_grown i n h s w less)
led_grown i n h (part d a s) w less = led_grown i n (h + d) a (grown h s w) (still i h s w less) ∙ ap (grown (h + d) a) (led_grown i n h s w less)
led_grown i n h (held k far q a s) w less =
    led_begun i n (length (grown h s w).rows) (grown h a (row_opened k far q h (grown h s w)))
    ∙ ap (row_begun (length (grown h s w).rows)) (led_grown i n h a (row_opened k far q h (grown h s w)) (still i h s w less))
    ∙ ap (λ (v : Writing). row_begun (length (grown h s w).rows) (grown h a v)) (led_opened i n k far q h (grown h s w))
    ∙ ap (λ (v : Writing). row_begun (length v.rows) (grown h a (row_opened k far q h v))) (led_grown i n h s w less)

-- ---- the jump back itself

get_last : (xs : List Step) (y : Step) → slice_get (xs ++ y ∷ []) (length xs) ≡ Some y
get_last [] y = refl
get_last (x ∷ xs) y = get_last xs y

led_last : (n l m : ℕ) (j : ℕ → Instr) (w : Writing) → led (length w.steps) n (wrote (back l j m) w) ≡ wrote (back l j n) w
led_last n l m j w =
    ap (λ (xs : List Step). record { steps = xs; rows = w.rows })
    (ap (set_over (length w.steps) n (w.steps ++ back l j m ∷ [])) (get_last w.steps (back l j m)) ∙ set-append_seam w.steps (back l j m) [] (back l j n))

-- ---- loops

-- a part at the depth of what it stands in
level : (h : ℕ) (a s : Shape) (n : ℕ) (w : Writing) → grown h (held catches.Next 0 0 (held catches.Break n 0 (part 0 a done) done) s) w ≡ grown h (held catches.Next 0 0 (held catches.Break n 0 a done) s) w
level h a s n w =
    ap (λ (d : ℕ). row_begun (length (grown h s w).rows) (row_begun (length (row_opened catches.Next 0 0 h (grown h s w)).rows) (grown d a (row_opened catches.Break n 0 h (row_opened catches.Next 0 0 h (grown h s w))))))
    (add-zero h)

pub turned : (line h end again : ℕ) (u : Bool) (a c : Shape) (w v₁ v₂ v₃ v₄ : Writing) → end ≡ length w.steps → again ≡ 1 + length w.steps → v₁ ≡ grown h (part 0 c (behind line (branch_by u) 0 (op line PutNil done))) w → v₂ ≡ wrote (plain (at_line line Pop)) v₁ → v₃ ≡ grown h (held catches.Next 0 0 (held catches.Break (length v₂.steps - end) 0 (part 0 a done) done) done) v₂ → v₄ ≡ led_back again v₃ → v₄ ≡ grown h (turns line u a c) w
turned line h end again u a c w v₁ v₂ v₃ v₄ here number one two three four =
    four
    ∙ ap (λ (n : ℕ). led again n v₃) count
    ∙ ap (λ (v : Writing). led again (size a + 1 + size c) v) whole
    ∙ led_grown again (size a + 1 + size c) h loop jump before
    ∙ ap (λ (i : ℕ). grown h loop (led i (size a + 1 + size c) jump)) place
    ∙ ap (grown h loop) (led_last (size a + 1 + size c) line 0 (branch_by u) value)
  where
    loop : Shape
    loop = held catches.Next 0 0 (held catches.Break (size c + 3) 0 a done) (op line Pop (part 0 c done))

    value : Writing
    value = wrote (plain (at_line line PutNil)) w

    jump : Writing
    jump = wrote (back line (branch_by u) 0) value

    place : again ≡ length value.steps
    place = let e = length-append w.steps (plain (at_line line PutNil) ∷ []) in omega (arith, number)

    before : again < length jump.steps
    before = let e = length-append value.steps (back line (branch_by u) 0 ∷ []) in omega (arith, place)

    test : v₂ ≡ grown h (op line Pop (part 0 c done)) jump
    test = two ∙ ap (wrote (plain (at_line line Pop))) one

    counts : length jump.steps ≡ length w.steps + 2
    counts = let e = length-append value.steps (back line (branch_by u) 0 ∷ []) in let f = length-append w.steps (plain (at_line line PutNil) ∷ []) in omega arith

    far : length v₂.steps - end ≡ size c + 3
    far = let e = ap (λ (v : Writing). length v.steps) test in let f = grown_length h (op line Pop (part 0 c done)) jump in omega (arith, counts, here)

    whole : v₃ ≡ grown h loop jump
    whole =
        three
        ∙ ap (λ (n : ℕ). grown h (held catches.Next 0 0 (held catches.Break n 0 (part 0 a done) done) done) v₂) far
        ∙ ap (grown h (held catches.Next 0 0 (held catches.Break (size c + 3) 0 (part 0 a done) done) done)) test
        ∙ level h a (op line Pop (part 0 c done)) (size c + 3) jump

    count : length v₃.steps - suc again ≡ size a + 1 + size c
    count = let e = ap (λ (v : Writing). length v.steps) whole in let f = grown_length h loop jump in omega (arith, counts, number)

-- where the condition begins
pub begun : (line h start : ℕ) (u : Bool) (c : Shape) (w v : Writing) → v ≡ grown h (part 0 c (behind line (branch_by u) 0 (op line PutNil done))) w → start ≡ length v.steps → start ≡ size c + 2 + length w.steps
begun line h start u c w v is here =
    let counts = ap (λ (v : Writing). length v.steps) is in
    let grows = grown_length h (part 0 c (behind line (branch_by u) 0 (op line PutNil done))) w in
    omega arith

-- a loop whose body comes first, or not
pub body_first : (l : Where) (s : SourcePosition) (line h : ℕ) (u first : Bool) (t c : Tree) (w v : Writing) → line ≡ own l s → first ≡ true → v ≡ grown h (turns line u (shape (looped l) t) (shape l c)) w → v ≡ grown h (form_shape l (while_loop t c u first) s) w
body_first l s line h u true t c w v at is told = told ∙ ap (λ (n : ℕ). grown h (turns n u (shape (looped l) t) (shape l c)) w) at
body_first l s line h u false t c w v at is told = cc

pub test_first : (l : Where) (s : SourcePosition) (line h start : ℕ) (u first : Bool) (t c : Tree) (w v₁ v₂ : Writing) → line ≡ own l s → first ≡ false → start ≡ size (shape l c) + 2 + length w.steps → v₁ ≡ grown h (turns line u (shape (looped l) t) (shape l c)) w → v₂ ≡ wrote (on line Jump (length v₁.steps - start)) v₁ → v₂ ≡ grown h (form_shape l (while_loop t c u first) s) w
test_first l s line h start u true t c w v₁ v₂ at is there one two = cc
test_first l s line h start u false t c w v₁ v₂ at is there one two =
    let counts = ap (λ (v : Writing). length v.steps) one in
    let grows = grown_length h (turns line u (shape (looped l) t) (shape l c)) w in
    let far : length v₁.steps - start ≡ size (shape (looped l) t) + 1 = omega arith in
    two
    ∙ ap (λ (n : ℕ). wrote (on line Jump n) v₁) far
    ∙ ap (wrote (on line Jump (size (shape (looped l) t) + 1))) one
    ∙ ap (λ (n : ℕ). wrote (on n Jump (size (shape (looped l) t) + 1)) (grown h (turns n u (shape (looped l) t) (shape l c)) w)) at
