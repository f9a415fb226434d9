-- Jumps over code that was written.
use Rattle.std.proofs.Common.{◌≡◌, ℕ, suc, ◌+◌, ◌-◌, length, ap, ◌∙◌, arith}
use Rattle.iseq_types.specs.declared.instructions.Instr.{Instr}
use Rattle.iseq_types.specs.declared.instructions.Instr.TheVariants.{Pop, Dup, BranchUnless, Jump}
use Rattle.code_meaning.specs.Code.{Shape, done, op, ahead, part, size, at_line}
use Rattle.code_writer.specs.Writing.{Writing, plain, on, wrote, grown}
use Rattle.code_writer.proofs.Growing.{grown_length}

-- from behind the code to its end
pub over : (h end : ℕ) (s : Shape) (w v : Writing) → end ≡ length w.steps → v ≡ grown h s w → length v.steps - end ≡ size s
over h end s w v here is =
    let counts = ap (λ (w : Writing). length w.steps) is in
    let grows = grown_length h s w in
    omega arith

pub decided : (line h end : ℕ) (j : ℕ → Instr) (a : Shape) (w v₁ v₂ v₃ v₄ : Writing) → end ≡ length w.steps → v₁ ≡ grown (h + 0) a w → v₂ ≡ wrote (plain (at_line line Pop)) v₁ → v₃ ≡ wrote (on line j (length v₂.steps - end)) v₂ → v₄ ≡ wrote (plain (at_line line Dup)) v₃ → v₄ ≡ grown h (op line Dup (ahead line j (suc (size a)) (op line Pop (part 0 a done)))) w
decided line h end j a w v₁ v₂ v₃ v₄ here one two three four =
    let other : v₂ ≡ grown h (op line Pop (part 0 a done)) w = two ∙ ap (wrote (plain (at_line line Pop))) one in
    let counts = over h end (op line Pop (part 0 a done)) w v₂ here other in
    let far : length v₂.steps - end ≡ suc (size a) = omega arith in
    four
    ∙ ap (wrote (plain (at_line line Dup))) (three ∙ ap (λ n. wrote (on line j n) v₂) far ∙ ap (wrote (on line j (suc (size a)))) other)

pub chosen : (line h end start : ℕ) (c a o : Shape) (w v₁ v₂ v₃ v₄ : Writing) → end ≡ length w.steps → v₁ ≡ grown (h + 0) o w → start ≡ length v₁.steps → v₂ ≡ grown h (part 0 a (ahead line Jump (length v₁.steps - end) done)) v₁ → v₃ ≡ wrote (on line BranchUnless (length v₂.steps - start)) v₂ → v₄ ≡ grown (h + 0) c v₃ → v₄ ≡ grown h (part 0 c (ahead line BranchUnless (size a + 1) (part 0 a (ahead line Jump (size o) (part 0 o done))))) w
chosen line h end start c a o w v₁ v₂ v₃ v₄ here one there two three four =
    let behind : length v₁.steps - end ≡ size o = over (h + 0) end o w v₁ here one in
    let counts = over h start (part 0 a (ahead line Jump (length v₁.steps - end) done)) v₁ v₂ there two in
    let far : length v₂.steps - start ≡ size a + 1 = omega arith in
    let holds : v₂ ≡ grown h (part 0 a (ahead line Jump (size o) (part 0 o done))) w =
    two ∙ ap (λ n. grown h (part 0 a (ahead line Jump n done)) v₁) behind ∙ ap (grown h (part 0 a (ahead line Jump (size o) done))) one in
    four
    ∙ ap (grown (h + 0) c) (three ∙ ap (λ n. wrote (on line BranchUnless n) v₂) far ∙ ap (wrote (on line BranchUnless (size a + 1))) holds)
