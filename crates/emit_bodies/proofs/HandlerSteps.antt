-- Statements that a row holds.
use Rattle.std.proofs.Common.{◌≡◌, ℕ, ◌+◌, ◌-◌, length, ap, ◌∙◌, add-zero, arith}
use Rattle.iseq_types.specs.declared.sequences.CatchKind.TheVariants as catches
use Rattle.code_meaning.specs.Code.{Shape, held, size}
use Rattle.code_writer.specs.Writing.{Writing, grown, row_opened, row_begun}
use Rattle.code_writer.proofs.Growing.{grown_length}

-- statements with clauses, from the steps in which they are written: the part behind `else`, the end of the row, the statements, and the row's begin
pub rescued_steps : (h seq go_on row : ℕ) (a s : Shape) (first last ended held_part begun : Writing) → go_on ≡ length first.steps → last ≡ grown h s first → ended ≡ row_opened catches.Rescue (length last.steps - go_on) seq h last → row ≡ length last.rows → held_part ≡ grown (h + 0) a ended → begun ≡ row_begun row held_part → begun ≡ grown h (held catches.Rescue (size s) seq a s) first
rescued_steps h seq go_on row a s first last ended held_part begun place last_is ended_is row_is held_is begun_is =
    let counts = ap (λ (w : Writing). length w.steps) last_is in
    let grows = grown_length h s first in
    let far : length last.steps - go_on ≡ size s = omega arith in
    begun_is
    ∙ ap (λ n. row_begun n held_part) row_is
    ∙ ap (row_begun (length last.rows)) (held_is ∙ ap (λ d. grown d a ended) (add-zero h) ∙ ap (grown h a) (ended_is ∙ ap (λ n. row_opened catches.Rescue n seq h last) far))
    ∙ ap (λ w. row_begun (length w.rows) (grown h a (row_opened catches.Rescue (size s) seq h w))) last_is
