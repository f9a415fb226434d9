-- The tests and the bodies of a case without a value.
use Rattle.std.proofs.Common.{◌≡◌, ℕ, ◌+◌, ◌-◌, length, refl, ap, sym, ◌∙◌, arith}
use Rattle.ruby_tree.specs.Tree.{Tree, Trees, no_more, more, Whens, no_when, when}
use Rattle.iseq_types.specs.declared.instructions.Instr.TheVariants.{BranchIf, Jump}
use Rattle.code_meaning.specs.Code.{Shape, done, ahead, part, size}
use Rattle.compile_table.specs.Shapes.{Where, shape, tests_shape, test_shape, hits_shape}
use Rattle.code_writer.specs.Writing.{Writing, on, wrote, grown}
use Rattle.code_writer.proofs.Growing.{grown_length}
use Rattle.emit_control.proofs.Jumps.{over}

-- one test
abbrev test : Where → ℕ → Tree → ℕ → Shape
test l line t n = part 0 (shape l t) (ahead line BranchIf n done)

-- ---- seams

test_seam : (l : Where) (line h far : ℕ) (ts : Trees) (s : Shape) (w : Writing) → grown h (test_shape l line ts far s) w ≡ grown h (test_shape l line ts far done) (grown h s w)
test_seam l line h far no_more s w = refl
test_seam l line h far (more t ts) s w = ap (grown h (test l line t (size (test_shape l line ts 0 done) + far))) (test_seam l line h far ts s w)

tests_seam : (l : Where) (line h far : ℕ) (ws : Whens) (s : Shape) (w : Writing) → grown h (tests_shape l line ws far s) w ≡ grown h (tests_shape l line ws far done) (grown h s w)
tests_seam l line h far no_when s w = refl
tests_seam l line h far (when ts t ws) s w =
    test_seam l line h _ ts _ w
    ∙ ap (grown h (test_shape l line ts (size (tests_shape l line ws 0 done) + far) done)) (tests_seam l line h (far + (size (shape l t) + 1)) ws s w)
    ∙ sym (test_seam l line h _ ts _ (grown h s w))

-- ---- sizes

-- tests are as long wherever they jump to
test_size : (l : Where) (line m n : ℕ) (ts : Trees) (r s : Shape) → size r ≡ size s → size (test_shape l line ts m r) ≡ size (test_shape l line ts n s)
test_size l line m n no_more r s e = e
test_size l line m n (more t ts) r s e = let f = test_size l line m n ts r s e in omega arith

tests_size : (l : Where) (line m n : ℕ) (ws : Whens) → size (tests_shape l line ws m done) ≡ size (tests_shape l line ws n done)
tests_size l line m n no_when = refl
tests_size l line m n (when ts t ws) = test_size l line _ _ ts _ _ (tests_size l line (m + (size (shape l t) + 1)) (n + (size (shape l t) + 1)) ws)

-- ---- a test before those behind it

pub test_step : (l : Where) (line h start far : ℕ) (t : Tree) (ts : Trees) (first old new : Writing) → length first.steps ≡ far + start → old ≡ grown h (test_shape l line ts far done) first → new ≡ grown h (test l line t (length old.steps - start)) old → new ≡ grown h (test_shape l line (more t ts) far done) first
test_step l line h start far t ts first old new place is told =
    let counts = ap (λ (w : Writing). length w.steps) is in
    let grows = grown_length h (test_shape l line ts far done) first in
    let sizes = test_size l line far 0 ts done done refl in
    let over : length old.steps - start ≡ size (test_shape l line ts 0 done) + far = omega arith in
    told
    ∙ ap (λ (n : ℕ). grown h (test l line t n) old) over
    ∙ ap (grown h (test l line t (size (test_shape l line ts 0 done) + far))) is

pub tests_step : (l : Where) (line h n start far : ℕ) (ts : Trees) (t : Tree) (ws : Whens) (first old new : Writing) → length first.steps ≡ far + (size (hits_shape l line (when ts t ws)) + n) → start ≡ size (hits_shape l line (when ts t ws)) + n → ((m : ℕ) → length first.steps ≡ m + (size (hits_shape l line ws) + n) → old ≡ grown h (tests_shape l line ws m done) first) → ((m : ℕ) → length old.steps ≡ m + start → new ≡ grown h (test_shape l line ts m done) old) → new ≡ grown h (tests_shape l line (when ts t ws) far done) first
tests_step l line h n start far ts t ws first old new place begins behind test =
    let m : ℕ = far + (size (shape l t) + 1) in
    let rest : length first.steps ≡ m + (size (hits_shape l line ws) + n) = omega arith in
    let is = behind m rest in
    let counts = ap (λ (w : Writing). length w.steps) is in
    let grows = grown_length h (tests_shape l line ws m done) first in
    let sizes = tests_size l line m 0 ws in
    let over : length old.steps ≡ (size (tests_shape l line ws 0 done) + far) + start = omega arith in
    test (size (tests_shape l line ws 0 done) + far) over
    ∙ ap (grown h (test_shape l line ts (size (tests_shape l line ws 0 done) + far) done)) is
    ∙ sym (test_seam l line h _ ts (tests_shape l line ws m done) first)

-- ---- bodies, and what stands behind the tests

pub hits_step : (l : Where) (line h end : ℕ) (ts : Trees) (t : Tree) (ws : Whens) (first old new : Writing) → end ≡ length first.steps → old ≡ grown h (hits_shape l line ws) first → new ≡ grown h (part 0 (shape l t) (ahead line Jump (length old.steps - end) done)) old → new ≡ grown h (hits_shape l line (when ts t ws)) first
hits_step l line h end ts t ws first old new here is told =
    told
    ∙ ap (λ (n : ℕ). grown h (part 0 (shape l t) (ahead line Jump n done)) old) (over h end (hits_shape l line ws) first old here is)
    ∙ ap (grown h (part 0 (shape l t) (ahead line Jump (size (hits_shape l line ws)) done))) is

pub behind_tests : (l : Where) (line h end : ℕ) (ws : Whens) (o : Shape) (w v₁ v₂ v₃ : Writing) → end ≡ length w.steps → v₁ ≡ grown h (hits_shape l line ws) w → v₂ ≡ wrote (on line Jump (length v₁.steps - end)) v₁ → v₃ ≡ grown (h + 0) o v₂ → v₃ ≡ grown h (part 0 o (ahead line Jump (size (hits_shape l line ws)) (hits_shape l line ws))) w
behind_tests l line h end ws o w v₁ v₂ v₃ here one two three =
    three
    ∙ ap (grown (h + 0) o) (two ∙ ap (λ (n : ℕ). wrote (on line Jump n) v₁) (over h end (hits_shape l line ws) w v₁ here one) ∙ ap (wrote (on line Jump (size (hits_shape l line ws)))) one)

pub tests_joined : (l : Where) (line h : ℕ) (o : Shape) (ws : Whens) (w v₁ v₂ : Writing) → v₁ ≡ grown h (part 0 o (ahead line Jump (size (hits_shape l line ws)) (hits_shape l line ws))) w → ((far : ℕ) → length v₁.steps ≡ far + (size (hits_shape l line ws) + length w.steps) → v₂ ≡ grown h (tests_shape l line ws far done) v₁) → v₂ ≡ grown h (tests_shape l line ws (size o + 1) (part 0 o (ahead line Jump (size (hits_shape l line ws)) (hits_shape l line ws)))) w
tests_joined l line h o ws w v₁ v₂ one two =
    let counts = ap (λ (v : Writing). length v.steps) one in
    let grows = grown_length h (part 0 o (ahead line Jump (size (hits_shape l line ws)) (hits_shape l line ws))) w in
    let far : length v₁.steps ≡ (size o + 1) + (size (hits_shape l line ws) + length w.steps) = omega arith in
    two (size o + 1) far ∙ ap (grown h (tests_shape l line ws (size o + 1) done)) one ∙ sym (tests_seam l line h (size o + 1) ws _ w)
