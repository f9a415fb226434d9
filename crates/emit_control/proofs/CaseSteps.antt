-- The tests and the bodies of a case with a value.
use Rattle.std.proofs.Common.{◌≡◌, ℕ, ◌+◌, ◌-◌, length, codes, refl, ap, sym, ◌∙◌, arith}
use Rattle.ruby_tree.specs.Tree.{Tree, Trees, no_more, more, Whens, no_when, when}
use Rattle.iseq_types.specs.declared.instructions.Instr.TheVariants.{Pop, TopN, BranchIf, Jump}
use Rattle.code_meaning.specs.Code.{Shape, done, op, ahead, part, size, at_line}
use Rattle.compile_table.specs.Shapes.{Where, shape, patterns_shape, pattern_shape, cases_shape, plain_send, self_flag}
use Rattle.code_writer.specs.Writing.{Writing, plain, on, wrote, grown}
use Rattle.code_writer.proofs.Growing.{grown_length}
use Rattle.emit_control.proofs.Jumps.{over}

-- the test of one pattern
abbrev pattern : Where → ℕ → Tree → ℕ → Shape
pattern l line t n = part 1 (shape l t) (op line (TopN 1) (op l.first (plain_send (codes "===") 1 (self_flag t)) (ahead line BranchIf n done)))

-- ---- seams

pattern_seam : (l : Where) (line h far : ℕ) (ts : Trees) (s : Shape) (w : Writing) → grown h (pattern_shape l line ts far s) w ≡ grown h (pattern_shape l line ts far done) (grown h s w)
pattern_seam l line h far no_more s w = refl
pattern_seam l line h far (more t ts) s w = ap (grown h (pattern l line t (size (pattern_shape l line ts 0 done) + far))) (pattern_seam l line h far ts s w)

patterns_seam : (l : Where) (line h far : ℕ) (ws : Whens) (s : Shape) (w : Writing) → grown h (patterns_shape l line ws far s) w ≡ grown h (patterns_shape l line ws far done) (grown h s w)
patterns_seam l line h far no_when s w = refl
patterns_seam l line h far (when ts t ws) s w =
    pattern_seam l line h _ ts _ w
    ∙ ap (grown h (pattern_shape l line ts (size (patterns_shape l line ws 0 done) + far) done)) (patterns_seam l line h (far + (size (shape l t) + 2)) ws s w)
    ∙ sym (pattern_seam l line h _ ts _ (grown h s w))

-- ---- sizes

-- tests are as long wherever they jump to
pattern_size : (l : Where) (line m n : ℕ) (ts : Trees) (r s : Shape) → size r ≡ size s → size (pattern_shape l line ts m r) ≡ size (pattern_shape l line ts n s)
pattern_size l line m n no_more r s e = e
pattern_size l line m n (more t ts) r s e = let f = pattern_size l line m n ts r s e in omega arith

patterns_size : (l : Where) (line m n : ℕ) (ws : Whens) → size (patterns_shape l line ws m done) ≡ size (patterns_shape l line ws n done)
patterns_size l line m n no_when = refl
patterns_size l line m n (when ts t ws) = pattern_size l line _ _ ts _ _ (patterns_size l line (m + (size (shape l t) + 2)) (n + (size (shape l t) + 2)) ws)

-- ---- a test before those behind it

pub pattern_step : (l : Where) (line h start far : ℕ) (t : Tree) (ts : Trees) (first old new : Writing) → length first.steps ≡ far + start → old ≡ grown h (pattern_shape l line ts far done) first → new ≡ grown h (pattern l line t (length old.steps - start)) old → new ≡ grown h (pattern_shape l line (more t ts) far done) first
pattern_step l line h start far t ts first old new place is told =
    let counts = ap (λ (w : Writing). length w.steps) is in
    let grows = grown_length h (pattern_shape l line ts far done) first in
    let sizes = pattern_size l line far 0 ts done done refl in
    let over : length old.steps - start ≡ size (pattern_shape l line ts 0 done) + far = omega arith in
    told
    ∙ ap (λ (n : ℕ). grown h (pattern l line t n) old) over
    ∙ ap (grown h (pattern l line t (size (pattern_shape l line ts 0 done) + far))) is

pub patterns_step : (l : Where) (line h n start far : ℕ) (ts : Trees) (t : Tree) (ws : Whens) (first old new : Writing) → length first.steps ≡ far + (size (cases_shape l line (when ts t ws)) + n) → start ≡ size (cases_shape l line (when ts t ws)) + n → ((m : ℕ) → length first.steps ≡ m + (size (cases_shape l line ws) + n) → old ≡ grown h (patterns_shape l line ws m done) first) → ((m : ℕ) → length old.steps ≡ m + start → new ≡ grown h (pattern_shape l line ts m done) old) → new ≡ grown h (patterns_shape l line (when ts t ws) far done) first
patterns_step l line h n start far ts t ws first old new place begins behind test =
    let m : ℕ = far + (size (shape l t) + 2) in
    let rest : length first.steps ≡ m + (size (cases_shape l line ws) + n) = omega arith in
    let is = behind m rest in
    let counts = ap (λ (w : Writing). length w.steps) is in
    let grows = grown_length h (patterns_shape l line ws m done) first in
    let sizes = patterns_size l line m 0 ws in
    let over : length old.steps ≡ (size (patterns_shape l line ws 0 done) + far) + start = omega arith in
    test (size (patterns_shape l line ws 0 done) + far) over
    ∙ ap (grown h (pattern_shape l line ts (size (patterns_shape l line ws 0 done) + far) done)) is
    ∙ sym (pattern_seam l line h _ ts (patterns_shape l line ws m done) first)

-- ---- bodies, and what stands behind the tests

pub cases_step : (l : Where) (line h end : ℕ) (ts : Trees) (t : Tree) (ws : Whens) (first old new : Writing) → end ≡ length first.steps → old ≡ grown h (cases_shape l line ws) first → new ≡ grown h (op line Pop (part 0 (shape l t) (ahead line Jump (length old.steps - end) done))) old → new ≡ grown h (cases_shape l line (when ts t ws)) first
cases_step l line h end ts t ws first old new here is told =
    told
    ∙ ap (λ (n : ℕ). grown h (op line Pop (part 0 (shape l t) (ahead line Jump n done))) old) (over h end (cases_shape l line ws) first old here is)
    ∙ ap (grown h (op line Pop (part 0 (shape l t) (ahead line Jump (size (cases_shape l line ws)) done)))) is

pub behind_patterns : (l : Where) (line h end : ℕ) (ws : Whens) (o : Shape) (w v₁ v₂ v₃ v₄ : Writing) → end ≡ length w.steps → v₁ ≡ grown h (cases_shape l line ws) w → v₂ ≡ wrote (on line Jump (length v₁.steps - end)) v₁ → v₃ ≡ grown (h + 0) o v₂ → v₄ ≡ wrote (plain (at_line line Pop)) v₃ → v₄ ≡ grown h (op line Pop (part 0 o (ahead line Jump (size (cases_shape l line ws)) (cases_shape l line ws)))) w
behind_patterns l line h end ws o w v₁ v₂ v₃ v₄ here one two three four =
    four
    ∙ ap (wrote (plain (at_line line Pop))) (three ∙ ap (grown (h + 0) o) (two ∙ ap (λ (n : ℕ). wrote (on line Jump n) v₁) (over h end (cases_shape l line ws) w v₁ here one) ∙ ap (wrote (on line Jump (size (cases_shape l line ws)))) one))

pub case_joined : (l : Where) (line h : ℕ) (value o : Shape) (ws : Whens) (w v₁ v₂ v₃ : Writing) → v₁ ≡ grown h (op line Pop (part 0 o (ahead line Jump (size (cases_shape l line ws)) (cases_shape l line ws)))) w → ((far : ℕ) → length v₁.steps ≡ far + (size (cases_shape l line ws) + length w.steps) → v₂ ≡ grown h (patterns_shape l line ws far done) v₁) → v₃ ≡ grown (h + 0) value v₂ → v₃ ≡ grown h (part 0 value (patterns_shape l line ws (size o + 2) (op line Pop (part 0 o (ahead line Jump (size (cases_shape l line ws)) (cases_shape l line ws)))))) w
case_joined l line h value o ws w v₁ v₂ v₃ one two three =
    let counts = ap (λ (v : Writing). length v.steps) one in
    let grows = grown_length h (op line Pop (part 0 o (ahead line Jump (size (cases_shape l line ws)) (cases_shape l line ws)))) w in
    let far : length v₁.steps ≡ (size o + 2) + (size (cases_shape l line ws) + length w.steps) = omega arith in
    three
    ∙ ap (grown (h + 0) value) (two (size o + 2) far ∙ ap (grown h (patterns_shape l line ws (size o + 2) done)) one ∙ sym (patterns_seam l line h (size o + 2) ws _ w))
