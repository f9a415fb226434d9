-- The tests and the bodies of clauses.
use Rattle.std.proofs.Common.{◌≡◌, ℕ, zero, suc, ◌+◌, ◌-◌, ◌<◌, ◌==◌, false, List, [], ◌∷◌, ◌++◌, length, reverse, drop, get_or, Option, Some, None, Vec, refl, ap, sym, ◌∙◌, arith}
use Rattle.std.proofs.lemmas.Grind.{reverse_onto}
use Rattle.std.specs.declared.alloc.Global.{Global}
use Rattle.ruby_tree.specs.declared.names.Name.{Name}
use Rattle.ruby_tree.specs.declared.node.Node.{Node}
use Rattle.ruby_tree.specs.Names.{Bytes, Texts}
use Rattle.ruby_tree.specs.Views.{read_all, read_clauses}
use Rattle.ruby_tree.specs.Tree.{Tree, Trees, no_more, more, Rescues, no_clause, clause}
use Rattle.iseq_types.specs.declared.instructions.Instr.{Instr}
use Rattle.iseq_types.specs.declared.instructions.Instr.TheVariants.{Dup, CheckMatch, BranchIf, Leave}
use Rattle.code_meaning.specs.Code.{Shape, done, op, ahead, part, size}
use Rattle.compile_table.specs.Shapes.{Where, shape, clauses_shape, clause_shape, classes_shape, bodies_shape, named}
use Rattle.code_writer.specs.Writing.{Writing, grown}
use Rattle.code_writer.proofs.Growing.{grown_length}
use Rattle.emit_bodies.specs.Clauses.{clause_starts}

-- ---- seams

pub named_seam : (l : Where) (line h : ℕ) (x : Option Bytes) (s : Shape) (w : Writing) → grown h (named l line x s) w ≡ grown h (named l line x done) (grown h s w)
named_seam l line h None s w = refl
named_seam l line h (Some x) s w = refl

pub bodies_before : (l : Where) (line h : ℕ) (ts : Trees) (x : Option Bytes) (t : Tree) (cs : Rescues) (w : Writing) → grown h (bodies_shape l (clause ts x t cs) line) w ≡ grown h (named l line x (part 0 (shape l t) (op line Leave done))) (grown h (bodies_shape l cs line) w)
bodies_before l line h ts None t cs w = refl
bodies_before l line h ts (Some x) t cs w = refl

classes_seam : (l : Where) (line h far : ℕ) (ts : Trees) (s : Shape) (w : Writing) → grown h (classes_shape l ts line far s) w ≡ grown h (classes_shape l ts line far done) (grown h s w)
classes_seam l line h far no_more s w = refl
classes_seam l line h far (more t ts) s w = ap (λ v. grown h (op line Dup (part 1 (shape l t) (op line CheckMatch (ahead line BranchIf (size (classes_shape l ts line 0 done) + far) done)))) v) (classes_seam l line h far ts s w)

clause_seam : (l : Where) (line h far : ℕ) (ts : Trees) (s : Shape) (w : Writing) → grown h (clause_shape l ts line far s) w ≡ grown h (clause_shape l ts line far done) (grown h s w)
clause_seam l line h far no_more s w = refl
clause_seam l line h far (more t ts) s w = classes_seam l line h far (more t ts) s w

pub clauses_seam : (l : Where) (line h far : ℕ) (cs : Rescues) (s : Shape) (w : Writing) → grown h (clauses_shape l cs line far s) w ≡ grown h (clauses_shape l cs line far done) (grown h s w)
clauses_seam l line h far no_clause s w = refl
clauses_seam l line h far (clause ts x t cs) s w =
    clause_seam l line h _ ts _ w
    ∙ ap (grown h (clause_shape l ts line (size (clauses_shape l cs line 0 done) + 1 + far) done)) (clauses_seam l line h (far + size (named l line x (part 0 (shape l t) (op line Leave done)))) cs s w)
    ∙ sym (clause_seam l line h _ ts _ (grown h s w))

-- ---- sizes

-- the tests of classes are as long wherever they jump to
classes_size : (l : Where) (line m n : ℕ) (ts : Trees) (r s : Shape) → size r ≡ size s → size (classes_shape l ts line m r) ≡ size (classes_shape l ts line n s)
classes_size l line m n no_more r s e = e
classes_size l line m n (more t ts) r s e = let f = classes_size l line m n ts r s e in omega arith

clause_size : (l : Where) (line m n : ℕ) (ts : Trees) (r s : Shape) → size r ≡ size s → size (clause_shape l ts line m r) ≡ size (clause_shape l ts line n s)
clause_size l line m n no_more r s e = omega arith
clause_size l line m n (more t ts) r s e = classes_size l line m n (more t ts) r s e

clauses_size : (l : Where) (line : ℕ) (m n : ℕ) (cs : Rescues) → size (clauses_shape l cs line m done) ≡ size (clauses_shape l cs line n done)
clauses_size l line m n no_clause = refl
clauses_size l line m n (clause ts x t cs) =
    let k = size (named l line x (part 0 (shape l t) (op line Leave done))) in
    clause_size l line (size (clauses_shape l cs line 0 done) + 1 + m) (size (clauses_shape l cs line 0 done) + 1 + n) ts (clauses_shape l cs line (m + k) done) (clauses_shape l cs line (n + k) done) (clauses_size l line (m + k) (n + k) cs)

pub bodies_size : (l : Where) (line : ℕ) (ts : Trees) (x : Option Bytes) (t : Tree) (cs : Rescues) → size (bodies_shape l (clause ts x t cs) line) ≡ size (named l line x (part 0 (shape l t) (op line Leave done))) + size (bodies_shape l cs line)
bodies_size l line ts None t cs = omega arith
bodies_size l line ts (Some x) t cs = omega arith

-- ---- a test before those behind it

pub class_step : (l : Where) (line h start far : ℕ) (t : Tree) (ts : Trees) (first old new : Writing) → length first.steps ≡ far + start → old ≡ grown h (classes_shape l ts line far done) first → new ≡ grown h (op line Dup (part 1 (shape l t) (op line CheckMatch (ahead line BranchIf (length old.steps - start) done)))) old → new ≡ grown h (classes_shape l (more t ts) line far done) first
class_step l line h start far t ts first old new place is told =
    let counts = ap (λ (w : Writing). length w.steps) is in
    let grows = grown_length h (classes_shape l ts line far done) first in
    let sizes = classes_size l line far 0 ts done done refl in
    let over : length old.steps - start ≡ size (classes_shape l ts line 0 done) + far = omega arith in
    told
    ∙ ap (λ n. grown h (op line Dup (part 1 (shape l t) (op line CheckMatch (ahead line BranchIf n done)))) old) over
    ∙ ap (grown h (op line Dup (part 1 (shape l t) (op line CheckMatch (ahead line BranchIf (size (classes_shape l ts line 0 done) + far) done))))) is

pub clause_step : (l : Where) (line h n total start far : ℕ) (ts : Trees) (x : Option Bytes) (t : Tree) (cs : Rescues) (first old new : Writing) → length first.steps ≡ suc (total + n) → start ≡ size (bodies_shape l (clause ts x t cs) line) + n → ((m : ℕ) → m + size (bodies_shape l cs line) ≡ total → old ≡ grown h (clauses_shape l cs line m done) first) → ((m : ℕ) → length old.steps ≡ m + start → new ≡ grown h (clause_shape l ts line m done) old) → far + size (bodies_shape l (clause ts x t cs) line) ≡ total → new ≡ grown h (clauses_shape l (clause ts x t cs) line far done) first
clause_step l line h n total start far ts x t cs first old new place begins behind test here =
    let m : ℕ = far + size (named l line x (part 0 (shape l t) (op line Leave done))) in
    let bodies = bodies_size l line ts x t cs in
    let rest : m + size (bodies_shape l cs line) ≡ total = omega arith in
    let is = behind m rest in
    let counts = ap (λ (w : Writing). length w.steps) is in
    let grows = grown_length h (clauses_shape l cs line m done) first in
    let sizes = clauses_size l line m 0 cs in
    let over : length old.steps ≡ (size (clauses_shape l cs line 0 done) + 1 + far) + start = omega arith in
    test (size (clauses_shape l cs line 0 done) + 1 + far) over
    ∙ ap (grown h (clause_shape l ts line (size (clauses_shape l cs line 0 done) + 1 + far) done)) is
    ∙ sym (clause_seam l line h (size (clauses_shape l cs line 0 done) + 1 + far) ts (clauses_shape l cs line m done) first)

-- a clause with classes tests these
pub clause_is : (l : Where) (line far : ℕ) (texts : Texts) (ns : List Node) → false ≡ (length ns == 0) → clause_shape l (read_all texts ns) line far done ≡ classes_shape l (read_all texts ns) line far done
clause_is l line far texts [] none = absurd (cc)
clause_is l line far texts (n ∷ ns) some = refl

-- ---- where the bodies begin

pub clause_place : (l : Where) (line h : ℕ) (ts : Trees) (x : Option Bytes) (t : Tree) (cs : Rescues) (places : List ℕ) (place : ℕ) (old new : Writing) → places ≡ reverse (clause_starts l line (length old.steps) cs) → new ≡ grown h (bodies_shape l (clause ts x t cs) line) old → place ≡ length new.steps → places ++ place ∷ [] ≡ reverse (clause_starts l line (length old.steps) (clause ts x t cs))
clause_place l line h ts x t cs places place old new are is here =
    let there : place ≡ size (bodies_shape l (clause ts x t cs) line) + length old.steps = here ∙ ap (λ (w : Writing). length w.steps) is ∙ grown_length h (bodies_shape l (clause ts x t cs) line) old in
    ap (λ ns. ns ++ place ∷ []) are
    ∙ ap (λ m. reverse (clause_starts l line (length old.steps) cs) ++ m ∷ []) there
    ∙ sym (reverse_onto (clause_starts l line (length old.steps) cs) (size (bodies_shape l (clause ts x t cs) line) + length old.steps) [])

pub starts_length : (l : Where) (line n : ℕ) (texts : Texts) (cs : List (Vec Node Global × Option Name × Node)) → length (clause_starts l line n (read_clauses texts cs)) ≡ length cs
starts_length l line n texts [] = refl
starts_length l line n texts (c ∷ cs) = ap suc (starts_length l line n texts cs)

pub start_at : (l : Where) (line n : ℕ) (texts : Texts) (cs : List (Vec Node Global × Option Name × Node)) (i : ℕ) → i < length cs → get_or (clause_starts l line n (read_clauses texts cs)) i 0 ≡ size (bodies_shape l (read_clauses texts (drop i cs)) line) + n
start_at l line n texts [] i within = absurd (omega (arith, within))
start_at l line n texts (c ∷ cs) zero within = refl
start_at l line n texts (c ∷ cs) (suc i) within = start_at l line n texts cs i (omega (arith, within))

-- what follows the bodies
pub throw_place : (l : Where) (line h : ℕ) (cs : Rescues) (i : Instr) (old new : Writing) → new ≡ grown h (op line i (bodies_shape l cs line)) old → length new.steps ≡ suc (size (bodies_shape l cs line) + length old.steps)
throw_place l line h cs i old new is =
    let counts = ap (λ (w : Writing). length w.steps) is in
    let grows = grown_length h (op line i (bodies_shape l cs line)) old in
    omega arith
