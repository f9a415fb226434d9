-- Where the parts of a rescue sequence stand.
use Rattle.std.proofs.Common.{◌≡◌, ℕ, ◌+◌, refl, subst, arith, List, Option, Some, None}
use Rattle.ruby_tree.specs.Names.{Bytes}
use Rattle.ruby_tree.specs.Tree.{Tree, Trees, no_more, more, Rescues, no_clause, clause}
use Rattle.iseq_types.specs.declared.instructions.Instr.TheVariants.{Leave}
use Rattle.iseq_types.specs.declared.sequences.CatchRow.{CatchRow}
use Rattle.iseq_types.specs.declared.sequences.Line.{Line}
use Rattle.code_meaning.specs.Code.{Shape, done, op, part, size, finish, Placed}
use Rattle.code_meaning.proofs.Sizes.{finish_size}
use Rattle.compile_table.specs.Shapes.{Where, shape, named, clauses_shape, clause_shape, classes_shape}

pub classes_size : (ts : Trees) (l : Where) (line far : ℕ) (s : Shape) → size (classes_shape l ts line far s) ≡ size (classes_shape l ts line 0 done) + size s
classes_size no_more l line far s = omega arith
classes_size (more t ts) l line far s = let e = classes_size ts l line far s in omega arith

pub clause_size : (ts : Trees) (l : Where) (line far : ℕ) (s : Shape) → size (clause_shape l ts line far s) ≡ size (clause_shape l ts line 0 done) + size s
clause_size no_more l line far s = omega arith
clause_size (more t ts) l line far s = let e = classes_size ts l line far s in omega arith

pub clauses_size : (cs : Rescues) (l : Where) (line far : ℕ) → size (clauses_shape l cs line far done) ≡ size (clauses_shape l cs line 0 done)
clauses_size no_clause l line far = refl
clauses_size (clause ts x t cs) l line far =
    let n = size (named l line x (part 0 (shape l t) (op line Leave done))) in
    let e = clause_size ts l line (size (clauses_shape l cs line 0 done) + 1 + far) (clauses_shape l cs line (far + n) done) in
    let f = clause_size ts l line (size (clauses_shape l cs line 0 done) + 1 + 0) (clauses_shape l cs line (0 + n) done) in
    let g = clauses_size cs l line (far + n) in let k = clauses_size cs l line (0 + n) in
    omega arith

pub clauses_step : (ts : Trees) (x : Option Bytes) (t : Tree) (cs : Rescues) (l : Where) (line : ℕ) → size (clauses_shape l (clause ts x t cs) line 0 done) ≡ size (clause_shape l ts line 0 done) + size (clauses_shape l cs line 0 done)
clauses_step ts x t cs l line =
    let n = size (named l line x (part 0 (shape l t) (op line Leave done))) in
    let f = clause_size ts l line (size (clauses_shape l cs line 0 done) + 1 + 0) (clauses_shape l cs line (0 + n) done) in
    let k = clauses_size cs l line (0 + n) in
    omega arith

module _ (lines : List Line) (table out : List CatchRow) (h : ℕ) where
  moved : (p q : ℕ) (s : Shape) → p ≡ q → Placed lines table out h p s → Placed lines table out h q s
  moved p q s e pl = subst (λ x. Placed lines table out h x s) e pl

  classes_tail : (ts : Trees) (l : Where) (p line far : ℕ) (s : Shape) → Placed lines table out h p (classes_shape l ts line far s) → Placed lines table out h (p + size (classes_shape l ts line 0 done)) s
  classes_tail no_more l p line far s pl = moved p (p + 0) s (omega arith) pl
  classes_tail (more t ts) l p line far s pl =
      let q = finish (p + 1) (shape l t) in let f = finish_size (shape l t) (p + 1) in
      moved (q + 1 + 1 + size (classes_shape l ts line 0 done)) _ s (omega arith) (classes_tail ts l (q + 1 + 1) line far s pl.2.1.2.2)

  clause_tail : (ts : Trees) (l : Where) (p line far : ℕ) (s : Shape) → Placed lines table out h p (clause_shape l ts line far s) → Placed lines table out h (p + size (clause_shape l ts line 0 done)) s
  clause_tail no_more l p line far s pl = moved (p + 1 + 1 + 1 + 1) _ s (omega arith) pl.2.2.2.2
  clause_tail (more t ts) l p line far s pl =
      let q = finish (p + 1) (shape l t) in let f = finish_size (shape l t) (p + 1) in
      moved (q + 1 + 1 + size (classes_shape l ts line 0 done)) _ s (omega arith) (classes_tail ts l (q + 1 + 1) line far s pl.2.1.2.2)

  pub clauses_tail : (cs : Rescues) (l : Where) (p line far : ℕ) (s : Shape) → Placed lines table out h p (clauses_shape l cs line far s) → Placed lines table out h (p + size (clauses_shape l cs line 0 done)) s
  clauses_tail no_clause l p line far s pl = moved p (p + 0) s (omega arith) pl
  clauses_tail (clause ts x t cs) l p line far s pl =
      let n = size (named l line x (part 0 (shape l t) (op line Leave done))) in let e = clauses_step ts x t cs l line in
      moved (p + size (clause_shape l ts line 0 done) + size (clauses_shape l cs line 0 done)) _ s (omega arith)
      (clauses_tail cs l (p + size (clause_shape l ts line 0 done)) line (far + n) s
      (clause_tail ts l p line (size (clauses_shape l cs line 0 done) + 1 + far) (clauses_shape l cs line (far + n) s) pl))

  pub named_tail : (x : Option Bytes) (l : Where) (line p : ℕ) (a s : Shape) → Placed lines table out h p (named l line x (part 0 a (op line Leave s))) → Placed lines table out h (p + size (named l line x (part 0 a (op line Leave done)))) s
  named_tail None l line p a s pl = let e = finish_size a p in moved (finish p a + 1) _ s (omega arith) pl.1.2
  named_tail (Some x) l line p a s pl = let e = finish_size a (p + 1 + 1) in moved (finish (p + 1 + 1) a + 1) _ s (omega arith) pl.2.2.1.2
