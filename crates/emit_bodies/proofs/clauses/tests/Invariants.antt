use Rattle.std.proofs.Common.{◌≡◌, ℕ, suc, ◌+◌, length, drop}
use Rattle.ruby_tree.specs.Views.{read_clauses}
use Rattle.code_meaning.specs.Code.{done, size}
use Rattle.compile_table.specs.Shapes.{bodies_shape, clauses_shape}
use Rattle.code_emitter.specs.Children.{classes_direct}
use Rattle.code_emitter.specs.Emitting.{where_of, texts_of, written, Writes, Finds}
use Rattle.emit_bodies.specs.Clauses.{clause_starts}
use Rattle.emit_bodies.proofs.clauses.tests.Given as goal

abbrev pub invariant-loop-i : goal.invariant-loop-i
invariant-loop-i g l = record {
  code : (n : ℕ) → l.starts ≡ clause_starts (where_of l.emitter) l.line n (read_clauses (texts_of l.emitter) l.clauses) → length (written l.initial.out).steps ≡ suc (size (bodies_shape (where_of l.emitter) (read_clauses (texts_of l.emitter) l.clauses) l.line) + n) → (far : ℕ) → far + size (bodies_shape (where_of l.emitter) (read_clauses (texts_of l.emitter) (drop l.i l.clauses)) l.line) ≡ size (bodies_shape (where_of l.emitter) (read_clauses (texts_of l.emitter) l.clauses) l.line) → Writes l.emitter.depth (clauses_shape (where_of l.emitter) (read_clauses (texts_of l.emitter) (drop l.i l.clauses)) l.line far done) l.initial.out l.out;
  children : Finds (texts_of l.emitter) (classes_direct l.emitter.in_loop (read_clauses (texts_of l.emitter) (drop l.i l.clauses))) l.initial.out l.out;
}
