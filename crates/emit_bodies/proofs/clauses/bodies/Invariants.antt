use Rattle.std.proofs.Common.{◌≡◌, length, drop, reverse}
use Rattle.ruby_tree.specs.Views.{read_clauses}
use Rattle.compile_table.specs.Shapes.{bodies_shape}
use Rattle.code_emitter.specs.Children.{clauses_direct}
use Rattle.code_emitter.specs.Emitting.{where_of, texts_of, written, Writes, Finds}
use Rattle.emit_bodies.specs.Clauses.{clause_starts}
use Rattle.emit_bodies.proofs.clauses.bodies.Given as goal

abbrev pub invariant-loop-i : goal.invariant-loop-i
invariant-loop-i g l = record {
  code : Writes l.emitter.depth (bodies_shape (where_of l.emitter) (read_clauses (texts_of l.emitter) (drop l.i l.clauses)) l.line) l.initial.out l.out;
  children : Finds (texts_of l.emitter) (clauses_direct l.emitter.in_loop (read_clauses (texts_of l.emitter) (drop l.i l.clauses))) l.initial.out l.out;
  starts : l.starts.items ≡ reverse (clause_starts (where_of l.emitter) l.line (length (written l.initial.out).steps) (read_clauses (texts_of l.emitter) (drop l.i l.clauses)));
}
