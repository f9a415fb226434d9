use Rattle.std.proofs.Common.{◌≡◌, ℕ, ◌+◌, length, drop}
use Rattle.ruby_tree.specs.Views.{read_whens}
use Rattle.code_meaning.specs.Code.{done, size}
use Rattle.compile_table.specs.Shapes.{hits_shape, tests_shape}
use Rattle.code_emitter.specs.Children.{patterns_direct}
use Rattle.code_emitter.specs.Emitting.{where_of, texts_of, written, Writes, Finds}
use Rattle.emit_control.specs.Starts.{starts}
use Rattle.emit_control.proofs.tests_of_cases.tests.Given as goal

abbrev pub invariant-loop-i : goal.invariant-loop-i
invariant-loop-i g l = record {
  code : (n far : ℕ) → l.places ≡ starts (hits_shape (where_of l.emitter) l.line) n (read_whens (texts_of l.emitter) l.whens) → length (written l.initial.out).steps ≡ far + (size (hits_shape (where_of l.emitter) l.line (read_whens (texts_of l.emitter) (drop l.i l.whens))) + n) → Writes l.emitter.depth (tests_shape (where_of l.emitter) l.line (read_whens (texts_of l.emitter) (drop l.i l.whens)) far done) l.initial.out l.out;
  children : Finds (texts_of l.emitter) (patterns_direct l.emitter.in_loop (read_whens (texts_of l.emitter) (drop l.i l.whens))) l.initial.out l.out;
}
