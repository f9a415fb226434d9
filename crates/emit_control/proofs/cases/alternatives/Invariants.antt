use Rattle.std.proofs.Common.{◌≡◌, ℕ, ◌+◌, length, drop}
use Rattle.ruby_tree.specs.Views.{read_all}
use Rattle.code_meaning.specs.Code.{done}
use Rattle.compile_table.specs.Shapes.{pattern_shape}
use Rattle.code_emitter.specs.Children.{trees_direct}
use Rattle.code_emitter.specs.Emitting.{where_of, texts_of, written, Writes, Finds}
use Rattle.emit_control.proofs.cases.alternatives.Given as goal

abbrev pub invariant-loop-i : goal.invariant-loop-i
invariant-loop-i g l = record {
  code : (far : ℕ) → length (written l.initial.out).steps ≡ far + l.start → Writes l.emitter.depth (pattern_shape (where_of l.emitter) l.line (read_all (texts_of l.emitter) (drop l.i l.trees)) far done) l.initial.out l.out;
  children : Finds (texts_of l.emitter) (trees_direct l.emitter.in_loop (read_all (texts_of l.emitter) (drop l.i l.trees))) l.initial.out l.out;
}
