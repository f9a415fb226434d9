use Rattle.std.proofs.Common.{◌≡◌, length, drop, reverse}
use Rattle.ruby_tree.specs.Views.{read_whens}
use Rattle.compile_table.specs.Shapes.{hits_shape}
use Rattle.code_emitter.specs.Children.{whens_direct}
use Rattle.code_emitter.specs.Emitting.{where_of, texts_of, written, Writes, Finds}
use Rattle.emit_control.specs.Starts.{starts}
use Rattle.emit_control.proofs.tests_of_cases.bodies.Given as goal

abbrev pub invariant-loop-i : goal.invariant-loop-i
invariant-loop-i g l = record {
  code : Writes l.emitter.depth (hits_shape (where_of l.emitter) l.line (read_whens (texts_of l.emitter) (drop l.i l.whens))) l.initial.out l.out;
  children : Finds (texts_of l.emitter) (whens_direct l.emitter.in_loop (read_whens (texts_of l.emitter) (drop l.i l.whens))) l.initial.out l.out;
  places : l.starts.items ≡ reverse (starts (hits_shape (where_of l.emitter) l.line) (length (written l.initial.out).steps) (read_whens (texts_of l.emitter) (drop l.i l.whens)));
}
