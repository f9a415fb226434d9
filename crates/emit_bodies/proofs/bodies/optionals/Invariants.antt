use Rattle.std.proofs.Common.{◌≡◌, length, drop, reverse}
use Rattle.ruby_tree.specs.Views.{read_params}
use Rattle.code_meaning.specs.Code.{done}
use Rattle.compile_table.specs.Shapes.{params_shape}
use Rattle.code_emitter.specs.Children.{params_direct}
use Rattle.code_emitter.specs.Emitting.{where_of, texts_of, written, Writes, Finds}
use Rattle.emit_bodies.specs.Entries.{starts}
use Rattle.emit_bodies.proofs.bodies.optionals.Given as goal

abbrev pub invariant-loop-i : goal.invariant-loop-i
invariant-loop-i g l = record {
  code : Writes l.emitter.depth (params_shape (where_of l.emitter) (read_params (texts_of l.emitter) (drop l.i l.params)) done) l.initial.out l.out;
  children : Finds (texts_of l.emitter) (params_direct l.emitter.in_loop (read_params (texts_of l.emitter) (drop l.i l.params))) l.initial.out l.out;
  starts : l.starts.items ≡ reverse (starts (where_of l.emitter) (length (written l.initial.out).steps) (read_params (texts_of l.emitter) (drop l.i l.params)));
}
