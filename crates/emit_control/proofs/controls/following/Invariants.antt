use Rattle.std.proofs.Common.{drop}
use Rattle.ruby_tree.specs.Views.{read_all}
use Rattle.compile_table.specs.Shapes.{rest_shape}
use Rattle.code_emitter.specs.Children.{trees_direct}
use Rattle.code_emitter.specs.Emitting.{where_of, texts_of, Writes, Finds}
use Rattle.emit_control.proofs.controls.following.Given as goal

abbrev pub invariant-loop-i : goal.invariant-loop-i
invariant-loop-i g l = record {
  code : Writes l.emitter.depth (rest_shape (where_of l.emitter) l.line (read_all (texts_of l.emitter) (drop l.i l.trees))) l.initial.out l.out;
  children : Finds (texts_of l.emitter) (trees_direct l.emitter.in_loop (read_all (texts_of l.emitter) (drop l.i l.trees))) l.initial.out l.out;
}
