use Rattle.std.proofs.Common.{◌+◌, drop}
use Rattle.ruby_tree.specs.Views.{read_all}
use Rattle.code_meaning.specs.Code.{done}
use Rattle.compile_table.specs.Shapes.{args_shape}
use Rattle.code_emitter.specs.Children.{trees_direct}
use Rattle.code_emitter.specs.Emitting.{where_of, texts_of, Writes, Finds}
use Rattle.code_emitter.proofs.parts.args.Given as goal

abbrev pub invariant-loop-i : goal.invariant-loop-i
invariant-loop-i g l = record {
  code : Writes l.emitter.depth (args_shape (where_of l.emitter) (l.deeper + l.i) (read_all (texts_of l.emitter) (drop l.i l.trees)) done) l.initial.out l.out;
  children : Finds (texts_of l.emitter) (trees_direct l.emitter.in_loop (read_all (texts_of l.emitter) (drop l.i l.trees))) l.initial.out l.out;
}
