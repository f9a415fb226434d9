use Rattle.std.proofs.Common.{◌+◌, drop}
use Rattle.ruby_tree.specs.Views.{read_pairs}
use Rattle.code_meaning.specs.Code.{done}
use Rattle.compile_table.specs.Shapes.{pairs_shape}
use Rattle.code_emitter.specs.Children.{pairs_direct}
use Rattle.code_emitter.specs.Emitting.{where_of, texts_of, Writes, Finds}
use Rattle.emit_values.proofs.collections.entries.Given as goal

abbrev pub invariant-loop-i : goal.invariant-loop-i
invariant-loop-i g l = record {
  code : Writes l.emitter.depth (pairs_shape (where_of l.emitter) (l.i + l.i) (read_pairs (texts_of l.emitter) (drop l.i l.pairs)) done) l.initial.out l.out;
  children : Finds (texts_of l.emitter) (pairs_direct l.emitter.in_loop (read_pairs (texts_of l.emitter) (drop l.i l.pairs))) l.initial.out l.out;
}
