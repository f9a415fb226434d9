use Rattle.std.proofs.Common.{drop}
use Rattle.ruby_tree.specs.Views.{read_parts}
use Rattle.code_meaning.specs.Code.{done}
use Rattle.compile_table.specs.Shapes.{pieces_shape}
use Rattle.code_emitter.specs.Children.{pieces_direct}
use Rattle.code_emitter.specs.Emitting.{where_of, texts_of, Writes, Finds}
use Rattle.emit_values.proofs.collections.pieces.Given as goal

abbrev pub invariant-loop-i : goal.invariant-loop-i
invariant-loop-i g l = record {
  code : Writes l.emitter.depth (pieces_shape (where_of l.emitter) l.line l.i (read_parts (texts_of l.emitter) (drop l.i l.parts)) done) l.initial.out l.out;
  children : Finds (texts_of l.emitter) (pieces_direct l.emitter.in_loop (read_parts (texts_of l.emitter) (drop l.i l.parts))) l.initial.out l.out;
}
