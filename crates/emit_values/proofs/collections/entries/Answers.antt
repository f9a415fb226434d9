use Rattle.std.proofs.Common.{◌+◌, drop}
use Rattle.ruby_tree.specs.Views.{read_pairs}
use Rattle.code_meaning.specs.Code.{done}
use Rattle.compile_table.specs.Shapes.{pairs_shape}
use Rattle.code_emitter.specs.Children.{pairs_direct}
use Rattle.code_emitter.specs.Emitting.{where_of, texts_of, Writes, Finds}
use Rattle.code_emitter.proofs.Seams.{at_first}
use Rattle.emit_values.proofs.collections.entries.Goals as goal

pub returns-clause-code : goal.returns-clause-code
returns-clause-code g c =
    at_first (λ i. Writes c.args.emitter.now.depth (pairs_shape (where_of c.args.emitter.now) (i + i) (read_pairs (texts_of c.args.emitter.now) (drop i c.args.pairs.now)) done) c.args.out.now c.loop-i.out) c.loop-i.i c.loop-i-test.false c.loop-i.invariant.code

pub returns-clause-children : goal.returns-clause-children
returns-clause-children g c =
    at_first (λ i. Finds (texts_of c.args.emitter.now) (pairs_direct c.args.emitter.now.in_loop (read_pairs (texts_of c.args.emitter.now) (drop i c.args.pairs.now))) c.args.out.now c.loop-i.out) c.loop-i.i c.loop-i-test.false c.loop-i.invariant.children
