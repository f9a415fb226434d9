use Rattle.std.proofs.Common.{◌+◌, drop}
use Rattle.ruby_tree.specs.Views.{read_all}
use Rattle.code_meaning.specs.Code.{done}
use Rattle.compile_table.specs.Shapes.{args_shape}
use Rattle.code_emitter.specs.Children.{trees_direct}
use Rattle.code_emitter.specs.Emitting.{where_of, texts_of, Writes, Finds}
use Rattle.code_emitter.proofs.Seams.{at_first, no_deeper}
use Rattle.code_emitter.proofs.parts.args.Goals as goal

pub returns-clause-code : goal.returns-clause-code
returns-clause-code g c =
    no_deeper (λ d. Writes c.args.emitter.now.depth (args_shape (where_of c.args.emitter.now) d (read_all (texts_of c.args.emitter.now) c.args.trees.now) done) c.args.out.now c.loop-i.out) c.args.deeper
    (at_first (λ i. Writes c.args.emitter.now.depth (args_shape (where_of c.args.emitter.now) (c.args.deeper + i) (read_all (texts_of c.args.emitter.now) (drop i c.args.trees.now)) done) c.args.out.now c.loop-i.out) c.loop-i.i c.loop-i-test.false c.loop-i.invariant.code)

pub returns-clause-children : goal.returns-clause-children
returns-clause-children g c =
    at_first (λ i. Finds (texts_of c.args.emitter.now) (trees_direct c.args.emitter.now.in_loop (read_all (texts_of c.args.emitter.now) (drop i c.args.trees.now))) c.args.out.now c.loop-i.out) c.loop-i.i c.loop-i-test.false c.loop-i.invariant.children
