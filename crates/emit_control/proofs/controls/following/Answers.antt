use Rattle.std.proofs.Common.{drop}
use Rattle.ruby_tree.specs.Views.{read_all}
use Rattle.compile_table.specs.Shapes.{rest_shape}
use Rattle.code_emitter.specs.Children.{trees_direct}
use Rattle.code_emitter.specs.Emitting.{where_of, texts_of, Writes, Finds}
use Rattle.code_emitter.proofs.Seams.{at_first}
use Rattle.emit_control.proofs.controls.following.Goals as goal

pub returns-clause-code : goal.returns-clause-code
returns-clause-code g c =
    at_first (λ i. Writes c.args.emitter.now.depth (rest_shape (where_of c.args.emitter.now) c.args.line (read_all (texts_of c.args.emitter.now) (drop i c.args.trees.now))) c.args.out.now c.loop-i.out) c.loop-i.i c.loop-i-test.false c.loop-i.invariant.code

pub returns-clause-children : goal.returns-clause-children
returns-clause-children g c =
    at_first (λ i. Finds (texts_of c.args.emitter.now) (trees_direct c.args.emitter.now.in_loop (read_all (texts_of c.args.emitter.now) (drop i c.args.trees.now))) c.args.out.now c.loop-i.out) c.loop-i.i c.loop-i-test.false c.loop-i.invariant.children
