use Rattle.std.proofs.Common.{◌≡◌, ◌<◌, ◌-◌, suc, length, drop, arith}
use Rattle.ruby_tree.specs.Views.{read_parts}
use Rattle.code_meaning.specs.Code.{done}
use Rattle.compile_table.specs.Shapes.{pieces_shape}
use Rattle.code_emitter.specs.Children.{pieces_direct}
use Rattle.code_emitter.specs.Emitting.{where_of, texts_of, Writes, Finds}
use Rattle.code_emitter.proofs.Seams.{at_first}
use Rattle.emit_values.proofs.Seams.{pieces_step, found_step}
use Rattle.emit_values.proofs.collections.pieces.Goals as goal

pub returns-clause-code : goal.returns-clause-code
returns-clause-code g c =
    at_first (λ i. Writes c.args.emitter.now.depth (pieces_shape (where_of c.args.emitter.now) c.args.line i (read_parts (texts_of c.args.emitter.now) (drop i c.args.parts.now)) done) c.args.out.now c.loop-i.out) c.loop-i.i c.loop-i-test.false c.loop-i.invariant.code

pub returns-clause-children : goal.returns-clause-children
returns-clause-children g c =
    at_first (λ i. Finds (texts_of c.args.emitter.now) (pieces_direct c.args.emitter.now.in_loop (read_parts (texts_of c.args.emitter.now) (drop i c.args.parts.now))) c.args.out.now c.loop-i.out) c.loop-i.i c.loop-i-test.false c.loop-i.invariant.children

pub loop-i-preserved : goal.loop-i-preserved
loop-i-preserved g c = record {
  code = pieces_step (where_of c.args.emitter.now) c.args.line c.args.emitter.now.depth (texts_of c.args.emitter.now) c.args.parts.now c.loop-i.i (c.loop-i.i - 1) c.index-parts-i.result _ _ _ next less c.index-parts-i.is c.loop-i.invariant.code (c.in_ok-piece.ensures.code);
  children = found_step (texts_of c.args.emitter.now) c.args.emitter.now.in_loop c.args.parts.now c.loop-i.i (c.loop-i.i - 1) c.index-parts-i.result _ _ _ next less c.index-parts-i.is c.loop-i.invariant.children (c.in_ok-piece.ensures.children);
}
  where
    next : c.loop-i.i ≡ suc (c.loop-i.i - 1)
    next = omega (arith, c.loop-i-test.true)

    less : c.loop-i.i - 1 < length c.args.parts.now
    less = omega (arith, c.loop-i-test.true, c.loop-i.auto.i)
