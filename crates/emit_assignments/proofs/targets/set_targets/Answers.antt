use Rattle.std.proofs.Common.{map, drop}
use Rattle.ruby_tree.specs.Read.{goal_of}
use Rattle.code_meaning.specs.Code.{done}
use Rattle.compile_table.specs.Shapes.{sets}
use Rattle.code_emitter.specs.Emitting.{where_of, texts_of, Writes}
use Rattle.code_emitter.proofs.Seams.{at_first}
use Rattle.emit_assignments.proofs.targets.set_targets.Goals as goal

pub returns-clause-code : goal.returns-clause-code
returns-clause-code c =
    at_first (λ i. Writes c.args.emitter.now.depth (sets (where_of c.args.emitter.now) c.args.line (map (goal_of (texts_of c.args.emitter.now)) (drop i c.args.targets.now)) done) c.args.out.now c.loop-i.out) c.loop-i.i c.loop-i-test.false c.loop-i.invariant.code
