use Rattle.std.proofs.Common.{◌≡◌, map, drop}
use Rattle.ruby_tree.specs.Read.{goal_of}
use Rattle.code_meaning.specs.Code.{done}
use Rattle.compile_table.specs.Shapes.{sets}
use Rattle.code_emitter.specs.Emitting.{where_of, texts_of, Writes}
use Rattle.emit_assignments.proofs.targets.set_targets.Given as goal

abbrev pub invariant-loop-i : goal.invariant-loop-i
invariant-loop-i l = record {
  code : Writes l.emitter.depth (sets (where_of l.emitter) l.line (map (goal_of (texts_of l.emitter)) (drop l.i l.targets)) done) l.initial.out l.out;
  children : l.out.children ≡ l.initial.out.children;
}
