use Rattle.ruby_tree.specs.Read.{tree_of}
use Rattle.compile_table.specs.Shapes.{shape, looped}
use Rattle.code_emitter.specs.Emitting.{where_of, texts_of, written}
use Rattle.emit_control.proofs.Turns.{begun, turned}
use Rattle.emit_control.proofs.loops.turns.Goals as goal

pub returns-clause-code : goal.returns-clause-code
returns-clause-code g c =
    turned c.args.line c.args.emitter.now.depth c.len-end.result c.in_ok-again.again c.args.until
    (shape (looped (where_of c.args.emitter.now)) (tree_of (texts_of c.args.emitter.now) c.args.body.now))
    (shape (where_of c.args.emitter.now) (tree_of (texts_of c.args.emitter.now) c.args.condition.now))
    (written c.args.out.now) _ _ _ _
    c.len-end.ensures c.in_ok-again.ensures.number c.in_ok-again.ensures.code c.in_ok-write.ensures c.in_ok-turn.ensures.code c.lead_back.ensures

pub returns-clause-start : goal.returns-clause-start
returns-clause-start g c =
    begun c.args.line c.args.emitter.now.depth c.len-start.result c.args.until (shape (where_of c.args.emitter.now) (tree_of (texts_of c.args.emitter.now) c.args.condition.now)) (written c.args.out.now) _ c.in_ok-again.ensures.code c.len-start.ensures
