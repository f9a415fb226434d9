use Rattle.ruby_tree.specs.Read.{tree_of}
use Rattle.ruby_tree.specs.SourcePositions.{position_of}
use Rattle.code_emitter.specs.Emitting.{where_of, texts_of, written}
use Rattle.emit_control.proofs.Turns.{body_first, test_first}
use Rattle.emit_control.proofs.loops.while_loop.Goals as goal

pub returns-clause-code : goal.returns-clause-code
returns-clause-code g c =
    test_first (where_of c.args.emitter.now) (position_of c.args.at) c.own-line.result c.args.emitter.now.depth c.in_ok-start.start c.args.until c.args.body_first
    (tree_of (texts_of c.args.emitter.now) c.args.body.now) (tree_of (texts_of c.args.emitter.now) c.args.condition.now) (written c.args.out.now) _ _
    c.own-line.ensures c.if-body_first.false c.in_ok-start.ensures.start c.in_ok-start.ensures.code c.in_ok-jump_on.ensures

pub returns-then-body_first-clause-code : goal.returns-then-body_first-clause-code
returns-then-body_first-clause-code g c =
    body_first (where_of c.args.emitter.now) (position_of c.args.at) c.own-line.result c.args.emitter.now.depth c.args.until c.args.body_first
    (tree_of (texts_of c.args.emitter.now) c.args.body.now) (tree_of (texts_of c.args.emitter.now) c.args.condition.now) (written c.args.out.now) _
    c.own-line.ensures c.if-body_first.true c.in_ok-start.ensures.code
