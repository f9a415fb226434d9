use Rattle.ruby_tree.specs.Read.{tree_of}
use Rattle.ruby_tree.specs.Views.{read_other}
use Rattle.compile_table.specs.Shapes.{shape, last_shape, number_of}
use Rattle.code_emitter.specs.Emitting.{where_of, texts_of, written}
use Rattle.emit_bodies.proofs.HandlerSteps.{rescued_steps}
use Rattle.emit_bodies.proofs.handlers.rescued.Goals as goal

pub returns-clause-code : goal.returns-clause-code
returns-clause-code g c =
    let emitter = c.args.emitter.now in
    rescued_steps
    emitter.depth
    (number_of (where_of emitter) (tree_of (texts_of emitter) c.args.clauses.now))
    c.len-go_on.result
    c.in_ok-row.row
    (shape (where_of emitter) (tree_of (texts_of emitter) c.args.tree.now))
    (last_shape (where_of emitter) c.args.line (read_other (texts_of emitter) c.args.last.now))
    (written c.args.out.now)
    (written c.behind_else.new.out)
    (written c.end_row.new.out)
    (written c.node.new.out)
    (written record { code = c.begin_row.new.self; children = c.node.new.out.children })
    c.len-go_on.ensures
    (c.in_ok-behind_else.ensures).code
    (c.in_ok-row.ensures).code
    (c.in_ok-row.ensures).number
    (c.in_ok-node.ensures).code
    c.begin_row.ensures
