use Rattle.ruby_tree.specs.Read.{tree_of}
use Rattle.ruby_tree.specs.Views.{read_other}
use Rattle.compile_table.specs.Shapes.{shape, other_shape}
use Rattle.code_emitter.specs.Emitting.{where_of, texts_of, written}
use Rattle.emit_control.proofs.Jumps.{chosen}
use Rattle.emit_control.proofs.choices.if_else.Goals as goal

pub returns-clause-code : goal.returns-clause-code
returns-clause-code g c =
    chosen c.args.line c.args.emitter.now.depth c.len-end.result c.len-start.result
    (shape (where_of c.args.emitter.now) (tree_of (texts_of c.args.emitter.now) c.args.condition.now))
    (shape (where_of c.args.emitter.now) (tree_of (texts_of c.args.emitter.now) c.args.tree.now))
    (other_shape (where_of c.args.emitter.now) (read_other (texts_of c.args.emitter.now) c.args.last.now))
    (written c.args.out.now) _ _ _ _
    c.len-end.ensures c.in_ok-other.ensures.code c.len-start.ensures c.in_ok-one_branch.ensures.code c.in_ok-jump_on.ensures c.in_ok-node.ensures.code
