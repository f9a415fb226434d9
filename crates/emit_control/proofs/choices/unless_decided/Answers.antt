use Rattle.ruby_tree.specs.Read.{tree_of}
use Rattle.code_writer.specs.Writing.{branch_of}
use Rattle.compile_table.specs.Shapes.{shape}
use Rattle.code_emitter.specs.Emitting.{where_of, texts_of, written}
use Rattle.emit_control.proofs.Jumps.{decided}
use Rattle.emit_control.proofs.choices.unless_decided.Goals as goal

pub returns-clause-code : goal.returns-clause-code
returns-clause-code g c =
    decided c.args.line c.args.emitter.now.depth c.len-end.result (branch_of c.args.branch)
    (shape (where_of c.args.emitter.now) (tree_of (texts_of c.args.emitter.now) c.args.tree.now)) (written c.args.out.now) _ _ _ _
    c.len-end.ensures c.in_ok-node.ensures.code c.in_ok-write.ensures c.in_ok-jump_on.ensures c.in_ok-write-2.ensures
