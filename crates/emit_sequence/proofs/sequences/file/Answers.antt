use Rattle.std.proofs.Common.{◌≡◌, ap, ◌∙◌}
use Rattle.ruby_tree.specs.Read.{tree_of}
use Rattle.ruby_meaning.specs.Loads.{file_body}
use Rattle.code_meaning.specs.Code.{Shape}
use Rattle.compile_table.specs.Shapes.{shape}
use Rattle.code_writer.specs.Writing.{grown}
use Rattle.code_emitter.specs.Emitting.{where_of, texts_of}
use Rattle.emit_sequence.proofs.sequences.file.Goals as goal

pub returns-clause-lines : goal.returns-clause-lines
returns-clause-lines c = c.finish.ensures.lines c.args.emitter.now.depth whole (c.in_ok-file_body.ensures.code ∙ ap (grown c.args.emitter.now.depth whole) c.new-out.ensures.code)
  where
    whole : Shape
    whole = shape (where_of c.args.emitter.now) (file_body (tree_of (texts_of c.args.emitter.now) c.args.root.now))

pub returns-clause-rows : goal.returns-clause-rows
returns-clause-rows c = c.finish.ensures.rows c.args.emitter.now.depth whole (c.in_ok-file_body.ensures.code ∙ ap (grown c.args.emitter.now.depth whole) c.new-out.ensures.code)
  where
    whole : Shape
    whole = shape (where_of c.args.emitter.now) (file_body (tree_of (texts_of c.args.emitter.now) c.args.root.now))
