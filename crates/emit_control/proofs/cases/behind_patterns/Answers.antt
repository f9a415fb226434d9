use Rattle.ruby_tree.specs.Views.{read_other, read_whens}
use Rattle.compile_table.specs.Shapes.{other_shape}
use Rattle.code_emitter.specs.Emitting.{where_of, texts_of, written}
use Rattle.emit_control.proofs.CaseSteps.{behind_patterns}
use Rattle.emit_control.proofs.cases.behind_patterns.Goals as goal

pub returns-clause-code : goal.returns-clause-code
returns-clause-code g c =
    behind_patterns (where_of c.args.emitter.now) c.args.line c.args.emitter.now.depth c.len-end.result (read_whens (texts_of c.args.emitter.now) c.args.whens.now) (other_shape (where_of c.args.emitter.now) (read_other (texts_of c.args.emitter.now) c.args.last.now)) (written c.args.out.now) _ _ _ _
    c.len-end.ensures c.in_ok-starts.ensures.code c.in_ok-jump_on.ensures c.in_ok-other.ensures.code c.in_ok-write.ensures
