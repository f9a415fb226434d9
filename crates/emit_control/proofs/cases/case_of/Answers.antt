use Rattle.std.proofs.Common.{length, ◌∙◌}
use Rattle.ruby_tree.specs.Read.{tree_of}
use Rattle.ruby_tree.specs.Views.{read_other, read_whens}
use Rattle.compile_table.specs.Shapes.{shape, other_shape}
use Rattle.code_emitter.specs.Emitting.{where_of, texts_of, written}
use Rattle.emit_control.proofs.CaseSteps.{case_joined}
use Rattle.emit_control.proofs.cases.case_of.Goals as goal

pub returns-clause-code : goal.returns-clause-code
returns-clause-code g c =
    case_joined (where_of c.args.emitter.now) c.args.line c.args.emitter.now.depth (shape (where_of c.args.emitter.now) (tree_of (texts_of c.args.emitter.now) c.args.value.now)) (other_shape (where_of c.args.emitter.now) (read_other (texts_of c.args.emitter.now) c.args.last.now)) (read_whens (texts_of c.args.emitter.now) c.args.whens.now) (written c.args.out.now) _ _ _
    c.in_ok-starts.ensures.code
    (λ far place. c.in_ok-patterns.ensures.code (length (written c.args.out.now).steps) far (c.deref.ensures.value ∙ c.in_ok-starts.ensures.starts) place)
    c.in_ok-node.ensures.code
