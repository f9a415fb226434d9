use Rattle.std.proofs.Common.{length, ◌∙◌}
use Rattle.ruby_tree.specs.Views.{read_other, read_whens}
use Rattle.compile_table.specs.Shapes.{other_shape}
use Rattle.code_emitter.specs.Emitting.{where_of, texts_of, written}
use Rattle.emit_control.proofs.Tests.{tests_joined}
use Rattle.emit_control.proofs.tests_of_cases.case_tests.Goals as goal

pub returns-clause-code : goal.returns-clause-code
returns-clause-code g c =
    tests_joined (where_of c.args.emitter.now) c.args.line c.args.emitter.now.depth (other_shape (where_of c.args.emitter.now) (read_other (texts_of c.args.emitter.now) c.args.last.now)) (read_whens (texts_of c.args.emitter.now) c.args.whens.now) (written c.args.out.now) _ _
    c.in_ok-starts.ensures.code
    (λ far place. c.in_ok-tests.ensures.code (length (written c.args.out.now).steps) far (c.deref.ensures.value ∙ c.in_ok-starts.ensures.starts) place)
