use Rattle.std.proofs.Common.{drop}
use Rattle.ruby_tree.specs.Views.{read_params}
use Rattle.ruby_meaning.specs.Locals.{names_of_params}
use Rattle.code_meaning.specs.Code.{done}
use Rattle.compile_table.specs.Shapes.{gets}
use Rattle.local_scopes.specs.Opened.{innermost_texts}
use Rattle.code_emitter.specs.Emitting.{where_of, Writes}
use Rattle.code_emitter.proofs.Seams.{at_first}
use Rattle.emit_calls.proofs.params.get_params.Goals as goal

pub returns-clause-code : goal.returns-clause-code
returns-clause-code c =
    at_first (λ i. Writes c.args.emitter.now.depth (gets (where_of c.args.emitter.now) c.args.line (names_of_params (read_params (innermost_texts c.args.emitter.now.scopes.now) (drop i c.args.params.now))) done) c.args.out.now c.loop-i.out) c.loop-i.i c.loop-i-test.false c.loop-i.invariant.code
