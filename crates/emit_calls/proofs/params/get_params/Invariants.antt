use Rattle.std.proofs.Common.{◌≡◌, drop}
use Rattle.ruby_tree.specs.Views.{read_params}
use Rattle.ruby_meaning.specs.Locals.{names_of_params}
use Rattle.code_meaning.specs.Code.{done}
use Rattle.compile_table.specs.Shapes.{gets}
use Rattle.local_scopes.specs.Opened.{innermost_texts}
use Rattle.code_emitter.specs.Emitting.{where_of, Writes}
use Rattle.emit_calls.proofs.params.get_params.Given as goal

abbrev pub invariant-loop-i : goal.invariant-loop-i
invariant-loop-i l = record {
  code : Writes l.emitter.depth (gets (where_of l.emitter) l.line (names_of_params (read_params (innermost_texts l.emitter.scopes.now) (drop l.i l.params))) done) l.initial.out l.out;
  children : l.out.children ≡ l.initial.out.children;
}
