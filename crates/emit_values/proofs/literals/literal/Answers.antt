use Rattle.code_emitter.specs.Emitting.{texts_of, children_of}
use Rattle.emit_values.proofs.Childless.{on_ok, literal_alone}
use Rattle.emit_values.proofs.literals.literal.Goals as goal

pub returns-clause-children : goal.returns-clause-children
returns-clause-children c = on_ok c.write.result (literal_alone (texts_of c.args.emitter.now) c.args.emitter.now.in_loop c.args.literal.now (children_of (texts_of c.args.emitter.now) c.args.out.now))
