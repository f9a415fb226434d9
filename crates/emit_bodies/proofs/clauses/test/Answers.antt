use Rattle.std.proofs.Common.{◌≡◌, ◌+◌, length, subst, sym, OnOk}
use Rattle.code_emitter.specs.Emitting.{where_of, texts_of, written, Writes}
use Rattle.emit_bodies.proofs.ClauseSteps.{clause_is}
use Rattle.emit_bodies.proofs.clauses.test.Goals as goal

pub returns-else-is_empty-clause-code : goal.returns-else-is_empty-clause-code
returns-else-is_empty-clause-code g c = λ far.
    subst
    (λ s. OnOk c.classes.result (length (written c.args.out.now).steps ≡ far + c.args.start → Writes c.args.emitter.now.depth s c.args.out.now c.classes.new.out))
    (sym (clause_is (where_of c.args.emitter.now) c.args.line far (texts_of c.args.emitter.now) c.args.trees.now c.if-is_empty.ensures))
    (c.classes.ensures.code far)
