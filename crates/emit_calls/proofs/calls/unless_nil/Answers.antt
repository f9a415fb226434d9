use Rattle.ruby_tree.specs.Views.{read_all, read_other}
use Rattle.code_emitter.specs.Emitting.{where_of, texts_of, written}
use Rattle.emit_calls.specs.Calls.{instr_of, after_receiver}
use Rattle.emit_calls.proofs.Forms.{skipped}
use Rattle.emit_calls.proofs.calls.unless_nil.Goals as goal

pub returns-clause-code : goal.returns-clause-code
returns-clause-code g c =
    skipped c.args.emitter.now.depth c.args.start
    (after_receiver (where_of c.args.emitter.now) c.args.line (read_all (texts_of c.args.emitter.now) c.args.operands.args.now) (read_other (texts_of c.args.emitter.now) c.args.operands.value.now) (instr_of c.args.called) (read_other (texts_of c.args.emitter.now) c.args.operands.block.now))
    (written c.args.out.now) _ _ _ _ c.len-end.ensures c.in_ok-after_receiver.ensures.code c.in_ok-jump_on.ensures c.in_ok-write.ensures
