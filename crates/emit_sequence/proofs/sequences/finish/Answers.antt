use Rattle.std.proofs.Common.{◌∙◌}
use Rattle.code_emitter.specs.Emitting.{written}
use Rattle.emit_sequence.proofs.Opened.{code_is, rows_are}
use Rattle.emit_sequence.proofs.sequences.finish.Goals as goal

pub returns-clause-lines : goal.returns-clause-lines
returns-clause-lines c = λ depth s is. c.in_ok-finish.ensures.lines ∙ code_is depth s (written c.args.out) is

pub returns-clause-rows : goal.returns-clause-rows
returns-clause-rows c = λ depth s is. c.in_ok-finish.ensures.rows ∙ rows_are depth s (written c.args.out) is
