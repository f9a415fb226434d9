use Rattle.parse_state.specs.Gives.{no_syntax}
use Rattle.parse_state.proofs.Steps.{yes, no}
use Rattle.parse_statements.proofs.arguments.dotted_command.Goals as goal

pub returns-then-may_command : goal.returns-then-may_command
returns-then-may_command g c = record { reads = λ t m h n w s a. yes _ c.if-may_command.true (c.command_behind.ensures.reads t m h n w s a) }

pub returns : goal.returns
returns g c = record { reads = λ t m h n w s a. no _ c.if-may_command.false no_syntax }
