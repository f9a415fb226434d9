use Rattle.std.proofs.Common.{sym, ◌∙◌}
use Rattle.reference_parser.specs.ReadStatements.{read_assigned_value}
use Rattle.parse_state.proofs.Steps.{yes, no}
use Rattle.parse_statements.proofs.arguments.assigned_value.Goals as goal

pub returns-then-begins_command : goal.returns-then-begins_command
unfolding read_assigned_value
returns-then-begins_command g c = record { reads = λ w s a. yes _ (sym (c.begins_command.ensures w s a) ∙ c.if-begins_command.true) (c.command.ensures.reads w s a) }

pub returns : goal.returns
unfolding read_assigned_value
returns g c = record { reads = λ w s a. no _ (sym (c.begins_command.ensures w s a) ∙ c.if-begins_command.false) (c.settable.ensures.reads w s a) }
