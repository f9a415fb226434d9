use Rattle.std.proofs.Common.{sym, true, false, ◌∙◌}
use Rattle.reference_parser.specs.ReadOperands.{called_name, read_name}
use Rattle.parse_state.specs.Gives.{no_syntax}
use Rattle.parse_state.proofs.Steps.{yes, no}
use Rattle.parse_operands.proofs.names.name.Goals as goal

pub returns-then-opens_behind : goal.returns-then-opens_behind
unfolding read_name
returns-then-opens_behind g c = record { reads = λ w s a. yes _ (sym (c.opens_behind.ensures w s a) ∙ c.if-opens_behind.true) (c.called_name.ensures.reads w s a) }

pub returns-then-is_command : goal.returns-then-is_command
unfolding read_name
returns-then-is_command g c = record { reads = λ w s a. no _ (sym (c.opens_behind.ensures w s a) ∙ c.if-opens_behind.false) (yes _ (sym (c.is_command.ensures w s a) ∙ c.if-is_command.true) no_syntax) }

pub returns-then-block_behind : goal.returns-then-block_behind
unfolding read_name
returns-then-block_behind g c = record { reads = λ w s a. no _ (sym (c.opens_behind.ensures w s a) ∙ c.if-opens_behind.false) (no _ (sym (c.is_command.ensures w s a) ∙ c.if-is_command.false) (yes _ (sym (c.block_behind.ensures w s a) ∙ c.if-block_behind.true) (c.blocked_name.ensures.reads w s a))) }

pub returns : goal.returns
unfolding read_name
returns g c = record { reads = λ w s a. no _ (sym (c.opens_behind.ensures w s a) ∙ c.if-opens_behind.false) (no _ (sym (c.is_command.ensures w s a) ∙ c.if-is_command.false) (no _ (sym (c.block_behind.ensures w s a) ∙ c.if-block_behind.false) (c.plain_name.ensures.reads w s a))) }
