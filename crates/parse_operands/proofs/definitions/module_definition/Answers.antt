use Rattle.std.proofs.Common.{sym, true, false, ◌∙◌}
use Rattle.reference_parser.specs.ReadOperands.{read_module}
use Rattle.parse_state.specs.Gives.{no_syntax}
use Rattle.parse_state.proofs.Steps.{yes, no}
use Rattle.parse_operands.proofs.definitions.module_definition.Goals as goal

pub returns-then-header_behind : goal.returns-then-header_behind
unfolding read_module
returns-then-header_behind g c = record { reads = λ w s a. yes _ (sym (c.header_behind.ensures w s a) ∙ c.if-header_behind.true) (c.module_at.ensures.reads w s a) }

pub returns : goal.returns
unfolding read_module
returns g c = record { reads = λ w s a. no _ (sym (c.header_behind.ensures w s a) ∙ c.if-header_behind.false) no_syntax }
