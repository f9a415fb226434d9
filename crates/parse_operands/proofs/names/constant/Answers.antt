use Rattle.std.proofs.Common.{sym, true, false, ◌∙◌}
use Rattle.reference_parser.specs.ReadOperands.{called_name, read_constant}
use Rattle.parse_state.proofs.Steps.{yes, no}
use Rattle.parse_operands.proofs.names.constant.Goals as goal

pub returns-then-opens_behind : goal.returns-then-opens_behind
unfolding read_constant
returns-then-opens_behind g c = record { reads = λ w s a. yes _ (sym (c.opens_behind.ensures w s a) ∙ c.if-opens_behind.true) (c.called_name.ensures.reads w s a) }

pub returns : goal.returns
unfolding read_constant
returns g c = record { reads = λ w s a. no _ (sym (c.opens_behind.ensures w s a) ∙ c.if-opens_behind.false) (c.plain_constant.ensures.reads w s a) }
