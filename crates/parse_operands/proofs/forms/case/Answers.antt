use Rattle.std.proofs.Common.{sym, true, false, ◌∙◌}
use Rattle.reference_parser.specs.ReadOperands.{read_case}
use Rattle.parse_state.proofs.Steps.{yes, no}
use Rattle.parse_operands.proofs.forms.case.Goals as goal

pub returns-then-whens_behind : goal.returns-then-whens_behind
unfolding read_case
returns-then-whens_behind g c = record { reads = λ w s a. yes _ (sym (c.whens_behind.ensures w s a) ∙ c.if-whens_behind.true) (c.lone_case.ensures.reads w s a) }

pub returns : goal.returns
unfolding read_case
returns g c = record { reads = λ w s a. no _ (sym (c.whens_behind.ensures w s a) ∙ c.if-whens_behind.false) (c.valued_case.ensures.reads w s a) }
