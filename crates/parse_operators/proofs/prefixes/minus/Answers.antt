use Rattle.std.proofs.Common.{sym, ◌∙◌}
use Rattle.reference_parser.specs.ReadLevels.{read_minus}
use Rattle.parse_state.proofs.Steps.{yes, no}
use Rattle.parse_operators.proofs.prefixes.minus.Goals as goal

pub returns-then-is_sign : goal.returns-then-is_sign
unfolding read_minus
returns-then-is_sign g c = record { reads = λ w s a. yes _ (sym (c.is_sign.ensures w s a) ∙ c.if-is_sign.true) (c.before_minus.ensures.reads w s a) }

pub returns : goal.returns
unfolding read_minus
returns g c = record { reads = λ w s a. no _ (sym (c.is_sign.ensures w s a) ∙ c.if-is_sign.false) (c.power.ensures.reads w s a) }
