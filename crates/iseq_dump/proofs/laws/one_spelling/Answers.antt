use Rattle.std.proofs.Common.{sym, ◌∙◌}
use Rattle.iseq_dump.proofs.Units.{one_unit, same_unit}
use Rattle.iseq_dump.proofs.laws.one_spelling.Goals as goal

pub returns : goal.returns
returns c = record {
  bytes = λ u a b s t. s.spelled ∙ sym t.spelled;
  unit = same_unit;
  prefix = λ u v a rest s t. (one_unit u v a rest s t).1;
}
