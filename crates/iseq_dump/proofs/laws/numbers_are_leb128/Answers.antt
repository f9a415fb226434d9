use Rattle.iseq_dump.proofs.Leb128.{number_leb, only_leb}
use Rattle.iseq_dump.proofs.laws.numbers_are_leb128.Goals as goal

pub returns : goal.returns
returns c = record { spelled = number_leb; only = only_leb }
