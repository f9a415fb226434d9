use Rattle.iseq_types.proofs.Taking.{child_kind, child_later}
use Rattle.iseq_types.proofs.laws.children_come_later.Goals as goal

pub returns : goal.returns
returns c = record { kind = child_kind; greater = child_later }
