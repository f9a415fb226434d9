use Rattle.tree_laws.proofs.Numbering.{numbers_rise}
use Rattle.tree_laws.proofs.sequence_numbers_rise.Goals as goal

pub returns : goal.returns
returns c = record { rise = numbers_rise }
