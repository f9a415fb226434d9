use Rattle.tree_laws.proofs.Nests.{nested}
use Rattle.tree_laws.proofs.sequences_nest.Goals as goal

pub returns : goal.returns
returns c = record { nested = nested }
