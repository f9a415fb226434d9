use Rattle.reference_laws.proofs.Whole.{at_most_one}
use Rattle.reference_laws.proofs.laws.one_tree.Goals as goal

pub returns : goal.returns
returns c = at_most_one
