use Rattle.reference_laws.proofs.Sites.{placed_tree}
use Rattle.reference_laws.proofs.readings.what_is_read_is_placed.Goals as goal

pub returns : goal.returns
returns c = placed_tree
