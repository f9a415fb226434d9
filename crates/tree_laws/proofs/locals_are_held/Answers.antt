use Rattle.tree_laws.proofs.LocalsHeld.{housed}
use Rattle.tree_laws.proofs.locals_are_held.Goals as goal

pub returns : goal.returns
returns c = record { held = housed }
