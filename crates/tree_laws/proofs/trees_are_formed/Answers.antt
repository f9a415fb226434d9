use Rattle.tree_laws.proofs.TextsFormed.{text_formed, file_formed}
use Rattle.tree_laws.proofs.trees_are_formed.Goals as goal

pub returns : goal.returns
returns c = record { formed = text_formed; file = file_formed }
