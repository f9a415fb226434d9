use Rattle.tree_builder.proofs.values.folder_name.Goals as goal
use Rattle.tree_builder.proofs.ValueKinds.{folder_name_kind}

pub returns : goal.returns
returns c = record { made = λ T. c.grown.ensures T _ (folder_name_kind T) }
