use Rattle.tree_builder.proofs.values.file_name.Goals as goal
use Rattle.tree_builder.proofs.ValueKinds.{file_name_kind}

pub returns : goal.returns
returns c = record { made = λ T. c.grown.ensures T _ (file_name_kind T) }
