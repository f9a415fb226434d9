use Rattle.tree_builder.proofs.values.local.Goals as goal
use Rattle.tree_builder.proofs.ValueKinds.{local_kind}

pub returns : goal.returns
returns c = record { made = λ T x h_name. c.grown.ensures T _ (local_kind T _ _ h_name) }
