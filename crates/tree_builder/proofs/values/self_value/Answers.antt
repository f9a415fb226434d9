use Rattle.tree_builder.proofs.values.self_value.Goals as goal
use Rattle.tree_builder.proofs.ValueKinds.{self_value_kind}

pub returns : goal.returns
returns c = record { made = λ T. c.grown.ensures T _ (self_value_kind T) }
