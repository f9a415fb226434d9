use Rattle.tree_builder.proofs.values.false_value.Goals as goal
use Rattle.tree_builder.proofs.ValueKinds.{false_value_kind}

pub returns : goal.returns
returns c = record { made = λ T. c.grown.ensures T _ (false_value_kind T) }
