use Rattle.tree_builder.proofs.values.true_value.Goals as goal
use Rattle.tree_builder.proofs.ValueKinds.{true_value_kind}

pub returns : goal.returns
returns c = record { made = λ T. c.grown.ensures T _ (true_value_kind T) }
