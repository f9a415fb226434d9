use Rattle.tree_builder.proofs.values.nil_value.Goals as goal
use Rattle.tree_builder.proofs.ValueKinds.{nil_value_kind}

pub returns : goal.returns
returns c = record { made = λ T. c.grown.ensures T _ (nil_value_kind T) }
