use Rattle.tree_builder.proofs.values.instance.Goals as goal
use Rattle.tree_builder.proofs.ValueKinds.{instance_kind}

pub returns : goal.returns
returns c = record { made = λ T x h_name. c.grown.ensures T _ (instance_kind T _ _ h_name) }
