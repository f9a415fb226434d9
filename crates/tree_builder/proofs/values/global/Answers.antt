use Rattle.tree_builder.proofs.values.global.Goals as goal
use Rattle.tree_builder.proofs.ValueKinds.{global_kind}

pub returns : goal.returns
returns c = record { made = λ T x h_name. c.grown.ensures T _ (global_kind T _ _ h_name) }
