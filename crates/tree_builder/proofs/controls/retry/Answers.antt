use Rattle.tree_builder.proofs.controls.retry.Goals as goal
use Rattle.tree_builder.proofs.ControlKinds.{retry_kind}

pub returns : goal.returns
returns c = record { made = λ T. c.grown.ensures T _ (retry_kind T) }
