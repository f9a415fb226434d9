use Rattle.std.proofs.Common.{refl}
use Rattle.tree_builder.proofs.controls.return_with.Goals as goal
use Rattle.tree_builder.proofs.ControlKinds.{return_with_kind}

pub returns : goal.returns
returns c = record { made = λ T ts h_values. c.grown.ensures T _ (return_with_kind T _ _ _ h_values refl) }
