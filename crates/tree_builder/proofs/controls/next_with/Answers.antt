use Rattle.std.proofs.Common.{refl}
use Rattle.tree_builder.proofs.controls.next_with.Goals as goal
use Rattle.tree_builder.proofs.ControlKinds.{next_with_kind}

pub returns : goal.returns
returns c = record { made = λ T ts h_values. c.grown.ensures T _ (next_with_kind T _ _ _ h_values refl) }
