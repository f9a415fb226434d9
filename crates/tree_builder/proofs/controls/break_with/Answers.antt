use Rattle.std.proofs.Common.{refl}
use Rattle.tree_builder.proofs.controls.break_with.Goals as goal
use Rattle.tree_builder.proofs.ControlKinds.{break_with_kind}

pub returns : goal.returns
returns c = record { made = λ T ts h_values. c.grown.ensures T _ (break_with_kind T _ _ _ h_values refl) }
