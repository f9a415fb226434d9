use Rattle.std.proofs.Common.{refl}
use Rattle.tree_builder.proofs.controls.statements.Goals as goal
use Rattle.tree_builder.proofs.ControlKinds.{statements_kind}

pub returns : goal.returns
returns c = record { made = λ T ts h_parts. c.grown.ensures T _ (statements_kind T _ _ _ h_parts refl) }
