use Rattle.std.proofs.Common.{refl}
use Rattle.tree_builder.proofs.controls.negated.Goals as goal
use Rattle.tree_builder.proofs.ControlKinds.{negated_kind}

pub returns : goal.returns
returns c = record { made = λ T a h_part. c.grown.ensures T _ (negated_kind T _ _ _ _ (c.in_ok-part.ensures T a h_part) refl) }
