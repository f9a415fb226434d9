use Rattle.std.proofs.Common.{refl}
use Rattle.tree_builder.proofs.values.array.Goals as goal
use Rattle.tree_builder.proofs.ValueKinds.{array_kind}

pub returns : goal.returns
returns c = record { made = λ T ts h_elements. c.grown.ensures T _ (array_kind T _ _ _ _ h_elements refl) }
