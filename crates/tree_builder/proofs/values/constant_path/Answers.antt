use Rattle.std.proofs.Common.{refl}
use Rattle.tree_builder.proofs.values.constant_path.Goals as goal
use Rattle.tree_builder.proofs.ValueKinds.{constant_path_kind}

pub returns : goal.returns
returns c = record { made = λ T v xs h_value h_names. c.grown.ensures T _ (constant_path_kind T _ _ _ _ _ _ h_value h_names refl) }
