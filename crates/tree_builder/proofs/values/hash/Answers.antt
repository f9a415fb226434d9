use Rattle.std.proofs.Common.{refl}
use Rattle.tree_builder.proofs.values.hash.Goals as goal
use Rattle.tree_builder.proofs.ValueKinds.{hash_kind}

pub returns : goal.returns
returns c = record { made = λ T ps h_pairs. c.grown.ensures T _ (hash_kind T _ _ _ h_pairs refl) }
