use Rattle.std.proofs.Common.{refl}
use Rattle.tree_builder.proofs.values.joined.Goals as goal
use Rattle.tree_builder.proofs.ValueKinds.{joined_kind}

pub returns : goal.returns
returns c = record { made = λ T ps h_pieces. c.grown.ensures T _ (joined_kind T _ _ _ h_pieces refl) }
