use Rattle.std.proofs.Common.{refl}
use Rattle.tree_builder.proofs.calls.yield_with.Goals as goal
use Rattle.tree_builder.proofs.CallKinds.{yield_with_kind}

pub returns : goal.returns
returns c = record { made = λ T ts h_arguments. c.grown.ensures T _ (yield_with_kind T _ _ _ _ h_arguments refl) }
