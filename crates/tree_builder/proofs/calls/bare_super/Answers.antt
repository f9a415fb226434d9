use Rattle.std.proofs.Common.{refl}
use Rattle.tree_builder.proofs.calls.bare_super.Goals as goal
use Rattle.tree_builder.proofs.CallKinds.{bare_super_kind}

pub returns : goal.returns
returns c = record { made = λ T b h_block. c.grown.ensures T _ (bare_super_kind T _ _ _ h_block refl) }
