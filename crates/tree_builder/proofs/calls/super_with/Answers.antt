use Rattle.std.proofs.Common.{arith}
use Rattle.tree_builder.proofs.calls.super_with.Goals as goal
use Rattle.tree_builder.proofs.CallKinds.{super_with_kind}

pub returns : goal.returns
returns c = record { made = λ T ts v b h_arguments h_value h_block. c.grown.ensures T _ (super_with_kind T _ _ _ _ _ _ _ _ h_arguments h_value h_block (omega arith)) }
