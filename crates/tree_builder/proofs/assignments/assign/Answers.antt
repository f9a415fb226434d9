use Rattle.std.proofs.Common.{refl}
use Rattle.tree_builder.proofs.assignments.assign.Goals as goal
use Rattle.tree_builder.proofs.AssignmentKinds.{assign_kind}

pub returns : goal.returns
returns c = record { made = λ T v g h_value h_target. c.grown.ensures T _ (assign_kind T _ _ _ _ _ _ (c.in_ok-value.ensures T v h_value) h_target refl) }
