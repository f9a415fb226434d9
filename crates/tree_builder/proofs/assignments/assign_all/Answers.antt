use Rattle.std.proofs.Common.{refl}
use Rattle.tree_builder.proofs.assignments.assign_all.Goals as goal
use Rattle.tree_builder.proofs.AssignmentKinds.{assign_all_kind}

pub returns : goal.returns
returns c = record { made = λ T vs gs h_values h_targets. c.grown.ensures T _ (assign_all_kind T _ _ _ _ _ h_values h_targets refl) }
