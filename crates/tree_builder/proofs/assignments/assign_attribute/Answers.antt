use Rattle.tree_builder.proofs.assignments.assign_attribute.Goals as goal
use Rattle.tree_builder.proofs.AssignmentKinds.{assign_attribute_kind}

pub returns : goal.returns
returns c = record { made = λ T a v m h_receiver h_value h_setter. c.grown.ensures T _ (assign_attribute_kind T _ _ _ _ _ _ _ _ _ (c.in_ok-two.ensures.first T a h_receiver) (c.in_ok-two.ensures.second T v h_value) h_setter c.in_ok-two.ensures.depth) }
