use Rattle.tree_builder.proofs.assignments.operate_attribute.Goals as goal
use Rattle.tree_builder.proofs.AssignmentKinds.{operate_attribute_kind}

pub returns : goal.returns
returns c = record { made = λ T a x v o m h_receiver h_name h_value h_operator h_setter. c.grown.ensures T _ (operate_attribute_kind T _ _ _ _ _ _ _ _ _ _ _ _ _ _ (c.in_ok-two.ensures.first T a h_receiver) h_name (c.in_ok-two.ensures.second T v h_value) h_operator h_setter c.in_ok-two.ensures.depth) }
