use Rattle.tree_builder.proofs.assignments.operate_index.Goals as goal
use Rattle.tree_builder.proofs.AssignmentKinds.{operate_index_kind}

pub returns : goal.returns
returns c = record { made = λ T a i v o h_receiver h_index h_value h_operator. c.grown.ensures T _ (operate_index_kind T _ _ _ _ _ _ _ _ _ _ _ _ _ (c.in_ok-three.ensures.first T a h_receiver) (c.in_ok-three.ensures.second T i h_index) (c.in_ok-three.ensures.third T v h_value) h_operator c.in_ok-three.ensures.depth) }
