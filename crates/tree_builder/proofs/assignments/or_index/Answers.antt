use Rattle.tree_builder.proofs.assignments.or_index.Goals as goal
use Rattle.tree_builder.proofs.AssignmentKinds.{or_index_kind}

pub returns : goal.returns
returns c = record { made = λ T a i v h_receiver h_index h_value. c.grown.ensures T _ (or_index_kind T _ _ _ _ _ _ _ _ _ _ (c.in_ok-three.ensures.first T a h_receiver) (c.in_ok-three.ensures.second T i h_index) (c.in_ok-three.ensures.third T v h_value) c.in_ok-three.ensures.depth) }
