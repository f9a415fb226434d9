use Rattle.tree_builder.proofs.controls.both.Goals as goal
use Rattle.tree_builder.proofs.ControlKinds.{both_kind}

pub returns : goal.returns
returns c = record { made = λ T a b h_left h_right. c.grown.ensures T _ (both_kind T _ _ _ _ _ _ _ (c.in_ok-two.ensures.first T a h_left) (c.in_ok-two.ensures.second T b h_right) c.in_ok-two.ensures.depth) }
