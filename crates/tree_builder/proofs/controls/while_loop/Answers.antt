use Rattle.tree_builder.proofs.controls.while_loop.Goals as goal
use Rattle.tree_builder.proofs.ControlKinds.{while_loop_kind}

pub returns : goal.returns
returns c = record { made = λ T a k h_body h_condition. c.grown.ensures T _ (while_loop_kind T _ _ _ _ _ _ _ _ _ (c.in_ok-two.ensures.first T a h_body) (c.in_ok-two.ensures.second T k h_condition) c.in_ok-two.ensures.depth) }
