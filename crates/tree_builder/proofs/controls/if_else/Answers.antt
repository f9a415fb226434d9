use Rattle.std.proofs.Common.{arith}
use Rattle.tree_builder.proofs.controls.if_else.Goals as goal
use Rattle.tree_builder.proofs.ControlKinds.{if_else_kind}

pub returns : goal.returns
returns c = record { made = λ T k a b h_condition h_chosen h_other. c.grown.ensures T _ (if_else_kind T _ _ _ _ _ _ _ _ _ (c.in_ok-two.ensures.first T k h_condition) (c.in_ok-two.ensures.second T a h_chosen) h_other (omega (arith, c.in_ok-two.ensures.depth))) }
