use Rattle.std.proofs.Common.{arith}
use Rattle.tree_builder.proofs.definitions.rescue.Goals as goal
use Rattle.tree_builder.proofs.DefinitionKinds.{rescue_kind}

pub returns : goal.returns
returns c = record { made = λ T a e k h_tried h_other h_clauses. c.grown.ensures T _ (rescue_kind T _ _ _ _ _ _ _ _ _ (c.in_ok-two.ensures.first T a h_tried) h_other (c.in_ok-two.ensures.second T k h_clauses) (omega (arith, c.in_ok-two.ensures.depth))) }
