use Rattle.tree_builder.proofs.definitions.ensure.Goals as goal
use Rattle.tree_builder.proofs.DefinitionKinds.{ensure_kind}

pub returns : goal.returns
returns c = record { made = λ T a k h_tried h_last. c.grown.ensures T _ (ensure_kind T _ _ _ _ _ _ _ (c.in_ok-two.ensures.first T a h_tried) (c.in_ok-two.ensures.second T k h_last) c.in_ok-two.ensures.depth) }
