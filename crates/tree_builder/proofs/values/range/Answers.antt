use Rattle.tree_builder.proofs.values.range.Goals as goal
use Rattle.tree_builder.proofs.ValueKinds.{range_kind}

pub returns : goal.returns
returns c = record { made = λ T a b h_from h_to. c.grown.ensures T _ (range_kind T _ _ _ _ _ _ _ _ (c.in_ok-two.ensures.first T a h_from) (c.in_ok-two.ensures.second T b h_to) c.in_ok-two.ensures.depth) }
