use Rattle.tree_builder.proofs.values.text.Goals as goal
use Rattle.tree_builder.proofs.ValueKinds.{text_kind}

pub returns : goal.returns
returns c = record { made = λ T. c.grown.ensures T _ (text_kind T _) }
