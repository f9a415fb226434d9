use Rattle.tree_builder.proofs.values.line_number.Goals as goal
use Rattle.tree_builder.proofs.ValueKinds.{line_number_kind}

pub returns : goal.returns
returns c = record { made = λ T. c.grown.ensures T _ (line_number_kind T) }
