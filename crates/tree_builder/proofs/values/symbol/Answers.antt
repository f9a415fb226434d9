use Rattle.tree_builder.proofs.values.symbol.Goals as goal
use Rattle.tree_builder.proofs.ValueKinds.{symbol_kind}

pub returns : goal.returns
returns c = record { made = λ T x h_name. c.grown.ensures T _ (symbol_kind T _ _ h_name) }
