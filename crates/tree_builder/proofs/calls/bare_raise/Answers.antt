use Rattle.tree_builder.proofs.calls.bare_raise.Goals as goal
use Rattle.tree_builder.proofs.CallKinds.{bare_raise_kind}

pub returns : goal.returns
returns c = record { made = λ T. c.grown.ensures T _ (bare_raise_kind T) }
