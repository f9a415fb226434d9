use Rattle.std.proofs.Common.{arith}
use Rattle.tree_builder.proofs.definitions.body.Goals as goal
use Rattle.tree_builder.proofs.DefinitionKinds.{body_kind}

pub returns : goal.returns
returns c = record { made = λ T ps a h_params h_code. c.grown.ensures T _ (body_kind T _ _ _ _ _ _ h_params (c.in_ok-code.ensures T a h_code) (omega arith)) }
