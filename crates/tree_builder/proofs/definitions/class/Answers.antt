use Rattle.std.proofs.Common.{arith}
use Rattle.tree_builder.proofs.definitions.class.Goals as goal
use Rattle.tree_builder.proofs.DefinitionKinds.{class_kind}

pub returns : goal.returns
returns c = record { made = λ T k m a h_superclass h_name h_code. c.grown.ensures T _ (class_kind T _ _ _ _ _ _ _ _ h_superclass h_name (c.in_ok-code.ensures T a h_code) (omega arith)) }
