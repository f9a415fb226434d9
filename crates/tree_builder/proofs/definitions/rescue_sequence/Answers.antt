use Rattle.std.proofs.Common.{refl}
use Rattle.tree_builder.proofs.definitions.rescue_sequence.Goals as goal
use Rattle.tree_builder.proofs.DefinitionKinds.{rescue_sequence_kind}

pub returns : goal.returns
returns c = record { made = λ T cs h_clauses. c.grown.ensures T _ (rescue_sequence_kind T _ _ _ h_clauses refl) }
