use Rattle.std.proofs.Common.{refl}
use Rattle.tree_builder.proofs.definitions.ensure_sequence.Goals as goal
use Rattle.tree_builder.proofs.DefinitionKinds.{ensure_sequence_kind}

pub returns : goal.returns
returns c = record { made = λ T a h_last. c.grown.ensures T _ (ensure_sequence_kind T _ _ _ _ (c.in_ok-last.ensures T a h_last) refl) }
