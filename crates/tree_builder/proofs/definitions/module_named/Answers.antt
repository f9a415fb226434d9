use Rattle.std.proofs.Common.{refl}
use Rattle.tree_builder.proofs.definitions.module_named.Goals as goal
use Rattle.tree_builder.proofs.DefinitionKinds.{module_named_kind}

pub returns : goal.returns
returns c = record { made = λ T m a h_name h_code. c.grown.ensures T _ (module_named_kind T _ _ _ _ _ _ h_name (c.in_ok-code.ensures T a h_code) refl) }
