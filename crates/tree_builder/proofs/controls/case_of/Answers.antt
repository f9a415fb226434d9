use Rattle.std.proofs.Common.{arith}
use Rattle.tree_builder.proofs.controls.case_of.Goals as goal
use Rattle.tree_builder.proofs.ControlKinds.{case_of_kind}

pub returns : goal.returns
returns c = record { made = λ T a ws e h_value h_whens h_other. c.grown.ensures T _ (case_of_kind T _ _ _ _ _ _ _ _ (c.in_ok-value.ensures T a h_value) h_whens h_other (omega arith)) }
