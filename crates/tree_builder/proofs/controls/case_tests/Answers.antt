use Rattle.std.proofs.Common.{arith}
use Rattle.tree_builder.proofs.controls.case_tests.Goals as goal
use Rattle.tree_builder.proofs.ControlKinds.{case_tests_kind}

pub returns : goal.returns
returns c = record { made = λ T ws e h_whens h_other. c.grown.ensures T _ (case_tests_kind T _ _ _ _ _ h_whens h_other (omega arith)) }
