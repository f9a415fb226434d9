use Rattle.std.proofs.Common.{sym, subst, IfOk}
use Rattle.ruby_tree.specs.Tree.{Other, at}
use Rattle.ruby_tree.specs.SourcePositions.{position_of}
use Rattle.parse_operands.specs.Cases.{case_form}
use Rattle.tree_builder.specs.Subtrees.{Holds}
use Rattle.parse_state.proofs.Steps.{here}
use Rattle.parse_operands.proofs.forms.case_with.Goals as goal

pub returns-in-Some : goal.returns-in-Some
returns-in-Some c = record { made = λ T v ws e h i j. let p = c.in-Some.ensures T v h in subst (λ (y : Other). IfOk c.case_of.result (λ part. Holds T part (at (position_of c.args.here) (case_form y ws e)))) (sym p.1) (c.case_of.ensures.made T p.0 ws e p.2 i j) }

pub returns-in-None : goal.returns-in-None
returns-in-None c = record { made = λ T v ws e h i j. subst (λ (y : Other). Holds T c.case_tests.result (at (position_of c.args.here) (case_form y ws e))) (sym (c.in-None.ensures T v h)) (c.case_tests.ensures.made T ws e i j) }
