use Rattle.std.proofs.Common.{rules, ap, ◌∙◌}
use Rattle.std.specs.Prelude.{neg_ℤ}
use Rattle.std.proofs.lemmas.Int.{to_z-of_z}
use mir.Syntax.{w64}
use mir.Val.{SFits}
use Rattle.ruby_tree.specs.Tree.{at, integer}
use Rattle.tree_builder.proofs.GoesOn.{later}
use Rattle.parse_state.specs.Gives.{no_memory}
use Rattle.parse_state.proofs.Steps.{from}
use Rattle.parse_state.proofs.Tools.{at_spot, integer_as}
use Rattle.parse_operands.proofs.marks.negated.Goals as goal

pub returns-in-Some : goal.returns-in-Some
returns-in-Some c = let f : SFits w64 c.in-Some.opposite = search rules in record { reads = λ w s a. from c.bump.ensures.later (c.leaf.ensures.gives _ _ _ (at_spot (c.position_here-here.ensures _ _ a) (integer_as (to_z-of_z w64 c.in-Some.opposite f ∙ c.in-Some.ensures.1 ∙ ap neg_ℤ (to_z-of_z w64 c.args.value c.ranges.value)) (c.integer.ensures.made _))) (c.bump.ensures.at w s a)) }

pub returns-in-None : goal.returns-in-None
returns-in-None c = record { reads = λ w s a. no_memory }
