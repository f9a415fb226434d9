use Rattle.ruby_tree.specs.Tree.{at, without}
use Rattle.tree_builder.proofs.GoesOn.{later}
use Rattle.parse_state.proofs.Steps.{from}
use Rattle.parse_operands.proofs.forms.lone_case.Goals as goal

pub returns : goal.returns
returns g c = record { reads = λ w s a. from c.bump.ensures.later (from c.skip_newlines.ensures.later (c.whens.ensures.reads w without (c.position_here-here.ensures _ _ a) (c.none-value.ensures _) _ _ (c.skip_newlines.ensures.at _ _ (c.bump.ensures.at w s a)))) }
