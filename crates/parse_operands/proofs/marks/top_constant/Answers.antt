use Rattle.ruby_tree.specs.Tree.{at}
use Rattle.tree_builder.proofs.GoesOn.{later}
use Rattle.parse_state.proofs.Steps.{from, cut, handed, wanting}
use Rattle.parse_state.proofs.Tools.{at_spot, so_step}
use Rattle.parse_operands.proofs.marks.top_constant.Goals as goal

pub returns-in_err-name : goal.returns-in_err-name
returns-in_err-name c = record { reads = λ w s a. handed _ _ c.from_residual.ensures.1 (from c.bump.ensures.later (cut (c.in_err-name.ensures.gives _ _ (c.bump.ensures.at _ _ a)))) }

pub returns-in_err-names : goal.returns-in_err-names
returns-in_err-names c = record { reads = λ w s a. wanting _ c.from_residual-in_err-names.ensures.1 }

pub returns : goal.returns
returns c = record { reads = λ w s a. from c.bump.ensures.later (so_step (c.in_ok-name.ensures.gives _ _ (c.bump.ensures.at _ _ a)) (λ b1 l1 h1. c.leaf.ensures.gives _ _ _ (at_spot (c.position_here-here.ensures _ _ a) (c.constant_path.ensures.made _ _ _ (c.none.ensures _) (c.in_ok-names.ensures _ _ h1))) b1)) }
