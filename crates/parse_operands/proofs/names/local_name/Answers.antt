use Rattle.ruby_tree.specs.Tree.{local}
use Rattle.parse_state.proofs.Steps.{cut, handed}
use Rattle.parse_state.proofs.Tools.{at_spot, so_step}
use Rattle.parse_operands.proofs.names.local_name.Goals as goal

pub returns-in_err-name : goal.returns-in_err-name
returns-in_err-name c = record { reads = λ w s a. handed _ _ c.from_residual.ensures.1 (cut (c.in_err-name.ensures.gives _ _ a)) }

pub returns : goal.returns
returns c = record { reads = λ w s a. so_step (c.in_ok-name.ensures.gives _ _ a) (λ b1 l1 h1. c.leaf.ensures.gives _ _ _ (at_spot (c.position_here-here.ensures _ _ a) (c.local.ensures.made _ _ h1)) b1) }
