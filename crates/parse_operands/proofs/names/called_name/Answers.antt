use Rattle.ruby_tree.specs.Tree.{at, send}
use Rattle.tree_builder.proofs.GoesOn.{later, all_later, other_later, named_later}
use Rattle.reference_parser.specs.ReadOperands.{called_name}
use Rattle.parse_state.specs.Gives.{gave}
use Rattle.parse_state.proofs.Steps.{later_same, later_then, from, failed, cut, handed}
use Rattle.parse_state.proofs.Tools.{at_spot, send_spread, so, so_step}
use Rattle.parse_operands.proofs.names.called_name.Goals as goal

pub returns-in_err-name : goal.returns-in_err-name
unfolding called_name
returns-in_err-name g c = record { reads = λ w s a. handed _ _ c.from_residual.ensures.1 (cut (c.in_err-name.ensures.gives _ _ a)) }

pub returns-in_err-given : goal.returns-in_err-given
unfolding called_name
returns-in_err-given g c = record { reads = λ w s a. handed _ _ c.from_residual-in_err-given.ensures.1 (so_step (c.in_ok-name.ensures.gives _ _ a) (λ b1 l1 h1. from c.bump.ensures.later (failed _ (c.in_err-given.ensures.reads _ _ (c.bump.ensures.at _ _ b1))))) }

pub returns-in_err-block : goal.returns-in_err-block
unfolding called_name
returns-in_err-block g c = record { reads = λ w s a. handed _ _ c.from_residual-in_err-block.ensures.1 (so_step (c.in_ok-name.ensures.gives _ _ a) (λ b1 l1 h1. from c.bump.ensures.later (so (c.in_ok-given.ensures.reads _ _ (c.bump.ensures.at _ _ b1)) (λ t2 r2 z2 b2 l2 h2. failed _ (c.in_err-block.ensures.reads _ (c.has_block-has_block.ensures _ _ h2) h2.block _ _ b2))))) }

pub returns : goal.returns
unfolding called_name
returns g c = record { reads = λ w s a. so_step (c.in_ok-name.ensures.gives _ _ a) (λ b1 l1 h1. from c.bump.ensures.later (so (c.in_ok-given.ensures.reads _ _ (c.bump.ensures.at _ _ b1)) (λ t2 r2 z2 b2 l2 h2. so (c.in_ok-block.ensures.reads _ (c.has_block-has_block.ensures _ _ h2) h2.block _ _ b2) (λ t3 r3 z3 b3 l3 h3. gave b3 (later_same _) (at_spot (c.position_here-here.ensures _ _ a) (send_spread h2.spread (c.send.ensures.made _ _ _ _ _ _ (c.none-receiver.ensures _) (all_later _ _ l3.names _ _ h2.trees) (other_later _ _ l3.names _ _ h2.value) (named_later _ _ (later_then c.bump.ensures.later (later_then l2 (l3))).names _ _ h1) h3))))))) }
