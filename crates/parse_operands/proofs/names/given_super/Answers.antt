use Rattle.ruby_tree.specs.Tree.{at}
use Rattle.tree_builder.proofs.GoesOn.{later, all_later, other_later}
use Rattle.parse_state.specs.Gives.{gave}
use Rattle.parse_state.proofs.Steps.{later_same, from, failed, handed}
use Rattle.parse_state.proofs.Tools.{at_spot, super_spread, so}
use Rattle.parse_operands.proofs.names.given_super.Goals as goal

pub returns-in_err-given : goal.returns-in_err-given
returns-in_err-given g c = record { reads = λ w s a. handed _ _ c.from_residual.ensures.1 (from c.bump.ensures.later (failed _ (c.in_err-given.ensures.reads _ _ (c.bump.ensures.at _ _ a)))) }

pub returns-in_err-block : goal.returns-in_err-block
returns-in_err-block g c = record { reads = λ w s a. handed _ _ c.from_residual-in_err-block.ensures.1 (from c.bump.ensures.later (so (c.in_ok-given.ensures.reads _ _ (c.bump.ensures.at _ _ a)) (λ t1 r1 z1 b1 l1 h1. failed _ (c.in_err-block.ensures.reads _ (c.has_block-has_block.ensures _ _ h1) h1.block _ _ b1)))) }

pub returns : goal.returns
returns g c = record { reads = λ w s a. from c.bump.ensures.later (so (c.in_ok-given.ensures.reads _ _ (c.bump.ensures.at _ _ a)) (λ t1 r1 z1 b1 l1 h1. so (c.in_ok-block.ensures.reads _ (c.has_block-has_block.ensures _ _ h1) h1.block _ _ b1) (λ t2 r2 z2 b2 l2 h2. gave b2 (later_same _) (at_spot (c.position_here-here.ensures _ _ a) (super_spread h1.spread (c.super_with.ensures.made _ _ _ _ (all_later _ _ l2.names _ _ h1.trees) (other_later _ _ l2.names _ _ h1.value) h2)))))) }
