use Rattle.std.proofs.Common.{suc}
use Rattle.ruby_tree.specs.Tree.{at}
use Rattle.ruby_tree.specs.FaultLine.{count_of}
use Rattle.tree_builder.proofs.GoesOn.{later}
use Rattle.parse_state.proofs.Steps.{from, failed, handed}
use Rattle.parse_state.proofs.Tools.{at_spot, array_spread, so}
use Rattle.parse_operands.proofs.Counts.{under_next}
use Rattle.parse_operands.proofs.marks.full_list.Goals as goal

pub returns-in_err-given : goal.returns-in_err-given
returns-in_err-given g c = record { reads = λ w s a. handed _ _ c.from_residual.ensures.1 (from c.bump.ensures.later (failed _ (c.in_err-given.ensures.reads (suc (count_of w)) _ _ (c.bump.ensures.at _ _ a) (under_next w)))) }

pub returns : goal.returns
returns g c = record { reads = λ w s a. from c.bump.ensures.later (so (c.in_ok-given.ensures.reads (suc (count_of w)) _ _ (c.bump.ensures.at _ _ a) (under_next w)) (λ t1 r1 z1 b1 l1 h1. c.closed.ensures.reads _ (at_spot (c.position_here-here.ensures _ _ a) (array_spread h1.spread (c.array-whole.ensures.made _ _ h1.trees))) _ _ b1)) }
