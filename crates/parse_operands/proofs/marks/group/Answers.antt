use Rattle.ruby_tree.specs.Tree.{at}
use Rattle.tree_builder.proofs.GoesOn.{later}
use Rattle.reference_parser.specs.ReadOperands.{read_group}
use Rattle.parse_state.specs.Gives.{gave}
use Rattle.parse_state.proofs.Steps.{later_same, from, unexpected, failed, handed}
use Rattle.parse_state.proofs.Tools.{so, so_met}
use Rattle.parse_operands.proofs.marks.group.Goals as goal

pub returns-in_err-part : goal.returns-in_err-part
unfolding read_group
returns-in_err-part g c = record { reads = λ w s a. handed _ _ c.from_residual.ensures.1 (from c.bump.ensures.later (failed _ (c.in_err-part.ensures.reads _ _ (c.bump.ensures.at _ _ a)))) }

pub returns-in_err-expect_mark : goal.returns-in_err-expect_mark
unfolding read_group
returns-in_err-expect_mark g c = record { reads = λ w s a. handed _ _ c.from_residual-in_err-expect_mark.ensures.1 (from c.bump.ensures.later (so (c.in_ok-part.ensures.reads _ _ (c.bump.ensures.at _ _ a)) (λ t1 r1 z1 b1 l1 h1. unexpected _ (c.in_err-expect_mark.ensures.expects _ _ b1)))) }

pub returns : goal.returns
unfolding read_group
returns g c = record { reads = λ w s a. from c.bump.ensures.later (so (c.in_ok-part.ensures.reads _ _ (c.bump.ensures.at _ _ a)) (λ t1 r1 z1 b1 l1 h1. so_met (c.in_ok-expect_mark.ensures.expects _ _ b1) (λ b2 l2. gave b2 (later_same _) (later _ _ l2.names _ _ h1)))) }
