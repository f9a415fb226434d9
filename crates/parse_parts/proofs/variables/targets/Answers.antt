use Rattle.std.proofs.Common.{sym, subst, List, [], suc}
use Rattle.ruby_tree.specs.Rules.{next}
use Rattle.ruby_tree.specs.FaultLine.{count_of}
use Rattle.ruby_tree.specs.declared.node.Target.{Target}
use Rattle.tree_builder.specs.Subtrees.{AreTargets}
use Rattle.tree_builder.proofs.GoesOn.{targets_later}
use Rattle.tree_builder.proofs.Targets.{no_targets}
use Rattle.parse_state.proofs.Steps.{here, named, handed, failed, and_then, expected, unexpected, later_of, later_then}
use Rattle.parse_parts.specs.OneTurn.{target_turn}
use Rattle.parse_parts.proofs.Turning.{begins, held, met_later, count_later, goes_more, goes_fewer, goes_end, goes_stop}
use Rattle.parse_parts.proofs.Gathering.{targets_unroll, targets_whole}
use Rattle.parse_parts.proofs.variables.targets.Goals as goal

pub returns-in_err-one_target : goal.returns-in_err-one_target
returns-in_err-one_target c = record { reads = λ w s a. named (targets_whole _ w s) (handed _ _ c.from_residual.ensures.1 (failed _ (c.in_err-one_target.ensures.gives w s [] a (subst (λ (ts : List Target). AreTargets c.args.parser.now.symbols ts []) (sym c.new-targets.ensures.items) (no_targets _))))) }

pub returns-in_err-expect_mark : goal.returns-in_err-expect_mark
returns-in_err-expect_mark c = record { reads = λ w s a. named (targets_whole _ w s) (handed _ _ c.from_residual-in_err-expect_mark.ensures.1 (and_then (c.in_ok-one_target.ensures.gives w s [] a (subst (λ (ts : List Target). AreTargets c.args.parser.now.symbols ts []) (sym c.new-targets.ensures.items) (no_targets _))) (λ hs q y b i. unexpected _ (c.in_err-expect_mark.ensures.expects q y b)))) }

pub loop-targets-init : goal.loop-targets-init
loop-targets-init c = begins _ _

pub returns-in_err-target_turn : goal.returns-in_err-target_turn
returns-in_err-target_turn c = record {
  reads = λ w s a. named (targets_whole _ w s) (and_then (c.in_ok-one_target.ensures.gives w s [] a (subst (λ (ts : List Target). AreTargets c.args.parser.now.symbols ts []) (sym c.new-targets.ensures.items) (no_targets _))) (λ hs q y b i. expected (c.in_ok-expect_mark.ensures.expects q y b) (λ e.
      let l = met_later (c.in_ok-expect_mark.ensures.expects q y b) in
      goes_stop (target_turn _) (targets_unroll _) {o = c.one_target.new.targets} c.loop-targets.invariant (suc (count_of w)) hs (next q) y e (targets_later _ _ l.names _ _ i) (count_later a e (later_then (later_of (c.in_ok-one_target.ensures.gives w s [] a (subst (λ (ts : List Target). AreTargets c.args.parser.now.symbols ts []) (sym c.new-targets.ensures.items) (no_targets _)))) l)) _ c.from_residual-in_err-target_turn.ensures.1 c.in_err-target_turn.ensures.turns)));
}

pub loop-targets-smaller : goal.loop-targets-smaller
loop-targets-smaller c =
    let first = held (c.in_ok-one_target.ensures.gives _ _ [] (here _) (subst (λ (ts : List Target). AreTargets c.args.parser.now.symbols ts []) (sym c.new-targets.ensures.items) (no_targets _))) in
    goes_fewer (target_turn _) (targets_unroll _) {o = c.one_target.new.targets} c.loop-targets.invariant first.0 (targets_later _ _ (met_later (c.in_ok-expect_mark.ensures.expects _ _ (here _))).names _ _ first.1) c.if-branch.true c.in_ok-target_turn.ensures.turns

pub loop-targets-preserved : goal.loop-targets-preserved
loop-targets-preserved c = goes_more (target_turn _) (targets_unroll _) {o = c.one_target.new.targets} c.loop-targets.invariant c.if-branch.true c.in_ok-target_turn.ensures.turns

pub returns : goal.returns
returns c = record {
  reads = λ w s a. named (targets_whole _ w s) (and_then (c.in_ok-one_target.ensures.gives w s [] a (subst (λ (ts : List Target). AreTargets c.args.parser.now.symbols ts []) (sym c.new-targets.ensures.items) (no_targets _))) (λ hs q y b i. expected (c.in_ok-expect_mark.ensures.expects q y b) (λ e.
      let l = met_later (c.in_ok-expect_mark.ensures.expects q y b) in
      goes_end (target_turn _) (targets_unroll _) {o = c.one_target.new.targets} c.loop-targets.invariant (suc (count_of w)) hs (next q) y e (targets_later _ _ l.names _ _ i) (count_later a e (later_then (later_of (c.in_ok-one_target.ensures.gives w s [] a (subst (λ (ts : List Target). AreTargets c.args.parser.now.symbols ts []) (sym c.new-targets.ensures.items) (no_targets _)))) l)) c.if-branch.false c.in_ok-target_turn.ensures.turns)));
}
