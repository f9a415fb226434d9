use Rattle.parse_parts.proofs.PassingSteps.{placed}
use Rattle.parse_state.proofs.Seen.{sees}
use Rattle.parse_state.proofs.Steps.{and_then, failed, handed, later_of, later_same, later_then, wanting}
use Rattle.parse_state.specs.Gives.{gave}
use Rattle.tree_builder.proofs.GoesOn.{later, rescues_later}
use Rattle.ruby_tree.specs.FaultLine.{count_of}
use Rattle.ruby_tree.specs.Rules.{position}
use Rattle.std.proofs.Common.{ap, arith, suc, ◌∙◌}
use Rattle.parse_parts.proofs.clauses.rescued.Goals as goal

pub returns-in_err-saved : goal.returns-in_err-saved
returns-in_err-saved g c = record { reads = λ t h w s a. handed _ _ c.from_residual.ensures.1 (failed _ (c.in_err-saved.ensures.reads (suc (count_of w)) w s a (omega arith))) }

pub returns-in_err-other : goal.returns-in_err-other
returns-in_err-other g c = record { reads = λ t h w s a. handed _ _ c.from_residual-in_err-other.ensures.1 (and_then (c.in_ok-saved.ensures.reads (suc (count_of w)) w s a (omega arith)) (λ ds p x b i. failed _ (c.in_err-other.ensures.reads p x b))) }

pub returns-in_err-rescue : goal.returns-in_err-rescue
returns-in_err-rescue g c = record { reads = λ t h w s a. wanting _ c.from_residual-in_err-rescue.ensures.1 }

pub returns : goal.returns
returns g c = record {
  reads = λ t h w s a. and_then (c.in_ok-saved.ensures.reads (suc (count_of w)) w s a (omega arith)) (λ ds p x b i. and_then (c.in_ok-other.ensures.reads p x b) (λ e r z f j.
      let m = later_of (c.in_ok-other.ensures.reads p x b) in
      let n = later_then (later_of (c.in_ok-saved.ensures.reads (suc (count_of w)) w s a (omega arith))) m in
      gave f (later_same _) (c.in_ok-rescue.ensures.made _ t e _ (later _ _ n.names _ _ h) j (placed (c.position-clause.ensures ∙ ap (λ v. position v) (sees c.lookahead.ensures.rest a)) (c.rescue_sequence-saved.ensures.made _ ds (rescues_later _ _ m.names _ _ i))))));
}
