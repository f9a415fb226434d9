use Rattle.reference_parser.specs.ReadBodies.{brace_block}
use Rattle.parse_parts.proofs.PassingSteps.{closed_names, expected_up, placed, then_up}
use Rattle.parse_parts.proofs.Turning.{met_later}
use Rattle.parse_state.proofs.Seen.{sees}
use Rattle.parse_state.proofs.Steps.{and_then, failed, from, handed, later_of, later_then, unexpected, wanting}
use Rattle.parse_state.specs.Gives.{gave}
use Rattle.tree_builder.proofs.GoesOn.{later, params_later}
use Rattle.ruby_tree.specs.Rules.{position}
use Rattle.std.proofs.Common.{ap, refl, sym, ◌∙◌}
use Rattle.parse_parts.proofs.blocks.brace_block.Goals as goal

pub returns-in_err-params : goal.returns-in_err-params
unfolding brace_block
returns-in_err-params g c = record { reads = λ w s a. handed _ _ c.from_residual.ensures.1 (from (later_then c.bump.ensures.later c.leave_clause.ensures.later) (failed _ (c.in_err-params.ensures.reads _ _ (c.leave_clause.ensures.at _ _ (c.bump.ensures.at w s a))))) }

pub returns-in_err-code : goal.returns-in_err-code
unfolding brace_block
returns-in_err-code g c = record { reads = λ w s a. handed _ _ c.from_residual-in_err-code.ensures.1 (from (later_then c.bump.ensures.later c.leave_clause.ensures.later) (and_then (c.in_ok-params.ensures.reads _ _ (c.leave_clause.ensures.at _ _ (c.bump.ensures.at w s a))) (λ ps q y b h. failed _ (c.in_err-code.ensures.reads q y b)))) }

pub returns-in_err-expect_mark : goal.returns-in_err-expect_mark
unfolding brace_block
returns-in_err-expect_mark g c = record { reads = λ w s a. handed _ _ c.from_residual-in_err-expect_mark.ensures.1 (from (later_then c.bump.ensures.later c.leave_clause.ensures.later) (and_then (c.in_ok-params.ensures.reads _ _ (c.leave_clause.ensures.at _ _ (c.bump.ensures.at w s a))) (λ ps q y b h. and_then (c.in_ok-code.ensures.reads q y b) (λ t r z f i. unexpected _ (c.in_err-expect_mark.ensures.expects r z f))))) }

pub returns-in_err-body : goal.returns-in_err-body
returns-in_err-body g c = record { reads = λ w s a. wanting _ c.from_residual-in_err-body.ensures.1 }

pub returns : goal.returns
unfolding brace_block
returns g c = record {
  reads = λ w s a. then_up (c.in_ok-params.ensures.reads _ _ (c.leave_clause.ensures.at _ _ (c.bump.ensures.at w s a))) (λ ps q y b h. then_up (c.in_ok-code.ensures.reads q y b) (λ t r z f i.
      let stop = c.in_ok-expect_mark.ensures.expects r z f in
      let l = met_later stop in
      let m = later_then (later_of (c.in_ok-code.ensures.reads q y b)) l in
      let n = later_then (later_then c.bump.ensures.later c.leave_clause.ensures.later) (later_then (later_of (c.in_ok-params.ensures.reads _ _ (c.leave_clause.ensures.at _ _ (c.bump.ensures.at w s a)))) m) in
      let count = sym c.len-count.ensures in
      expected_up stop (λ e. gave (c.close_block.ensures.at c.args.parser.now w _ s _ a count refl n e) (c.close_block.ensures.later c.args.parser.now count n)
      (placed (c.position-here.ensures ∙ ap (λ v. position v) (sees c.lookahead.ensures.rest a)) (c.in_ok-body.ensures.made _ ps t (params_later _ _ (closed_names c.close_block.ensures.later count n m) _ _ h) (later _ _ (closed_names c.close_block.ensures.later count n l) _ _ i))))));
}
