use Rattle.parse_parts.proofs.PassingSteps.{finds_later, placed}
use Rattle.parse_state.proofs.Seen.{sees}
use Rattle.parse_state.proofs.Steps.{and_then, failed, found_then, from, handed, later_of, later_same, later_then, missed, wanting}
use Rattle.parse_state.specs.Gives.{gave}
use Rattle.tree_builder.proofs.GoesOn.{later}
use Rattle.ruby_tree.specs.Rules.{position}
use Rattle.std.proofs.Common.{ap, ◌∙◌}
use Rattle.parse_parts.proofs.branches.elsif.Goals as goal

pub returns-in_err-condition : goal.returns-in_err-condition
returns-in_err-condition g c = record { reads = λ w s a. handed _ _ c.from_residual.ensures.1 (from c.bump.ensures.later (failed _ (c.in_err-condition.ensures.reads _ _ (c.bump.ensures.at w s a)))) }

pub returns-in_err-skip_then : goal.returns-in_err-skip_then
returns-in_err-skip_then g c = record { reads = λ w s a. handed _ _ c.from_residual-in_err-skip_then.ensures.1 (from c.bump.ensures.later (and_then (c.in_ok-condition.ensures.reads _ _ (c.bump.ensures.at w s a)) (λ x q y b h. missed _ (c.in_err-skip_then.ensures.finds q y b)))) }

pub returns-in_err-chosen : goal.returns-in_err-chosen
returns-in_err-chosen g c = record { reads = λ w s a. handed _ _ c.from_residual-in_err-chosen.ensures.1 (from c.bump.ensures.later (and_then (c.in_ok-condition.ensures.reads _ _ (c.bump.ensures.at w s a)) (λ x q y b h. found_then (c.in_ok-skip_then.ensures.finds q y b) (λ e v f i. failed _ (c.in_err-chosen.ensures.reads v y f))))) }

pub returns-in_err-other : goal.returns-in_err-other
returns-in_err-other g c = record { reads = λ w s a. handed _ _ c.from_residual-in_err-other.ensures.1 (from c.bump.ensures.later (and_then (c.in_ok-condition.ensures.reads _ _ (c.bump.ensures.at w s a)) (λ x q y b h. found_then (c.in_ok-skip_then.ensures.finds q y b) (λ e v f i. and_then (c.in_ok-chosen.ensures.reads v y f) (λ t p z k j. failed _ (c.in_err-other.ensures.reads p z k)))))) }

pub returns-in_err-part : goal.returns-in_err-part
returns-in_err-part g c = record { reads = λ w s a. wanting _ c.from_residual-in_err-part.ensures.1 }

pub returns-in_err-some : goal.returns-in_err-some
returns-in_err-some g c = record { reads = λ w s a. wanting _ c.from_residual-in_err-some.ensures.1 }

pub returns : goal.returns
returns g c = record {
  reads = λ w s a. from c.bump.ensures.later (and_then (c.in_ok-condition.ensures.reads _ _ (c.bump.ensures.at w s a)) (λ x q y b h. found_then (c.in_ok-skip_then.ensures.finds q y b) (λ e v f i. and_then (c.in_ok-chosen.ensures.reads v y f) (λ t p z k j. and_then (c.in_ok-other.ensures.reads p z k) (λ o r u n m.
      let third = later_of (c.in_ok-other.ensures.reads p z k) in
      let second = later_then (later_of (c.in_ok-chosen.ensures.reads v y f)) third in
      let first = later_then (finds_later (c.in_ok-skip_then.ensures.finds q y b)) second in
      gave n (later_same _) (c.in_ok-some.ensures _ _ (placed (c.position-here.ensures ∙ ap (λ v. position v) (sees c.lookahead.ensures.rest a)) (c.in_ok-part.ensures.made _ x t o (later _ _ first.names _ _ h) (later _ _ third.names _ _ j) m))))))));
}
