use Rattle.std.proofs.Common.{sym, ◌∙◌}
use Rattle.tree_builder.proofs.GoesOn.{targets_later}
use Rattle.parse_state.proofs.Steps.{later_same}
use Rattle.parse_parts.specs.Turns.{goes_on, ends}
use Rattle.parse_parts.specs.OneTurn.{target_turn}
use Rattle.parse_parts.proofs.Turning.{bumped, turn_then, turn_failed, turn_yes, turn_no, turn_handed}
use Rattle.parse_parts.proofs.variables.target_turn.Goals as goal

pub returns-in_err-one_target : goal.returns-in_err-one_target
unfolding target_turn
returns-in_err-one_target c = record { turns = λ w s gs k a h. turn_handed _ _ c.from_residual.ensures.1 (turn_failed _ (c.in_err-one_target.ensures.gives w s gs a h)) }

pub returns-then-is_mark : goal.returns-then-is_mark
unfolding target_turn
returns-then-is_mark c = record {
  turns = λ w s gs k a h. turn_then (c.in_ok-one_target.ensures.gives w s gs a h) (λ hs q y b i.
      let comma = sym (c.is_mark.ensures q y b) ∙ c.if-is_mark.true in
      turn_yes _ comma (goes_on (c.bump.ensures.at q y b) c.bump.ensures.later (bumped c.args.context.source.now b comma c.bump.ensures.rest) (targets_later _ _ c.bump.ensures.later.names _ _ i)));
}

pub returns : goal.returns
unfolding target_turn
returns c = record { turns = λ w s gs k a h. turn_then (c.in_ok-one_target.ensures.gives w s gs a h) (λ hs q y b i. turn_no _ (sym (c.is_mark.ensures q y b) ∙ c.if-is_mark.false) (ends b (later_same _) i)) }
