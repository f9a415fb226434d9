use Rattle.std.proofs.Common.{sym, ◌∙◌}
use Rattle.tree_builder.proofs.GoesOn.{params_later}
use Rattle.parse_state.proofs.Steps.{later_of, later_then}
use Rattle.parse_parts.specs.Turns.{goes_on, ends}
use Rattle.parse_parts.specs.OneTurn.{named_param_turn}
use Rattle.parse_parts.proofs.Turning.{bumped, turn_from, turn_step, turn_cut, turn_yes, turn_no, turn_handed, turn_wanting}
use Rattle.parse_parts.proofs.variables.named_param_turn.Goals as goal

pub returns-in_err-name : goal.returns-in_err-name
returns-in_err-name c = record { turns = λ w s ps k a h. turn_handed _ _ c.from_residual.ensures.1 (turn_cut (c.in_err-name.ensures.gives w s a)) }

pub returns-in_err-push_required : goal.returns-in_err-push_required
returns-in_err-push_required c = record { turns = λ w s ps k a h. turn_wanting _ c.from_residual-in_err-push_required.ensures.1 }

pub returns-then-is_mark : goal.returns-then-is_mark
unfolding named_param_turn
returns-then-is_mark c = record {
  turns = λ w s ps k a h. turn_step (c.in_ok-name.ensures.gives w s a) (λ b i.
      let now = c.in_ok-push_required.ensures _ ps _ (params_later _ _ (later_of (c.in_ok-name.ensures.gives w s a)).names _ _ h) i in
      let comma = sym (c.is_mark.ensures _ _ (c.bump.ensures.at _ _ b)) ∙ c.if-is_mark.true in
      turn_from c.bump.ensures.later (turn_yes _ comma (goes_on (c.bump-then-is_mark.ensures.at _ _ (c.bump.ensures.at _ _ b)) c.bump-then-is_mark.ensures.later (bumped c.args.context.source.now (c.bump.ensures.at _ _ b) comma c.bump-then-is_mark.ensures.rest) (params_later _ _ (later_then c.bump.ensures.later c.bump-then-is_mark.ensures.later).names _ _ now))));
}

pub returns : goal.returns
unfolding named_param_turn
returns c = record {
  turns = λ w s ps k a h. turn_step (c.in_ok-name.ensures.gives w s a) (λ b i.
      let now = c.in_ok-push_required.ensures _ ps _ (params_later _ _ (later_of (c.in_ok-name.ensures.gives w s a)).names _ _ h) i in
      turn_no _ (sym (c.is_mark.ensures _ _ (c.bump.ensures.at _ _ b)) ∙ c.if-is_mark.false) (ends (c.bump.ensures.at _ _ b) c.bump.ensures.later (params_later _ _ c.bump.ensures.later.names _ _ now)));
}
