use Rattle.parse_parts.proofs.Turning.{turn_cut, turn_from, turn_handed, turn_step, turn_wanting}
use Rattle.parse_state.proofs.Steps.{later_of, later_then}
use Rattle.tree_builder.proofs.GoesOn.{named_later, params_later}
use Rattle.parse_parts.proofs.params.required_param.Goals as goal

pub returns-in_err-name : goal.returns-in_err-name
returns-in_err-name c = record { turns = λ w s t k a h. turn_handed _ _ c.from_residual.ensures.1 (turn_cut (c.in_err-name.ensures.gives w s a)) }

pub returns-in_err-declare : goal.returns-in_err-declare
returns-in_err-declare c = record { turns = λ w s t k a h. turn_handed _ _ c.from_residual-in_err-declare.ensures.1 (turn_step (c.in_ok-name.ensures.gives w s a) (λ b i. turn_cut (c.in_err-declare.ensures.gives _ _ b))) }

pub returns-in_err-push_required : goal.returns-in_err-push_required
returns-in_err-push_required c = record { turns = λ w s t k a h. turn_wanting _ c.from_residual-in_err-push_required.ensures.1 }

pub returns : goal.returns
returns c = record {
  turns = λ w s t k a h. turn_step (c.in_ok-name.ensures.gives w s a) (λ b i. turn_step (c.in_ok-declare.ensures.gives _ _ b) (λ d _.
      let second = later_then (later_of (c.in_ok-declare.ensures.gives _ _ b)) c.bump.ensures.later in
      let first = later_then (later_of (c.in_ok-name.ensures.gives w s a)) second in
      let all = c.in_ok-push_required.ensures _ t.params _ (params_later _ _ first.names _ _ h.params) (named_later _ _ second.names _ _ i) in
      turn_from c.bump.ensures.later (c.goes_on.ensures.turns _ _ _ k (c.bump.ensures.at _ _ d) all)));
}
