use Rattle.parse_parts.proofs.Turning.{turn_cut, turn_failed, turn_from, turn_handed, turn_step, turn_then, turn_wanting}
use Rattle.parse_state.proofs.Steps.{later_of, later_then}
use Rattle.tree_builder.proofs.GoesOn.{named_later, params_later}
use Rattle.parse_parts.proofs.params.default_param.Goals as goal

pub returns-in_err-name : goal.returns-in_err-name
returns-in_err-name g c = record { turns = λ w s t k a h. turn_handed _ _ c.from_residual.ensures.1 (turn_cut (c.in_err-name.ensures.gives w s a)) }

pub returns-in_err-declare : goal.returns-in_err-declare
returns-in_err-declare g c = record { turns = λ w s t k a h. turn_handed _ _ c.from_residual-in_err-declare.ensures.1 (turn_step (c.in_ok-name.ensures.gives w s a) (λ b i. turn_cut (c.in_err-declare.ensures.gives _ _ b))) }

pub returns-in_err-value : goal.returns-in_err-value
returns-in_err-value g c = record { turns = λ w s t k a h. turn_handed _ _ c.from_residual-in_err-value.ensures.1 (turn_step (c.in_ok-name.ensures.gives w s a) (λ b i. turn_step (c.in_ok-declare.ensures.gives _ _ b) (λ d _. turn_from (later_then c.bump.ensures.later c.bump-2.ensures.later) (turn_failed _ (c.in_err-value.ensures.reads _ _ (c.bump-2.ensures.at _ _ (c.bump.ensures.at _ _ d))))))) }

pub returns-in_err-push_optional : goal.returns-in_err-push_optional
returns-in_err-push_optional g c = record { turns = λ w s t k a h. turn_wanting _ c.from_residual-in_err-push_optional.ensures.1 }

pub returns : goal.returns
returns g c = record {
  turns = λ w s t k a h. turn_step (c.in_ok-name.ensures.gives w s a) (λ b i. turn_step (c.in_ok-declare.ensures.gives _ _ b) (λ d _. turn_from (later_then c.bump.ensures.later c.bump-2.ensures.later) (turn_then (c.in_ok-value.ensures.reads _ _ (c.bump-2.ensures.at _ _ (c.bump.ensures.at _ _ d))) (λ x q y e j.
      let third = later_then (later_then c.bump.ensures.later c.bump-2.ensures.later) (later_of (c.in_ok-value.ensures.reads _ _ (c.bump-2.ensures.at _ _ (c.bump.ensures.at _ _ d)))) in
      let second = later_then (later_of (c.in_ok-declare.ensures.gives _ _ b)) third in
      let first = later_then (later_of (c.in_ok-name.ensures.gives w s a)) second in
      c.goes_on.ensures.turns q y _ k e (c.in_ok-push_optional.ensures _ t.params _ x (params_later _ _ first.names _ _ h.params) (named_later _ _ second.names _ _ i) j)))));
}
