use Rattle.tree_builder.proofs.GoesOn.{params_later}
use Rattle.parse_state.proofs.Steps.{later_of, later_then}
use Rattle.parse_parts.specs.Turns.{ends}
use Rattle.parse_parts.proofs.Turning.{turn_from, turn_step, turn_cut, turn_handed, turn_wanting}
use Rattle.parse_parts.proofs.variables.rest_param.Goals as goal

pub returns-in_err-name : goal.returns-in_err-name
returns-in_err-name c = record { turns = λ w s ps k a h. turn_handed _ _ c.from_residual.ensures.1 (turn_from c.bump.ensures.later (turn_cut (c.in_err-name.ensures.gives _ _ (c.bump.ensures.at w s a)))) }

pub returns-in_err-push_rest : goal.returns-in_err-push_rest
returns-in_err-push_rest c = record { turns = λ w s ps k a h. turn_wanting _ c.from_residual-in_err-push_rest.ensures.1 }

pub returns : goal.returns
returns c = record {
  turns = λ w s ps k a h. turn_from c.bump.ensures.later (turn_step (c.in_ok-name.ensures.gives _ _ (c.bump.ensures.at w s a)) (λ b i.
      let before = later_then c.bump.ensures.later (later_of (c.in_ok-name.ensures.gives _ _ (c.bump.ensures.at w s a))) in
      ends (c.bump-2.ensures.at _ _ b) c.bump-2.ensures.later (params_later _ _ c.bump-2.ensures.later.names _ _ (c.in_ok-push_rest.ensures _ ps _ (params_later _ _ before.names _ _ h) i))));
}
