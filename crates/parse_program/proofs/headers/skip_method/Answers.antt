use Rattle.std.proofs.Common.{codes}
use Rattle.reference_parser.specs.Stops.{method_header}
use Rattle.parse_parts.proofs.PassingSteps.{bumped_word}
use Rattle.parse_state.proofs.Steps.{later_then}
use Rattle.parse_program.proofs.Moving.{later_fewer, moves_found, moves_handed, moves_missed, moves_over}
use Rattle.parse_program.proofs.headers.skip_method.Goals as goal

pub returns-in_err-skip_self : goal.returns-in_err-skip_self
unfolding method_header
returns-in_err-skip_self g c = record { moves = λ w s a is. moves_handed _ _ c.from_residual.ensures.1 (moves_missed _ (c.in_err-skip_self.ensures.finds _ _ (c.bump.ensures.at _ _ a))) }

pub returns-in_err-method_name : goal.returns-in_err-method_name
unfolding method_header
returns-in_err-method_name g c = record { moves = λ w s a is. moves_handed _ _ c.from_residual-in_err-method_name.ensures.1 (moves_found _ (c.in_ok-skip_self.ensures.finds _ _ (c.bump.ensures.at _ _ a)) (λ t r b l. moves_missed _ (c.in_err-method_name.ensures.finds r _ b))) }

pub returns : goal.returns
unfolding method_header
returns g c = record {
  moves = λ w s a is. moves_found _ (c.in_ok-skip_self.ensures.finds _ _ (c.bump.ensures.at _ _ a)) (λ t r b l. moves_found _ (c.in_ok-method_name.ensures.finds r _ b) (λ m v d k. moves_over (later_fewer (later_then l k) (bumped_word c.args.context.source.now (codes "def") a is c.bump.ensures.rest)) (c.skip_parameters.ensures.reads v _ d)));
}
