use Rattle.std.proofs.Common.{ap, ◌∙◌}
use Rattle.ruby_tree.specs.Rules.{position}
use Rattle.reference_parser.specs.ReadLevels.{read_power}
use Rattle.parse_state.proofs.Steps.{and_then, failed, handed}
use Rattle.parse_state.proofs.Seen.{sees}
use Rattle.parse_operators.proofs.prefixes.power.Goals as goal

pub returns-in_err-base : goal.returns-in_err-base
unfolding read_power
returns-in_err-base g c = record { reads = λ w s a. handed _ _ c.from_residual.ensures.1 (failed _ (c.in_err-base.ensures.reads w s a)) }

pub returns : goal.returns
unfolding read_power
returns g c = record { reads = λ w s a. and_then (c.in_ok-base.ensures.reads w s a) (λ t r z b h. c.raised.ensures.reads w t (c.position-here.ensures ∙ ap position (sees c.lookahead.ensures.rest a)) h r z b) }
