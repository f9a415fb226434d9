use Rattle.std.proofs.Common.{ap, ◌∙◌}
use Rattle.ruby_tree.specs.Rules.{position}
use Rattle.parse_state.proofs.Steps.{from, and_then, failed, handed}
use Rattle.parse_state.proofs.Seen.{sees}
use Rattle.parse_operators.proofs.Parts.{sent_at}
use Rattle.parse_operators.proofs.prefixes.before_unary_operand.Goals as goal

pub returns-in_err-operand : goal.returns-in_err-operand
returns-in_err-operand g c = record { reads = λ w s a. from c.bump.ensures.later (handed _ _ c.from_residual.ensures.1 (failed _ (c.in_err-operand.ensures.reads _ _ (c.bump.ensures.at w s a)))) }

pub returns : goal.returns
returns g c = record {
  reads = λ w s a. from c.bump.ensures.later (and_then (c.in_ok-operand.ensures.reads _ _ (c.bump.ensures.at w s a)) (λ t r z b h. sent_at t _ _ r z (c.position-here.ensures ∙ ap position (sees c.lookahead.ensures.rest a)) (c.sent_alone.ensures.gives t h r z b)));
}
