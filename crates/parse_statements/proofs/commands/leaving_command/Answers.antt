use Rattle.std.proofs.Common.{ap, ◌∙◌}
use Rattle.ruby_tree.specs.Rules.{position}
use Rattle.parse_state.specs.Gives.{gave}
use Rattle.parse_state.proofs.Steps.{later_same, from, and_then, failed, handed}
use Rattle.parse_state.proofs.Seen.{sees}
use Rattle.parse_state.proofs.Tools.{at_spot}
use Rattle.parse_statements.proofs.commands.leaving_command.Goals as goal

pub returns-in_err-values : goal.returns-in_err-values
returns-in_err-values g c = record { reads = λ w s a. handed _ _ c.from_residual.ensures.1 (from c.bump.ensures.later (failed _ (c.in_err-values.ensures.reads _ _ (c.bump.ensures.at w s a)))) }

pub returns : goal.returns
returns g c = record { reads = λ w s a. from c.bump.ensures.later (and_then (c.in_ok-values.ensures.reads _ _ (c.bump.ensures.at w s a)) (λ t r z b h. gave b (later_same _) (at_spot (c.position-here.ensures ∙ ap position (sees c.lookahead.ensures.rest a)) (c.leaving_form.ensures.made _ t h)))) }
