use Rattle.std.proofs.Common.{ap, ◌∙◌}
use Rattle.ruby_tree.specs.Rules.{position, next, word}
use Rattle.token_lookahead.specs.Lookaheads.{goal_with}
use Rattle.tree_builder.proofs.GoesOn.{target_later}
use Rattle.reference_parser.specs.ReadStatements.{set_by}
use Rattle.parse_state.proofs.Steps.{and_then, cut, failed, from, handed, later_of, later_then, step}
use Rattle.parse_state.proofs.Seen.{sees}
use Rattle.parse_statements.proofs.variables.set_variable.Goals as goal

pub returns-in_err-target : goal.returns-in_err-target
returns-in_err-target g c = record { reads = λ w s a. handed _ _ c.from_residual.ensures.1 (cut (c.in_err-target.ensures.gives w s a)) }

pub returns-in_err-declare_if : goal.returns-in_err-declare_if
returns-in_err-declare_if g c = record { reads = λ w s a. handed _ _ c.from_residual-in_err-declare_if.ensures.1 (step (c.in_ok-target.ensures.gives w s a) (λ b i. cut (c.in_err-declare_if.ensures.gives w s b))) }

pub returns-in_err-value : goal.returns-in_err-value
unfolding set_by
returns-in_err-value g c = record { reads = λ w s a. handed _ _ c.from_residual-in_err-value.ensures.1 (step (c.in_ok-target.ensures.gives w s a) (λ b i. step (c.in_ok-declare_if.ensures.gives w s b) (λ d u. from (later_then c.bump.ensures.later c.bump-2.ensures.later) (failed _ (c.in_err-value.ensures.reads _ _ (c.bump-2.ensures.at _ _ (c.bump.ensures.at _ _ d))))))) }

pub returns : goal.returns
unfolding set_by
returns g c = record {
  reads = λ w s a. step (c.in_ok-target.ensures.gives w s a) (λ b i. step (c.in_ok-declare_if.ensures.gives w s b) (λ d u.
      let read = c.in_ok-value.ensures.reads _ _ (c.bump-2.ensures.at _ _ (c.bump.ensures.at _ _ d)) in
      let on = later_then (later_of (c.in_ok-declare_if.ensures.gives w s b)) (later_then (later_then c.bump.ensures.later c.bump-2.ensures.later) (later_of read)) in
      from (later_then c.bump.ensures.later c.bump-2.ensures.later) (and_then read (λ v r z e h.
      c.variable_form.ensures.gives w (next w) (goal_with (word c.args.context.source.now w) c.args.settable) v (c.position-here.ensures ∙ ap (λ t. position t) (sees c.lookahead.ensures.rest a)) c.lookahead-operator.ensures.source (sees c.lookahead-operator.ensures.rest (c.bump.ensures.at _ _ d)) (target_later _ _ on.names _ _ i) h r z e))));
}
