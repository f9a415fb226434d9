use Rattle.std.proofs.Common.{ap, ◌∙◌}
use Rattle.ruby_tree.specs.Tree.{at, assign, to_constant}
use Rattle.ruby_tree.specs.Rules.{position, word}
use Rattle.tree_builder.proofs.GoesOn.{named_later}
use Rattle.tree_builder.proofs.Targets.{constant_named}
use Rattle.reference_parser.specs.ReadStatements.{set_by}
use Rattle.parse_state.specs.Gives.{gave}
use Rattle.parse_state.proofs.Steps.{and_then, cut, failed, from, handed, wanting, later_of, later_same, later_then, step}
use Rattle.parse_state.proofs.Seen.{sees}
use Rattle.parse_statements.proofs.Settings.{made_of}
use Rattle.parse_statements.proofs.variables.set_constant.Goals as goal

pub returns-in_err-name : goal.returns-in_err-name
returns-in_err-name g c = record { reads = λ w s a. handed _ _ c.from_residual.ensures.1 (cut (c.in_err-name.ensures.gives w s a)) }

pub returns-in_err-value : goal.returns-in_err-value
unfolding set_by
returns-in_err-value g c = record { reads = λ w s a. handed _ _ c.from_residual-in_err-value.ensures.1 (step (c.in_ok-name.ensures.gives w s a) (λ b n. from (later_then c.bump.ensures.later c.bump-2.ensures.later) (failed _ (c.in_err-value.ensures.reads _ _ (c.bump-2.ensures.at _ _ (c.bump.ensures.at _ _ b)))))) }

pub returns-in_err-assign : goal.returns-in_err-assign
returns-in_err-assign g c = record { reads = λ w s a. wanting _ c.from_residual-in_err-assign.ensures.1 }

pub returns : goal.returns
unfolding set_by
returns g c = record {
  reads = λ w s a. step (c.in_ok-name.ensures.gives w s a) (λ b n.
      let read = c.in_ok-value.ensures.reads _ _ (c.bump-2.ensures.at _ _ (c.bump.ensures.at _ _ b)) in
      let on = later_then (later_then c.bump.ensures.later c.bump-2.ensures.later) (later_of read) in
      from (later_then c.bump.ensures.later c.bump-2.ensures.later) (and_then read (λ v r z e h.
      gave e (later_same _) (made_of (λ u. at u (assign v (to_constant (word c.args.context.source.now w)))) (c.position-here.ensures ∙ ap (λ t. position t) (sees c.lookahead.ensures.rest a)) (c.in_ok-assign.ensures.made _ v _ h (constant_named _ _ _ (named_later _ _ on.names _ _ n)))))));
}
