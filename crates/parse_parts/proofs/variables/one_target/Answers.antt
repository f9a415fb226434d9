use Rattle.std.proofs.Common.{sym, ap, ap₂, ◌∙◌, subst, List, [], ◌∷◌, ◌++◌, Option, Some, option_map}
use Rattle.ruby_lexer.specs.Pieces.{seen_all}
use Rattle.ruby_tree.specs.Tree.{Goal}
use Rattle.ruby_tree.specs.Rules.{next, word, declared, goal_at}
use Rattle.ruby_tree.specs.declared.node.Target.{Target}
use Rattle.token_lookahead.specs.Lookaheads.{goal_with}
use Rattle.tree_builder.specs.Subtrees.{AreTargets}
use Rattle.tree_builder.proofs.GoesOn.{target_later, targets_later}
use Rattle.tree_builder.proofs.Targets.{targets_pushed}
use Rattle.reference_parser.specs.Answers.{taken}
use Rattle.reference_parser.specs.ReadItems.{with_goal}
use Rattle.parse_state.specs.Gives.{gave, no_syntax}
use Rattle.parse_state.proofs.Steps.{named, handed, wanting, step, cut, later_of, later_then}
use Rattle.parse_state.proofs.Seen.{sees, seen_as}
use Rattle.parse_parts.specs.OneTurn.{one_target}
use Rattle.parse_parts.proofs.variables.one_target.Goals as goal

pub returns-in_default : goal.returns-in_default
unfolding one_target with_goal
returns-in_default c = record { gives = λ w s gs a h. named (ap (λ (o : Option Goal). with_goal c.args.context.source.now o (λ x. taken (gs ++ x ∷ []) (next w) (declared x s))) (sym (seen_as (λ x t. goal_at x t) c.goal.ensures c.lookahead.ensures.source (sees c.lookahead.ensures.rest a)) ∙ ap (λ o. option_map (goal_with (word c.lookahead.result.source.now (seen_all c.lookahead.result.rest.now))) o) c.in_default.is)) no_syntax }

pub returns-in_err-target : goal.returns-in_err-target
returns-in_err-target c = record { gives = λ w s gs a h. handed _ _ c.from_residual.ensures.1 (cut (c.in_err-target.ensures.gives w s a)) }

pub returns-in_err-declare_if : goal.returns-in_err-declare_if
returns-in_err-declare_if c = record { gives = λ w s gs a h. handed _ _ c.from_residual-in_err-declare_if.ensures.1 (step (c.in_ok-target.ensures.gives w s a) (λ b i. cut (c.in_err-declare_if.ensures.gives w s b))) }

pub returns-in_err-push : goal.returns-in_err-push
returns-in_err-push c = record { gives = λ w s gs a h. wanting _ c.from_residual-in_err-push.ensures.1 }

pub returns : goal.returns
unfolding one_target with_goal
returns c = record {
  gives = λ w s gs a h. named (ap (λ (o : Option Goal). with_goal c.args.context.source.now o (λ x. taken (gs ++ x ∷ []) (next w) (declared x s))) (sym (seen_as (λ x t. goal_at x t) c.goal.ensures c.lookahead.ensures.source (sees c.lookahead.ensures.rest a)) ∙ ap (λ o. option_map (goal_with (word c.lookahead.result.source.now (seen_all c.lookahead.result.rest.now))) o) c.in-Some.is ∙ ap₂ (λ y t. Some (goal_with (word y t) c.in-Some.settable)) c.lookahead.ensures.source (sees c.lookahead.ensures.rest a))) (step (c.in_ok-target.ensures.gives w s a) (λ b i. step (c.in_ok-declare_if.ensures.gives w s b) (λ d u.
      let first = later_of (c.in_ok-target.ensures.gives w s a) in
      let second = later_then (later_of (c.in_ok-declare_if.ensures.gives w s b)) c.bump.ensures.later in
      gave (c.bump.ensures.at _ _ d) c.bump.ensures.later (subst (λ (ts : List Target). AreTargets c.bump.new.self.symbols ts (gs ++ goal_with (word c.args.context.source.now w) c.in-Some.settable ∷ [])) (sym c.in_ok-push.ensures.items) (targets_pushed _ _ _ gs _ (targets_later _ _ (later_then first second).names _ _ h) (target_later _ _ second.names _ _ i))))));
}
