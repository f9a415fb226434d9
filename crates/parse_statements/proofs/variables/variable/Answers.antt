use Rattle.std.proofs.Common.{◌≡◌, sym, ap, ap₂, ◌∙◌, Option, Some, option_map}
use Rattle.ruby_lexer.specs.Pieces.{seen_all}
use Rattle.ruby_tree.specs.Tree.{Goal}
use Rattle.ruby_tree.specs.Rules.{word, goal_at}
use Rattle.token_lookahead.specs.Lookaheads.{do_owner_of, goal_with}
use Rattle.reference_parser.specs.ReadStatements.{set_by}
use Rattle.parse_state.proofs.Steps.{named}
use Rattle.parse_state.proofs.Seen.{sees, seen_as}
use Rattle.parse_statements.proofs.variables.variable.Goals as goal

pub returns-in-Some : goal.returns-in-Some
returns-in-Some g c = record { reads = λ w s a. named (ap (λ (o : Option Goal). set_by c.args.context.source.now (g.N.Nested.readers c.args.nested.now c.args.context.source.now) (do_owner_of c.args.do_owner) w s o) (sym (seen_as (λ x t. goal_at x t) c.goal.ensures c.lookahead.ensures.source (sees c.lookahead.ensures.rest a)) ∙ ap (λ o. option_map (goal_with (word c.lookahead.result.source.now (seen_all c.lookahead.result.rest.now))) o) c.in-Some.is ∙ ap₂ (λ y t. Some (goal_with (word y t) c.in-Some.settable)) c.lookahead.ensures.source (sees c.lookahead.ensures.rest a))) (c.set_variable.ensures.reads w s a) }

pub returns-in-None : goal.returns-in-None
returns-in-None g c = record { reads = λ w s a. named (ap (λ (o : Option Goal). set_by c.args.context.source.now (g.N.Nested.readers c.args.nested.now c.args.context.source.now) (do_owner_of c.args.do_owner) w s o) (sym (seen_as (λ x t. goal_at x t) c.goal.ensures c.lookahead.ensures.source (sees c.lookahead.ensures.rest a)) ∙ ap (λ o. option_map (goal_with (word c.lookahead.result.source.now (seen_all c.lookahead.result.rest.now))) o) c.in-None.is)) (c.set_constant.ensures.reads w s a) }
