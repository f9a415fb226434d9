use Rattle.ruby_tree.specs.Rules.{begins_targets}
use Rattle.reference_parser.specs.ReadStatements.{read_head}
use Rattle.parse_state.proofs.Steps.{yes, no}
use Rattle.parse_state.proofs.Seen.{sees, seen_in}
use Rattle.parse_statements.proofs.several.head.Goals as goal

pub returns-then-begins_targets : goal.returns-then-begins_targets
unfolding read_head
returns-then-begins_targets g c = record { reads = λ w s a. yes _ (seen_in (λ x t. begins_targets x t) c.begins_targets.ensures c.lookahead.ensures.source (sees c.lookahead.ensures.rest a) c.if-begins_targets.true) (c.set_all.ensures.reads w s a) }

pub returns : goal.returns
unfolding read_head
returns g c = record { reads = λ w s a. no _ (seen_in (λ x t. begins_targets x t) c.begins_targets.ensures c.lookahead.ensures.source (sees c.lookahead.ensures.rest a) c.if-begins_targets.false) (c.expression.ensures.reads w s a) }
