use Rattle.ruby_tree.specs.Rules.{begins_value}
use Rattle.reference_parser.specs.ReadStatements.{read_values}
use Rattle.parse_state.specs.Gives.{gave}
use Rattle.parse_state.proofs.Steps.{later_same, yes, no}
use Rattle.parse_state.proofs.Seen.{sees, seen_in}
use Rattle.parse_statements.proofs.commands.values_behind.Goals as goal

pub returns-then-begins_value : goal.returns-then-begins_value
unfolding read_values
returns-then-begins_value g c = record { reads = λ w s a. yes _ (seen_in (λ x t. begins_value x t) c.begins_value.ensures c.lookahead.ensures.source (sees c.lookahead.ensures.rest a) c.if-begins_value.true) (c.several.ensures.reads w s a) }

pub returns : goal.returns
unfolding read_values
returns g c = record { reads = λ w s a. no _ (seen_in (λ x t. begins_value x t) c.begins_value.ensures c.lookahead.ensures.source (sees c.lookahead.ensures.rest a) c.if-begins_value.false) (gave a (later_same _) (c.new.ensures _)) }
