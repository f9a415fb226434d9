use Rattle.ruby_tree.specs.Rules.{begins_arg}
use Rattle.reference_parser.specs.ReadItems.{read_classes}
use Rattle.parse_state.specs.Gives.{gave}
use Rattle.parse_state.proofs.Steps.{yes, no, later_same}
use Rattle.parse_state.proofs.Seen.{sees, seen_in}
use Rattle.parse_parts.proofs.rows.classes.Goals as goal

pub returns-then-begins_arg : goal.returns-then-begins_arg
unfolding read_classes
returns-then-begins_arg g c = record { reads = λ w s a. yes _ (seen_in (λ x t. begins_arg x t) c.begins_arg.ensures c.lookahead.ensures.source (sees c.lookahead.ensures.rest a) c.if-begins_arg.true) (c.several.ensures.reads w s a) }

pub returns : goal.returns
unfolding read_classes
returns g c = record { reads = λ w s a. no _ (seen_in (λ x t. begins_arg x t) c.begins_arg.ensures c.lookahead.ensures.source (sees c.lookahead.ensures.rest a) c.if-begins_arg.false) (gave a (later_same _) (c.new.ensures _)) }
