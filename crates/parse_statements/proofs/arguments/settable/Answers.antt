use Rattle.ruby_tree.specs.Rules.{sets}
use Rattle.reference_parser.specs.ReadStatements.{read_settable}
use Rattle.parse_state.proofs.Steps.{yes, no}
use Rattle.parse_state.proofs.Seen.{sees, seen_in}
use Rattle.parse_statements.proofs.arguments.settable.Goals as goal

pub returns-then-sets : goal.returns-then-sets
unfolding read_settable
returns-then-sets g c = record { reads = λ w s a. yes _ (seen_in (λ x t. sets x t) c.sets.ensures c.lookahead.ensures.source (sees c.lookahead.ensures.rest a) c.if-sets.true) (c.variable.ensures.reads w s a) }

pub returns : goal.returns
unfolding read_settable
returns g c = record { reads = λ w s a. no _ (seen_in (λ x t. sets x t) c.sets.ensures c.lookahead.ensures.source (sees c.lookahead.ensures.rest a) c.if-sets.false) (c.unset.ensures.reads w s a) }
