use Rattle.ruby_tree.specs.Rules.{assigns}
use Rattle.reference_parser.specs.ReadStatements.{unassigned}
use Rattle.parse_state.specs.Gives.{gave, no_syntax}
use Rattle.parse_state.proofs.Steps.{later_same, yes, no}
use Rattle.parse_state.proofs.Seen.{sees, seen_in}
use Rattle.parse_statements.proofs.arguments.unassigned.Goals as goal

pub returns-then-assigns : goal.returns-then-assigns
unfolding unassigned
returns-then-assigns c = record { reads = λ R t h w s a. yes _ (seen_in (λ x u. assigns x u) c.assigns.ensures c.lookahead.ensures.source (sees c.lookahead.ensures.rest a) c.if-assigns.true) no_syntax }

pub returns : goal.returns
unfolding unassigned
returns c = record { reads = λ R t h w s a. no _ (seen_in (λ x u. assigns x u) c.assigns.ensures c.lookahead.ensures.source (sees c.lookahead.ensures.rest a) c.if-assigns.false) (gave a (later_same _) h) }
