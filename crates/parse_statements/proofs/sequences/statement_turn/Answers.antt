use Rattle.ruby_tree.specs.Rules.{begins_statement}
use Rattle.reference_parser.specs.Fronts.{is_newline}
use Rattle.tree_builder.proofs.GoesOn.{all_later}
use Rattle.parse_state.proofs.Steps.{later_same}
use Rattle.parse_state.proofs.Seen.{sees, seen, seen_in}
use Rattle.parse_parts.specs.Turns.{goes_on, ends}
use Rattle.parse_parts.proofs.Turning.{turn_yes, turn_no}
use Rattle.parse_statements.specs.Statements.{statement_turn}
use Rattle.parse_statements.proofs.StatementLoops.{bumped_newline}
use Rattle.parse_statements.proofs.sequences.statement_turn.Goals as goal

pub returns-then-is_newline : goal.returns-then-is_newline
unfolding statement_turn
returns-then-is_newline g c = record {
  turns = λ w s ts k a h.
      let line = seen (λ v. is_newline v) c.is_newline.ensures (sees c.lookahead-lookahead.ensures.rest a) c.if-is_newline.true in
      turn_yes _ line (goes_on (c.bump.ensures.at w s a) c.bump.ensures.later (bumped_newline a line c.bump.ensures.rest) (all_later _ _ c.bump.ensures.later.names _ _ h));
}

pub returns-then-begins_statement : goal.returns-then-begins_statement
unfolding statement_turn
returns-then-begins_statement g c = record {
  turns = λ w s ts k a h. turn_no _ (seen (λ v. is_newline v) c.is_newline.ensures (sees c.lookahead-lookahead.ensures.rest a) c.if-is_newline.false) (turn_yes _ (seen_in (λ x v. begins_statement x v) c.begins_statement.ensures c.lookahead-lookahead.ensures.source (sees c.lookahead-lookahead.ensures.rest a) c.if-begins_statement.true) (c.gathered_turn.ensures.turns w s ts k a h));
}

pub returns : goal.returns
unfolding statement_turn
returns g c = record {
  turns = λ w s ts k a h. turn_no _ (seen (λ v. is_newline v) c.is_newline.ensures (sees c.lookahead-lookahead.ensures.rest a) c.if-is_newline.false) (turn_no _ (seen_in (λ x v. begins_statement x v) c.begins_statement.ensures c.lookahead-lookahead.ensures.source (sees c.lookahead-lookahead.ensures.rest a) c.if-begins_statement.false) (ends a (later_same _) h));
}
