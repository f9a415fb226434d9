use Rattle.ruby_tree.specs.Rules.{begins_statement}
use Rattle.parse_state.proofs.Seen.{sees, seen_in}
use Rattle.parse_state.proofs.Steps.{later_of}
use Rattle.parse_program.specs.Turn.{statement_line, stops}
use Rattle.parse_program.proofs.Moving.{moves_failed, moves_handed, moves_newline, moves_no, moves_then, moves_yes}
use Rattle.parse_program.proofs.turns.line.Goals as goal

pub returns-then-not-begins_statement : goal.returns-then-not-begins_statement
unfolding statement_line
returns-then-not-begins_statement g c = record { moves = λ w s a. moves_no _ (seen_in (λ x t. begins_statement x t) c.begins_statement.ensures c.lookahead.ensures.source (sees c.lookahead.ensures.rest a) c.if-not-begins_statement.true) stops }

pub returns-in_err-skip_statement : goal.returns-in_err-skip_statement
unfolding statement_line
returns-in_err-skip_statement g c = record { moves = λ w s a. moves_handed _ _ c.from_residual.ensures.1 (moves_yes _ (seen_in (λ x t. begins_statement x t) c.begins_statement.ensures c.lookahead.ensures.source (sees c.lookahead.ensures.rest a) c.if-not-begins_statement.false) (moves_failed _ (c.in_err-skip_statement.ensures.reads w s a))) }

pub returns : goal.returns
unfolding statement_line
returns g c = record {
  moves = λ w s a.
      let one = c.in_ok-skip_statement.ensures.reads w s a in
      moves_yes _ (seen_in (λ x t. begins_statement x t) c.begins_statement.ensures c.lookahead.ensures.source (sees c.lookahead.ensures.rest a) c.if-not-begins_statement.false) (moves_then _ one (λ t r z b. moves_newline b (later_of one).rest (c.expect_newline.ensures.expects r z b)));
}
