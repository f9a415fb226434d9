use Rattle.std.proofs.Common.{ap, suc, ◌∙◌, ◌||◌, arith}
use Rattle.ruby_tree.specs.Rules.{position, begins_statement}
use Rattle.ruby_tree.specs.FaultLine.{count_of}
use Rattle.reference_parser.specs.Fronts.{is_newline}
use Rattle.reference_parser.specs.ReadStatements.{read_stmts}
use Rattle.parse_state.specs.Gives.{gave}
use Rattle.parse_state.proofs.Steps.{and_then, failed, handed, named, later_same}
use Rattle.parse_state.proofs.Seen.{sees, seen_in}
use Rattle.parse_statements.proofs.StatementLoops.{statements_begun, statements_empty}
use Rattle.parse_statements.proofs.sequences.statements.Goals as goal

pub returns-in_err-parts : goal.returns-in_err-parts
unfolding read_stmts
returns-in_err-parts g c = record { reads = λ w s a. handed _ _ c.from_residual.ensures.1 (failed _ (c.in_err-parts.ensures.reads (suc (count_of w)) w s a (omega arith))) }

pub returns-then-begins_statements : goal.returns-then-begins_statements
unfolding read_stmts
returns-then-begins_statements g c = record {
  reads = λ w s a. and_then (c.in_ok-parts.ensures.reads (suc (count_of w)) w s a (omega arith)) (λ ts r z b h. gave b (later_same _) (statements_begun c.args.context.source.now w (seen_in (λ x t. is_newline t || begins_statement x t) c.begins_statements.ensures c.lookahead-lookahead.ensures.source (sees c.lookahead-lookahead.ensures.rest a) c.if-begins_statements.true) (c.position-here.ensures ∙ ap position (sees c.lookahead-lookahead.ensures.rest a)) (c.statements.ensures.made _ ts h)));
}

pub returns : goal.returns
returns g c = record {
  reads = λ w s a. named (statements_empty _ _ _ w s (seen_in (λ x t. is_newline t || begins_statement x t) c.begins_statements.ensures c.lookahead-lookahead.ensures.source (sees c.lookahead-lookahead.ensures.rest a) c.if-begins_statements.false)) (gave a (later_same _) (c.or_empty.ensures.made _ _ (c.none.ensures _)));
}
