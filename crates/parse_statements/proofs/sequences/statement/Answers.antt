use Rattle.std.proofs.Common.{ap, ap, suc, ◌∙◌, ◌&&◌, Bool, arith}
use Rattle.ruby_tree.specs.Rules.{position}
use Rattle.ruby_tree.specs.Build.{is_body}
use Rattle.ruby_tree.specs.FaultLine.{count_of}
use Rattle.reference_parser.specs.ReadStatements.{read_stmt}
use Rattle.parse_state.proofs.Steps.{and_then, failed, handed}
use Rattle.parse_state.proofs.Seen.{sees}
use Rattle.parse_statements.proofs.sequences.statement.Goals as goal

pub returns-in_err-part : goal.returns-in_err-part
unfolding read_stmt
returns-in_err-part g c = record { reads = λ w s a. handed _ _ c.from_residual.ensures.1 (failed _ (c.in_err-part.ensures.reads w s a)) }

pub returns : goal.returns
unfolding read_stmt
returns g c = record {
  reads = λ w s a. and_then (c.in_ok-part.ensures.reads w s a) (λ t r z b h. c.modified.ensures.reads w _ t (c.position-here.ensures ∙ ap position (sees c.lookahead.ensures.rest a)) (λ small. c.is_begun-is_body.ensures _ t h small ∙ ap (λ (x : Bool). x && is_body t) (c.is_word-begins.ensures w s a)) h (suc (count_of r)) r z b (omega arith));
}
