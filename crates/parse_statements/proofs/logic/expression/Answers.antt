use Rattle.std.proofs.Common.{ap, suc, ◌∙◌, arith}
use Rattle.ruby_tree.specs.Rules.{position}
use Rattle.ruby_tree.specs.FaultLine.{count_of}
use Rattle.reference_parser.specs.ReadStatements.{read_expr}
use Rattle.parse_state.proofs.Steps.{and_then, failed, handed}
use Rattle.parse_state.proofs.Seen.{sees}
use Rattle.parse_statements.proofs.logic.expression.Goals as goal

pub returns-in_err-first : goal.returns-in_err-first
unfolding read_expr
returns-in_err-first g c = record { reads = λ w s a. handed _ _ c.from_residual.ensures.1 (failed _ (c.in_err-first.ensures.reads w s a)) }

pub returns : goal.returns
unfolding read_expr
returns g c = record { reads = λ w s a. and_then (c.in_ok-first.ensures.reads w s a) (λ t r z b h. c.joined.ensures.reads w t (c.position-here.ensures ∙ ap position (sees c.lookahead.ensures.rest a)) h (suc (count_of r)) r z b (omega arith)) }
