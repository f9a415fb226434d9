use Rattle.std.proofs.Common.{sym, ap, ◌∙◌}
use Rattle.ruby_tree.specs.Rules.{position}
use Rattle.reference_parser.specs.ReadStatements.{read_unset}
use Rattle.parse_state.proofs.Steps.{yes, no, and_then, failed, handed}
use Rattle.parse_state.proofs.Seen.{sees}
use Rattle.parse_statements.proofs.arguments.unset.Goals as goal

pub returns-in_err-part : goal.returns-in_err-part
unfolding read_unset
returns-in_err-part g c = record { reads = λ w s a. handed _ _ c.from_residual.ensures.1 (yes _ (sym (c.begins_operator.ensures w s a) ∙ c.if-begins_operator.true) (failed _ (c.in_err-part.ensures.reads w s a))) }

pub returns-then-begins_operator : goal.returns-then-begins_operator
unfolding read_unset
returns-then-begins_operator g c = record { reads = λ w s a. yes _ (sym (c.begins_operator.ensures w s a) ∙ c.if-begins_operator.true) (and_then (c.in_ok-part.ensures.reads w s a) (λ t r z b h. c.unassigned.ensures.reads (g.N.Nested.readers c.args.nested.now c.args.context.source.now) t h r z b)) }

pub returns-in_err-start : goal.returns-in_err-start
unfolding read_unset
returns-in_err-start g c = record { reads = λ w s a. handed _ _ c.from_residual-in_err-start.ensures.1 (no _ (sym (c.begins_operator.ensures w s a) ∙ c.if-begins_operator.false) (failed _ (c.in_err-start.ensures.reads w s a))) }

pub returns : goal.returns
unfolding read_unset
returns g c = record { reads = λ w s a. no _ (sym (c.begins_operator.ensures w s a) ∙ c.if-begins_operator.false) (and_then (c.in_ok-start.ensures.reads w s a) (λ t r z b h. c.behind_start.ensures.reads w t (c.position-here.ensures ∙ ap position (sees c.lookahead.ensures.rest a)) h r z b)) }
