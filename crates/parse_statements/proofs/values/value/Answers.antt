use Rattle.std.proofs.Common.{sym, ap, ◌∙◌}
use Rattle.ruby_tree.specs.Rules.{position}
use Rattle.reference_parser.specs.ReadStatements.{read_value}
use Rattle.parse_state.specs.Gives.{gave}
use Rattle.parse_state.proofs.Steps.{and_then, failed, handed, later_same, yes, no}
use Rattle.parse_state.proofs.Seen.{sees}
use Rattle.parse_statements.proofs.values.value.Goals as goal

pub returns-in_err-tried : goal.returns-in_err-tried
unfolding read_value
returns-in_err-tried g c = record { reads = λ w s a. handed _ _ c.from_residual.ensures.1 (failed _ (c.in_err-tried.ensures.reads w s a)) }

pub returns-then-is_word : goal.returns-then-is_word
unfolding read_value
returns-then-is_word g c = record { reads = λ w s a. and_then (c.in_ok-tried.ensures.reads w s a) (λ t q y b h. yes _ (sym (c.is_word.ensures q y b) ∙ c.if-is_word.true) (c.saved.ensures.reads w t (c.position-here.ensures ∙ ap (λ v. position v) (sees c.lookahead.ensures.rest a)) h q y b)) }

pub returns : goal.returns
unfolding read_value
returns g c = record { reads = λ w s a. and_then (c.in_ok-tried.ensures.reads w s a) (λ t q y b h. no _ (sym (c.is_word.ensures q y b) ∙ c.if-is_word.false) (gave b (later_same _) h)) }
