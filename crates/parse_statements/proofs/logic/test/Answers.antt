use Rattle.std.proofs.Common.{sym, ap, ◌∙◌}
use Rattle.ruby_tree.specs.Rules.{position}
use Rattle.reference_parser.specs.ReadStatements.{read_test}
use Rattle.parse_state.specs.Gives.{gave}
use Rattle.parse_state.proofs.Steps.{from, and_then, failed, handed, wanting, yes, no, later_same}
use Rattle.parse_state.proofs.Seen.{sees}
use Rattle.parse_parts.proofs.Parts.{spot_held}
use Rattle.parse_statements.proofs.logic.test.Goals as goal

pub returns-in_err-part : goal.returns-in_err-part
unfolding read_test
returns-in_err-part g c = record { reads = λ w s a. handed _ _ c.from_residual.ensures.1 (yes _ (sym (c.is_word.ensures w s a) ∙ c.if-is_word.true) (from c.bump.ensures.later (failed _ (c.in_err-part.ensures.reads _ _ (c.bump.ensures.at w s a))))) }

pub returns-in_err-negated : goal.returns-in_err-negated
returns-in_err-negated g c = record { reads = λ w s a. wanting _ c.from_residual-in_err-negated.ensures.1 }

pub returns-then-is_word : goal.returns-then-is_word
unfolding read_test
returns-then-is_word g c = record {
  reads = λ w s a. yes _ (sym (c.is_word.ensures w s a) ∙ c.if-is_word.true) (from c.bump.ensures.later (and_then (c.in_ok-part.ensures.reads _ _ (c.bump.ensures.at w s a)) (λ t r z b h. gave b (later_same _) (spot_held (c.position-here.ensures ∙ ap position (sees c.lookahead.ensures.rest a)) (c.in_ok-negated.ensures.made _ t h)))));
}

pub returns : goal.returns
unfolding read_test
returns g c = record { reads = λ w s a. no _ (sym (c.is_word.ensures w s a) ∙ c.if-is_word.false) (c.assigned_value.ensures.reads w s a) }
