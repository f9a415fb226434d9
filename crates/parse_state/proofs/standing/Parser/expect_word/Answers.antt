use Rattle.std.proofs.Common.{sym, ◌∙◌}
use Rattle.parse_state.proofs.Steps.{met_by, unmet_by}
use Rattle.parse_state.proofs.standing.Parser.expect_word.Goals as goal

pub returns-then-is_word : goal.returns-then-is_word
returns-then-is_word c = record { expects = λ w s a. met_by (sym (c.is_word.ensures w s a) ∙ c.if-is_word.true) (c.bump.ensures.at w s a) c.bump.ensures.later }

pub returns : goal.returns
returns c = record { expects = λ w s a. unmet_by (sym (c.is_word.ensures w s a) ∙ c.if-is_word.false) }
