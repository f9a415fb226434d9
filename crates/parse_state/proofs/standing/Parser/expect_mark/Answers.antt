use Rattle.std.proofs.Common.{sym, ◌∙◌}
use Rattle.parse_state.proofs.Steps.{met_by, unmet_by}
use Rattle.parse_state.proofs.standing.Parser.expect_mark.Goals as goal

pub returns-then-is_mark : goal.returns-then-is_mark
returns-then-is_mark c = record { expects = λ w s a. met_by (sym (c.is_mark.ensures w s a) ∙ c.if-is_mark.true) (c.bump.ensures.at w s a) c.bump.ensures.later }

pub returns : goal.returns
returns c = record { expects = λ w s a. unmet_by (sym (c.is_mark.ensures w s a) ∙ c.if-is_mark.false) }
