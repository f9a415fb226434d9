use Rattle.std.proofs.Common.{sym, ◌∙◌}
use Rattle.reference_parser.specs.ReadItems.{closed}
use Rattle.parse_state.proofs.Steps.{yes, no, from, closes}
use Rattle.parse_state.proofs.standing.Parser.expect_closing.Goals as goal

pub returns-then-is_mark : goal.returns-then-is_mark
unfolding closed
returns-then-is_mark c = record { reads = λ w s a. yes _ (sym (c.is_mark.ensures w s a) ∙ c.if-is_mark.true) (from c.bump.ensures.later (closes (c.expect_mark.ensures.expects _ _ (c.bump.ensures.at w s a)))) }

pub returns : goal.returns
unfolding closed
returns c = record { reads = λ w s a. no _ (sym (c.is_mark.ensures w s a) ∙ c.if-is_mark.false) (closes (c.expect_mark-2.ensures.expects w s a)) }
