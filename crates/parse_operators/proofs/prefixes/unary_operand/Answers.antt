use Rattle.std.proofs.Common.{sym, ◌∙◌}
use Rattle.reference_parser.specs.ReadLevels.{read_unary_operand}
use Rattle.parse_state.proofs.Steps.{yes, no}
use Rattle.parse_operators.proofs.prefixes.unary_operand.Goals as goal

pub returns-then-is_mark : goal.returns-then-is_mark
unfolding read_unary_operand
returns-then-is_mark g c = record { reads = λ w s a. yes _ (sym (c.is_mark.ensures w s a) ∙ c.if-is_mark.true) (c.before_unary_operand.ensures.reads w s a) }

pub returns-then-is_mark-2 : goal.returns-then-is_mark-2
unfolding read_unary_operand
returns-then-is_mark-2 g c = record { reads = λ w s a. no _ (sym (c.is_mark.ensures w s a) ∙ c.if-is_mark.false) (yes _ (sym (c.is_mark-2.ensures w s a) ∙ c.if-is_mark-2.true) (c.before_unary_operand-then-is_mark-2.ensures.reads w s a)) }

pub returns-then-is_mark-3 : goal.returns-then-is_mark-3
unfolding read_unary_operand
returns-then-is_mark-3 g c = record { reads = λ w s a. no _ (sym (c.is_mark.ensures w s a) ∙ c.if-is_mark.false) (no _ (sym (c.is_mark-2.ensures w s a) ∙ c.if-is_mark-2.false) (yes _ (sym (c.is_mark-3.ensures w s a) ∙ c.if-is_mark-3.true) (c.before_unary_operand-then-is_mark-3.ensures.reads w s a))) }

pub returns : goal.returns
unfolding read_unary_operand
returns g c = record { reads = λ w s a. no _ (sym (c.is_mark.ensures w s a) ∙ c.if-is_mark.false) (no _ (sym (c.is_mark-2.ensures w s a) ∙ c.if-is_mark-2.false) (no _ (sym (c.is_mark-3.ensures w s a) ∙ c.if-is_mark-3.false) (c.plain.ensures.reads w s a))) }
