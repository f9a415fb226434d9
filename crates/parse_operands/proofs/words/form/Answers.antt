use Rattle.std.proofs.Common.{sym, true, false, ◌∙◌}
use Rattle.reference_parser.specs.ReadOperands.{choice, read_form}
use Rattle.parse_state.proofs.Steps.{yes, no}
use Rattle.parse_operands.proofs.words.form.Goals as goal

pub returns-then-is_word : goal.returns-then-is_word
unfolding read_form
returns-then-is_word g c = record { reads = λ w s a. yes _ (sym (c.is_word.ensures w s a) ∙ c.if-is_word.true) (c.yielded.ensures.reads w s a) }

pub returns-then-is_word-2 : goal.returns-then-is_word-2
unfolding read_form
returns-then-is_word-2 g c = record { reads = λ w s a. no _ (sym (c.is_word.ensures w s a) ∙ c.if-is_word.false) (yes _ (sym (c.is_word-2.ensures w s a) ∙ c.if-is_word-2.true) (c.super_call.ensures.reads w s a)) }

pub returns-then-is_word-3 : goal.returns-then-is_word-3
unfolding read_form
returns-then-is_word-3 g c = record { reads = λ w s a. no _ (sym (c.is_word.ensures w s a) ∙ c.if-is_word.false) (no _ (sym (c.is_word-2.ensures w s a) ∙ c.if-is_word-2.false) (yes _ (sym (c.is_word-3.ensures w s a) ∙ c.if-is_word-3.true) (c.choice.ensures.reads w s a))) }

pub returns-then-is_word-4 : goal.returns-then-is_word-4
unfolding read_form
returns-then-is_word-4 g c = record { reads = λ w s a. no _ (sym (c.is_word.ensures w s a) ∙ c.if-is_word.false) (no _ (sym (c.is_word-2.ensures w s a) ∙ c.if-is_word-2.false) (no _ (sym (c.is_word-3.ensures w s a) ∙ c.if-is_word-3.false) (yes _ (sym (c.is_word-4.ensures w s a) ∙ c.if-is_word-4.true) (c.choice-then-is_word-4.ensures.reads w s a)))) }

pub returns-then-is_word-5 : goal.returns-then-is_word-5
unfolding read_form
returns-then-is_word-5 g c = record { reads = λ w s a. no _ (sym (c.is_word.ensures w s a) ∙ c.if-is_word.false) (no _ (sym (c.is_word-2.ensures w s a) ∙ c.if-is_word-2.false) (no _ (sym (c.is_word-3.ensures w s a) ∙ c.if-is_word-3.false) (no _ (sym (c.is_word-4.ensures w s a) ∙ c.if-is_word-4.false) (yes _ (sym (c.is_word-5.ensures w s a) ∙ c.if-is_word-5.true) (c.looped.ensures.reads w s a))))) }

pub returns-then-is_word-6 : goal.returns-then-is_word-6
unfolding read_form
returns-then-is_word-6 g c = record { reads = λ w s a. no _ (sym (c.is_word.ensures w s a) ∙ c.if-is_word.false) (no _ (sym (c.is_word-2.ensures w s a) ∙ c.if-is_word-2.false) (no _ (sym (c.is_word-3.ensures w s a) ∙ c.if-is_word-3.false) (no _ (sym (c.is_word-4.ensures w s a) ∙ c.if-is_word-4.false) (no _ (sym (c.is_word-5.ensures w s a) ∙ c.if-is_word-5.false) (yes _ (sym (c.is_word-6.ensures w s a) ∙ c.if-is_word-6.true) (c.looped-then-is_word-6.ensures.reads w s a)))))) }

pub returns : goal.returns
unfolding read_form
returns g c = record { reads = λ w s a. no _ (sym (c.is_word.ensures w s a) ∙ c.if-is_word.false) (no _ (sym (c.is_word-2.ensures w s a) ∙ c.if-is_word-2.false) (no _ (sym (c.is_word-3.ensures w s a) ∙ c.if-is_word-3.false) (no _ (sym (c.is_word-4.ensures w s a) ∙ c.if-is_word-4.false) (no _ (sym (c.is_word-5.ensures w s a) ∙ c.if-is_word-5.false) (no _ (sym (c.is_word-6.ensures w s a) ∙ c.if-is_word-6.false) (c.block_form.ensures.reads w s a)))))) }
