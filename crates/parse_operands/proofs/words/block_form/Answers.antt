use Rattle.std.proofs.Common.{sym, true, false, ◌∙◌}
use Rattle.reference_parser.specs.ReadOperands.{block_form_at}
use Rattle.parse_state.specs.Gives.{no_syntax}
use Rattle.parse_state.proofs.Steps.{yes, no}
use Rattle.parse_operands.proofs.words.block_form.Goals as goal

pub returns-then-is_word : goal.returns-then-is_word
unfolding block_form_at
returns-then-is_word g c = record { reads = λ w s a. yes _ (sym (c.is_word.ensures w s a) ∙ c.if-is_word.true) (c.begun.ensures.reads w s a) }

pub returns-then-is_word-2 : goal.returns-then-is_word-2
unfolding block_form_at
returns-then-is_word-2 g c = record { reads = λ w s a. no _ (sym (c.is_word.ensures w s a) ∙ c.if-is_word.false) (yes _ (sym (c.is_word-2.ensures w s a) ∙ c.if-is_word-2.true) (c.case.ensures.reads w s a)) }

pub returns-then-is_word-3 : goal.returns-then-is_word-3
unfolding block_form_at
returns-then-is_word-3 g c = record { reads = λ w s a. no _ (sym (c.is_word.ensures w s a) ∙ c.if-is_word.false) (no _ (sym (c.is_word-2.ensures w s a) ∙ c.if-is_word-2.false) (yes _ (sym (c.is_word-3.ensures w s a) ∙ c.if-is_word-3.true) (c.method_definition.ensures.reads w s a))) }

pub returns-then-is_word-4 : goal.returns-then-is_word-4
unfolding block_form_at
returns-then-is_word-4 g c = record { reads = λ w s a. no _ (sym (c.is_word.ensures w s a) ∙ c.if-is_word.false) (no _ (sym (c.is_word-2.ensures w s a) ∙ c.if-is_word-2.false) (no _ (sym (c.is_word-3.ensures w s a) ∙ c.if-is_word-3.false) (yes _ (sym (c.is_word-4.ensures w s a) ∙ c.if-is_word-4.true) (c.class_definition.ensures.reads w s a)))) }

pub returns-then-is_word-5 : goal.returns-then-is_word-5
unfolding block_form_at
returns-then-is_word-5 g c = record { reads = λ w s a. no _ (sym (c.is_word.ensures w s a) ∙ c.if-is_word.false) (no _ (sym (c.is_word-2.ensures w s a) ∙ c.if-is_word-2.false) (no _ (sym (c.is_word-3.ensures w s a) ∙ c.if-is_word-3.false) (no _ (sym (c.is_word-4.ensures w s a) ∙ c.if-is_word-4.false) (yes _ (sym (c.is_word-5.ensures w s a) ∙ c.if-is_word-5.true) (c.module_definition.ensures.reads w s a))))) }

pub returns : goal.returns
unfolding block_form_at
returns g c = record { reads = λ w s a. no _ (sym (c.is_word.ensures w s a) ∙ c.if-is_word.false) (no _ (sym (c.is_word-2.ensures w s a) ∙ c.if-is_word-2.false) (no _ (sym (c.is_word-3.ensures w s a) ∙ c.if-is_word-3.false) (no _ (sym (c.is_word-4.ensures w s a) ∙ c.if-is_word-4.false) (no _ (sym (c.is_word-5.ensures w s a) ∙ c.if-is_word-5.false) (no_syntax))))) }
