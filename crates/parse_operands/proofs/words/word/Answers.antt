use Rattle.std.proofs.Common.{sym, true, false, ◌∙◌}
use Rattle.reference_parser.specs.ReadOperands.{read_word}
use Rattle.parse_state.proofs.Steps.{yes, no}
use Rattle.parse_state.proofs.Tools.{at_spot}
use Rattle.parse_operands.proofs.words.word.Goals as goal

pub returns-then-is_word : goal.returns-then-is_word
unfolding read_word
returns-then-is_word g c = record { reads = λ w s a. yes _ (sym (c.is_word.ensures w s a) ∙ c.if-is_word.true) (c.leaf.ensures.gives _ w s (at_spot (c.position_here-here.ensures _ _ a) (c.nil_value.ensures.made _)) a) }

pub returns-then-is_word-2 : goal.returns-then-is_word-2
unfolding read_word
returns-then-is_word-2 g c = record { reads = λ w s a. no _ (sym (c.is_word.ensures w s a) ∙ c.if-is_word.false) (yes _ (sym (c.is_word-2.ensures w s a) ∙ c.if-is_word-2.true) (c.leaf-then-is_word-2.ensures.gives _ w s (at_spot (c.position_here-here.ensures _ _ a) (c.true_value.ensures.made _)) a)) }

pub returns-then-is_word-3 : goal.returns-then-is_word-3
unfolding read_word
returns-then-is_word-3 g c = record { reads = λ w s a. no _ (sym (c.is_word.ensures w s a) ∙ c.if-is_word.false) (no _ (sym (c.is_word-2.ensures w s a) ∙ c.if-is_word-2.false) (yes _ (sym (c.is_word-3.ensures w s a) ∙ c.if-is_word-3.true) (c.leaf-then-is_word-3.ensures.gives _ w s (at_spot (c.position_here-here.ensures _ _ a) (c.false_value.ensures.made _)) a))) }

pub returns-then-is_word-4 : goal.returns-then-is_word-4
unfolding read_word
returns-then-is_word-4 g c = record { reads = λ w s a. no _ (sym (c.is_word.ensures w s a) ∙ c.if-is_word.false) (no _ (sym (c.is_word-2.ensures w s a) ∙ c.if-is_word-2.false) (no _ (sym (c.is_word-3.ensures w s a) ∙ c.if-is_word-3.false) (yes _ (sym (c.is_word-4.ensures w s a) ∙ c.if-is_word-4.true) (c.leaf-then-is_word-4.ensures.gives _ w s (at_spot (c.position_here-here.ensures _ _ a) (c.self_value.ensures.made _)) a)))) }

pub returns-then-is_word-5 : goal.returns-then-is_word-5
unfolding read_word
returns-then-is_word-5 g c = record { reads = λ w s a. no _ (sym (c.is_word.ensures w s a) ∙ c.if-is_word.false) (no _ (sym (c.is_word-2.ensures w s a) ∙ c.if-is_word-2.false) (no _ (sym (c.is_word-3.ensures w s a) ∙ c.if-is_word-3.false) (no _ (sym (c.is_word-4.ensures w s a) ∙ c.if-is_word-4.false) (yes _ (sym (c.is_word-5.ensures w s a) ∙ c.if-is_word-5.true) (c.leaf-then-is_word-5.ensures.gives _ w s (at_spot (c.position_here-here.ensures _ _ a) (c.file_name.ensures.made _)) a))))) }

pub returns-then-is_word-6 : goal.returns-then-is_word-6
unfolding read_word
returns-then-is_word-6 g c = record { reads = λ w s a. no _ (sym (c.is_word.ensures w s a) ∙ c.if-is_word.false) (no _ (sym (c.is_word-2.ensures w s a) ∙ c.if-is_word-2.false) (no _ (sym (c.is_word-3.ensures w s a) ∙ c.if-is_word-3.false) (no _ (sym (c.is_word-4.ensures w s a) ∙ c.if-is_word-4.false) (no _ (sym (c.is_word-5.ensures w s a) ∙ c.if-is_word-5.false) (yes _ (sym (c.is_word-6.ensures w s a) ∙ c.if-is_word-6.true) (c.leaf-then-is_word-6.ensures.gives _ w s (at_spot (c.position_here-here.ensures _ _ a) (c.folder_name.ensures.made _)) a)))))) }

pub returns-then-is_word-7 : goal.returns-then-is_word-7
unfolding read_word
returns-then-is_word-7 g c = record { reads = λ w s a. no _ (sym (c.is_word.ensures w s a) ∙ c.if-is_word.false) (no _ (sym (c.is_word-2.ensures w s a) ∙ c.if-is_word-2.false) (no _ (sym (c.is_word-3.ensures w s a) ∙ c.if-is_word-3.false) (no _ (sym (c.is_word-4.ensures w s a) ∙ c.if-is_word-4.false) (no _ (sym (c.is_word-5.ensures w s a) ∙ c.if-is_word-5.false) (no _ (sym (c.is_word-6.ensures w s a) ∙ c.if-is_word-6.false) (yes _ (sym (c.is_word-7.ensures w s a) ∙ c.if-is_word-7.true) (c.leaf-then-is_word-7.ensures.gives _ w s (at_spot (c.position_here-here.ensures _ _ a) (c.line_number.ensures.made _)) a))))))) }

pub returns-then-is_word-8 : goal.returns-then-is_word-8
unfolding read_word
returns-then-is_word-8 g c = record { reads = λ w s a. no _ (sym (c.is_word.ensures w s a) ∙ c.if-is_word.false) (no _ (sym (c.is_word-2.ensures w s a) ∙ c.if-is_word-2.false) (no _ (sym (c.is_word-3.ensures w s a) ∙ c.if-is_word-3.false) (no _ (sym (c.is_word-4.ensures w s a) ∙ c.if-is_word-4.false) (no _ (sym (c.is_word-5.ensures w s a) ∙ c.if-is_word-5.false) (no _ (sym (c.is_word-6.ensures w s a) ∙ c.if-is_word-6.false) (no _ (sym (c.is_word-7.ensures w s a) ∙ c.if-is_word-7.false) (yes _ (sym (c.is_word-8.ensures w s a) ∙ c.if-is_word-8.true) (c.leaf-then-is_word-8.ensures.gives _ w s (at_spot (c.position_here-here.ensures _ _ a) (c.retry.ensures.made _)) a)))))))) }

pub returns : goal.returns
unfolding read_word
returns g c = record { reads = λ w s a. no _ (sym (c.is_word.ensures w s a) ∙ c.if-is_word.false) (no _ (sym (c.is_word-2.ensures w s a) ∙ c.if-is_word-2.false) (no _ (sym (c.is_word-3.ensures w s a) ∙ c.if-is_word-3.false) (no _ (sym (c.is_word-4.ensures w s a) ∙ c.if-is_word-4.false) (no _ (sym (c.is_word-5.ensures w s a) ∙ c.if-is_word-5.false) (no _ (sym (c.is_word-6.ensures w s a) ∙ c.if-is_word-6.false) (no _ (sym (c.is_word-7.ensures w s a) ∙ c.if-is_word-7.false) (no _ (sym (c.is_word-8.ensures w s a) ∙ c.if-is_word-8.false) (c.form.ensures.reads w s a)))))))) }
