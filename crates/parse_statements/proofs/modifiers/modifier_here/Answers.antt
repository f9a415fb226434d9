use Rattle.std.proofs.Common.{refl, sym, ◌∙◌}
use Rattle.parse_state.proofs.Steps.{here}
use Rattle.parse_statements.proofs.StatementLoops.{is_yes, is_no, modifier_some}
use Rattle.parse_statements.proofs.modifiers.modifier_here.Goals as goal

pub returns-then-is_word : goal.returns-then-is_word
returns-then-is_word c = record {
  is = λ w s a. is_yes _ (sym (c.is_word.ensures w s a) ∙ c.if-is_word.true);
  some = λ k is. modifier_some c.args.context.source.now c.args.parser.now.rest.now k (sym (is_yes _ (sym (c.is_word.ensures _ _ (here _)) ∙ c.if-is_word.true)) ∙ is);
}

pub returns-then-is_word-2 : goal.returns-then-is_word-2
returns-then-is_word-2 c = record {
  is = λ w s a. is_no _ (sym (c.is_word.ensures w s a) ∙ c.if-is_word.false) (is_yes _ (sym (c.is_word-2.ensures w s a) ∙ c.if-is_word-2.true));
  some = λ k is. modifier_some c.args.context.source.now c.args.parser.now.rest.now k (sym (is_no _ (sym (c.is_word.ensures _ _ (here _)) ∙ c.if-is_word.false) (is_yes _ (sym (c.is_word-2.ensures _ _ (here _)) ∙ c.if-is_word-2.true))) ∙ is);
}

pub returns-then-is_word-3 : goal.returns-then-is_word-3
returns-then-is_word-3 c = record {
  is = λ w s a. is_no _ (sym (c.is_word.ensures w s a) ∙ c.if-is_word.false) (is_no _ (sym (c.is_word-2.ensures w s a) ∙ c.if-is_word-2.false) (is_yes _ (sym (c.is_word-3.ensures w s a) ∙ c.if-is_word-3.true)));
  some = λ k is. modifier_some c.args.context.source.now c.args.parser.now.rest.now k (sym (is_no _ (sym (c.is_word.ensures _ _ (here _)) ∙ c.if-is_word.false) (is_no _ (sym (c.is_word-2.ensures _ _ (here _)) ∙ c.if-is_word-2.false) (is_yes _ (sym (c.is_word-3.ensures _ _ (here _)) ∙ c.if-is_word-3.true)))) ∙ is);
}

pub returns-then-is_word-4 : goal.returns-then-is_word-4
returns-then-is_word-4 c = record {
  is = λ w s a. is_no _ (sym (c.is_word.ensures w s a) ∙ c.if-is_word.false) (is_no _ (sym (c.is_word-2.ensures w s a) ∙ c.if-is_word-2.false) (is_no _ (sym (c.is_word-3.ensures w s a) ∙ c.if-is_word-3.false) (is_yes _ (sym (c.is_word-4.ensures w s a) ∙ c.if-is_word-4.true))));
  some = λ k is. modifier_some c.args.context.source.now c.args.parser.now.rest.now k (sym (is_no _ (sym (c.is_word.ensures _ _ (here _)) ∙ c.if-is_word.false) (is_no _ (sym (c.is_word-2.ensures _ _ (here _)) ∙ c.if-is_word-2.false) (is_no _ (sym (c.is_word-3.ensures _ _ (here _)) ∙ c.if-is_word-3.false) (is_yes _ (sym (c.is_word-4.ensures _ _ (here _)) ∙ c.if-is_word-4.true))))) ∙ is);
}

pub returns-then-is_word-5 : goal.returns-then-is_word-5
returns-then-is_word-5 c = record {
  is = λ w s a. is_no _ (sym (c.is_word.ensures w s a) ∙ c.if-is_word.false) (is_no _ (sym (c.is_word-2.ensures w s a) ∙ c.if-is_word-2.false) (is_no _ (sym (c.is_word-3.ensures w s a) ∙ c.if-is_word-3.false) (is_no _ (sym (c.is_word-4.ensures w s a) ∙ c.if-is_word-4.false) (is_yes _ (sym (c.is_word-5.ensures w s a) ∙ c.if-is_word-5.true)))));
  some = λ k is. modifier_some c.args.context.source.now c.args.parser.now.rest.now k (sym (is_no _ (sym (c.is_word.ensures _ _ (here _)) ∙ c.if-is_word.false) (is_no _ (sym (c.is_word-2.ensures _ _ (here _)) ∙ c.if-is_word-2.false) (is_no _ (sym (c.is_word-3.ensures _ _ (here _)) ∙ c.if-is_word-3.false) (is_no _ (sym (c.is_word-4.ensures _ _ (here _)) ∙ c.if-is_word-4.false) (is_yes _ (sym (c.is_word-5.ensures _ _ (here _)) ∙ c.if-is_word-5.true)))))) ∙ is);
}

pub returns-clause-is : goal.returns-clause-is
returns-clause-is c = λ w s a. is_no _ (sym (c.is_word.ensures w s a) ∙ c.if-is_word.false) (is_no _ (sym (c.is_word-2.ensures w s a) ∙ c.if-is_word-2.false) (is_no _ (sym (c.is_word-3.ensures w s a) ∙ c.if-is_word-3.false) (is_no _ (sym (c.is_word-4.ensures w s a) ∙ c.if-is_word-4.false) (is_no _ (sym (c.is_word-5.ensures w s a) ∙ c.if-is_word-5.false) refl))))
