use Rattle.std.proofs.Common.{sym, true, false, ◌∙◌}
use Rattle.reference_parser.specs.ReadItems.{Readers}
use Rattle.reference_parser.specs.ReadOperands.{read_mark}
use Rattle.parse_state.specs.Gives.{no_syntax}
use Rattle.parse_state.proofs.Steps.{yes, no}
use Rattle.parse_operands.proofs.marks.mark.Goals as goal

pub returns-then-is_mark : goal.returns-then-is_mark
unfolding read_mark
returns-then-is_mark g c = record { reads = λ w s a. yes _ (sym (c.is_mark.ensures w s a) ∙ c.if-is_mark.true) (c.list.ensures.reads w s a) }

pub returns-then-is_mark-2 : goal.returns-then-is_mark-2
unfolding read_mark
returns-then-is_mark-2 g c = record { reads = λ w s a. no _ (sym (c.is_mark.ensures w s a) ∙ c.if-is_mark.false) (yes _ (sym (c.is_mark-2.ensures w s a) ∙ c.if-is_mark-2.true) (c.braces.ensures.reads w s a)) }

pub returns-then-is_mark-3 : goal.returns-then-is_mark-3
unfolding read_mark
returns-then-is_mark-3 g c = record { reads = λ w s a. no _ (sym (c.is_mark.ensures w s a) ∙ c.if-is_mark.false) (no _ (sym (c.is_mark-2.ensures w s a) ∙ c.if-is_mark-2.false) (yes _ (sym (c.is_mark-3.ensures w s a) ∙ c.if-is_mark-3.true) (c.group.ensures.reads w s a))) }

pub returns-then-constant_behind : goal.returns-then-constant_behind
unfolding read_mark
returns-then-constant_behind g c = record { reads = λ w s a. no _ (sym (c.is_mark.ensures w s a) ∙ c.if-is_mark.false) (no _ (sym (c.is_mark-2.ensures w s a) ∙ c.if-is_mark-2.false) (no _ (sym (c.is_mark-3.ensures w s a) ∙ c.if-is_mark-3.false) (yes _ (sym (c.is_mark-4.ensures w s a) ∙ c.if-is_mark-4.true) (yes _ (sym (c.constant_behind.ensures w s a) ∙ c.if-constant_behind.true) (c.top_constant.ensures.reads w s a))))) }

pub returns-then-is_mark-4 : goal.returns-then-is_mark-4
unfolding read_mark
returns-then-is_mark-4 g c = record { reads = λ w s a. no _ (sym (c.is_mark.ensures w s a) ∙ c.if-is_mark.false) (no _ (sym (c.is_mark-2.ensures w s a) ∙ c.if-is_mark-2.false) (no _ (sym (c.is_mark-3.ensures w s a) ∙ c.if-is_mark-3.false) (yes _ (sym (c.is_mark-4.ensures w s a) ∙ c.if-is_mark-4.true) (no _ (sym (c.constant_behind.ensures w s a) ∙ c.if-constant_behind.false) no_syntax)))) }

pub returns-then-negative_here : goal.returns-then-negative_here
unfolding read_mark
returns-then-negative_here g c = record { reads = λ w s a. let Q : Readers = g.N.Nested.readers c.args.nested.now c.args.context.source.now in no _ (sym (c.is_mark.ensures w s a) ∙ c.if-is_mark.false) (no _ (sym (c.is_mark-2.ensures w s a) ∙ c.if-is_mark-2.false) (no _ (sym (c.is_mark-3.ensures w s a) ∙ c.if-is_mark-3.false) (no _ (sym (c.is_mark-4.ensures w s a) ∙ c.if-is_mark-4.false) (yes _ (sym (c.negative_here.ensures w s a) ∙ c.if-negative_here.true) (c.negative.ensures.reads Q w s a))))) }

pub returns : goal.returns
unfolding read_mark
returns g c = record { reads = λ w s a. no _ (sym (c.is_mark.ensures w s a) ∙ c.if-is_mark.false) (no _ (sym (c.is_mark-2.ensures w s a) ∙ c.if-is_mark-2.false) (no _ (sym (c.is_mark-3.ensures w s a) ∙ c.if-is_mark-3.false) (no _ (sym (c.is_mark-4.ensures w s a) ∙ c.if-is_mark-4.false) (no _ (sym (c.negative_here.ensures w s a) ∙ c.if-negative_here.false) no_syntax)))) }
