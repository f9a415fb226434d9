use Rattle.std.proofs.Common.{sym, ◌∙◌}
use Rattle.reference_parser.specs.Fronts.{is_name}
use Rattle.reference_parser.specs.ReadStatements.{read_command}
use Rattle.parse_state.proofs.Steps.{yes, no}
use Rattle.parse_state.proofs.Seen.{sees, seen}
use Rattle.parse_statements.proofs.commands.command.Goals as goal

pub returns-then-is_name : goal.returns-then-is_name
unfolding read_command
returns-then-is_name g c = record { reads = λ w s a. yes _ (seen (λ t. is_name t) c.is_name.ensures (sees c.lookahead.ensures.rest a) c.if-is_name.true) (c.named_command.ensures.reads w s a) }

pub returns-then-is_word : goal.returns-then-is_word
unfolding read_command
returns-then-is_word g c = record { reads = λ w s a. no _ (seen (λ t. is_name t) c.is_name.ensures (sees c.lookahead.ensures.rest a) c.if-is_name.false) (yes _ (sym (c.is_word.ensures w s a) ∙ c.if-is_word.true) (c.yield_command.ensures.reads w s a)) }

pub returns-then-is_word-2 : goal.returns-then-is_word-2
unfolding read_command
returns-then-is_word-2 g c = record { reads = λ w s a. no _ (seen (λ t. is_name t) c.is_name.ensures (sees c.lookahead.ensures.rest a) c.if-is_name.false) (no _ (sym (c.is_word.ensures w s a) ∙ c.if-is_word.false) (yes _ (sym (c.is_word-2.ensures w s a) ∙ c.if-is_word-2.true) (c.super_command.ensures.reads w s a))) }

pub returns-then-is_word-3 : goal.returns-then-is_word-3
unfolding read_command
returns-then-is_word-3 g c = record { reads = λ w s a. no _ (seen (λ t. is_name t) c.is_name.ensures (sees c.lookahead.ensures.rest a) c.if-is_name.false) (no _ (sym (c.is_word.ensures w s a) ∙ c.if-is_word.false) (no _ (sym (c.is_word-2.ensures w s a) ∙ c.if-is_word-2.false) (yes _ (sym (c.is_word-3.ensures w s a) ∙ c.if-is_word-3.true) (c.leaving_command.ensures.reads w s a)))) }

pub returns-then-is_word-4 : goal.returns-then-is_word-4
unfolding read_command
returns-then-is_word-4 g c = record { reads = λ w s a. no _ (seen (λ t. is_name t) c.is_name.ensures (sees c.lookahead.ensures.rest a) c.if-is_name.false) (no _ (sym (c.is_word.ensures w s a) ∙ c.if-is_word.false) (no _ (sym (c.is_word-2.ensures w s a) ∙ c.if-is_word-2.false) (no _ (sym (c.is_word-3.ensures w s a) ∙ c.if-is_word-3.false) (yes _ (sym (c.is_word-4.ensures w s a) ∙ c.if-is_word-4.true) (c.leaving_command-then-is_word-4.ensures.reads w s a))))) }

pub returns : goal.returns
unfolding read_command
returns g c = record { reads = λ w s a. no _ (seen (λ t. is_name t) c.is_name.ensures (sees c.lookahead.ensures.rest a) c.if-is_name.false) (no _ (sym (c.is_word.ensures w s a) ∙ c.if-is_word.false) (no _ (sym (c.is_word-2.ensures w s a) ∙ c.if-is_word-2.false) (no _ (sym (c.is_word-3.ensures w s a) ∙ c.if-is_word-3.false) (no _ (sym (c.is_word-4.ensures w s a) ∙ c.if-is_word-4.false) (c.leaving_command-2.ensures.reads w s a))))) }
