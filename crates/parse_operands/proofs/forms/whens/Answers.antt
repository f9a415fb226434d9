use Rattle.std.proofs.Common.{sym, true, false, ◌∙◌}
use Rattle.reference_parser.specs.ReadOperands.{read_whens}
use Rattle.parse_state.specs.Gives.{no_syntax}
use Rattle.parse_state.proofs.Steps.{yes, no}
use Rattle.parse_operands.proofs.forms.whens.Goals as goal

pub returns-then-is_word : goal.returns-then-is_word
unfolding read_whens
returns-then-is_word g c = record { reads = λ o v e h w s a. yes _ (sym (c.is_word.ensures w s a) ∙ c.if-is_word.true) (c.all_whens.ensures.reads o v e h w s a) }

pub returns : goal.returns
unfolding read_whens
returns g c = record { reads = λ o v e h w s a. no _ (sym (c.is_word.ensures w s a) ∙ c.if-is_word.false) no_syntax }
