use Rattle.std.proofs.Common.{sym, ◌∙◌}
use Rattle.reference_parser.specs.ReadItems.{read_bars}
use Rattle.parse_state.specs.Gives.{gave}
use Rattle.parse_state.proofs.Steps.{yes, no, later_same}
use Rattle.parse_parts.specs.OneTurn.{bars_here}
use Rattle.parse_parts.proofs.variables.bars.Goals as goal

pub returns-then-is_mark : goal.returns-then-is_mark
unfolding read_bars bars_here
returns-then-is_mark c = record { reads = λ w s a. yes _ (sym (c.is_mark.ensures w s a) ∙ c.if-is_mark.true) (c.bars_here.ensures.reads w s a) }

pub returns : goal.returns
unfolding read_bars
returns c = record { reads = λ w s a. no _ (sym (c.is_mark.ensures w s a) ∙ c.if-is_mark.false) (gave a (later_same _) (c.new.ensures _)) }
