use Rattle.reference_parser.specs.ReadBodies.{read_block}
use Rattle.parse_state.proofs.Steps.{no, yes}
use Rattle.std.proofs.Common.{sym, ◌∙◌}
use Rattle.parse_parts.proofs.blocks.block.Goals as goal

pub returns-then-is_mark : goal.returns-then-is_mark
unfolding read_block
returns-then-is_mark g c = record { reads = λ w s a. yes _ (sym (c.is_mark.ensures w s a) ∙ c.if-is_mark.true) (c.brace_block.ensures.reads w s a) }

pub returns : goal.returns
unfolding read_block
returns g c = record { reads = λ w s a. no _ (sym (c.is_mark.ensures w s a) ∙ c.if-is_mark.false) (c.do_block.ensures.reads w s a) }
