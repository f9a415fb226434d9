use Rattle.reference_parser.specs.ReadBodies.{read_else_branches}
use Rattle.parse_state.proofs.Steps.{no, yes}
use Rattle.std.proofs.Common.{sym, ◌∙◌}
use Rattle.parse_parts.proofs.branches.else_branches.Goals as goal

pub returns-then-is_word : goal.returns-then-is_word
unfolding read_else_branches
returns-then-is_word g c = record { reads = λ w s a. yes _ (sym (c.is_word.ensures w s a) ∙ c.if-is_word.true) (c.elsif.ensures.reads w s a) }

pub returns : goal.returns
unfolding read_else_branches
returns g c = record { reads = λ w s a. no _ (sym (c.is_word.ensures w s a) ∙ c.if-is_word.false) (c.else_part.ensures.reads w s a) }
