use Rattle.std.proofs.Common.{sym, true, false, ◌∙◌}
use Rattle.parse_state.proofs.Steps.{yes, no}
use Rattle.parse_operands.proofs.names.plain_name.Goals as goal

pub returns-then-local_here : goal.returns-then-local_here
returns-then-local_here c = record { reads = λ w s a. yes _ (sym (c.local_here.ensures w s a) ∙ c.if-local_here.true) (c.local_name.ensures.reads w s a) }

pub returns : goal.returns
returns c = record { reads = λ w s a. no _ (sym (c.local_here.ensures w s a) ∙ c.if-local_here.false) (c.bare_name.ensures.reads w s a) }
