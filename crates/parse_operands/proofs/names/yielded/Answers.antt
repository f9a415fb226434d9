use Rattle.std.proofs.Common.{sym, rules, true, false, ◌∙◌}
use Rattle.reference_parser.specs.ReadOperands.{read_yield}
use Rattle.parse_state.specs.Gives.{no_syntax}
use Rattle.parse_state.proofs.Steps.{yes, no}
use Rattle.parse_state.proofs.Tools.{at_spot, yield_spread}
use Rattle.parse_operands.proofs.names.yielded.Goals as goal

pub returns-then-opens_behind : goal.returns-then-opens_behind
unfolding read_yield
returns-then-opens_behind g c = record { reads = λ w s a. yes _ (sym (c.opens_behind.ensures w s a) ∙ c.if-opens_behind.true) (c.given_yield.ensures.reads w s a) }

pub returns-then-arguments_behind : goal.returns-then-arguments_behind
unfolding read_yield
returns-then-arguments_behind g c = record { reads = λ w s a. no _ (sym (c.opens_behind.ensures w s a) ∙ c.if-opens_behind.false) (yes _ (sym (c.arguments_behind.ensures w s a) ∙ c.if-arguments_behind.true) no_syntax) }

pub returns : goal.returns
unfolding read_yield
returns g c = record { reads = λ w s a. no _ (sym (c.opens_behind.ensures w s a) ∙ c.if-opens_behind.false) (no _ (sym (c.arguments_behind.ensures w s a) ∙ c.if-arguments_behind.false) (c.leaf.ensures.gives _ w s (at_spot (c.position_here-here.ensures _ _ a) (yield_spread (search rules) (c.yield_with.ensures.made _ _ (c.new-arguments.ensures _)))) a)) }
