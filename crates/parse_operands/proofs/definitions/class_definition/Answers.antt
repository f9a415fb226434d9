use Rattle.std.proofs.Common.{sym, true, false, ◌∙◌}
use Rattle.reference_parser.specs.ReadOperands.{read_class}
use Rattle.parse_state.specs.Gives.{no_syntax}
use Rattle.parse_state.proofs.Steps.{yes, no}
use Rattle.parse_operands.proofs.definitions.class_definition.Goals as goal

pub returns-then-constant_behind : goal.returns-then-constant_behind
unfolding read_class
returns-then-constant_behind g c = record { reads = λ w s a. yes _ (sym (c.constant_behind.ensures w s a) ∙ c.if-constant_behind.true) (c.class_at.ensures.reads w s a) }

pub returns : goal.returns
unfolding read_class
returns g c = record { reads = λ w s a. no _ (sym (c.constant_behind.ensures w s a) ∙ c.if-constant_behind.false) no_syntax }
