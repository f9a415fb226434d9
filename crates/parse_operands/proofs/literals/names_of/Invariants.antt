use Rattle.std.proofs.Common.{take}
use Rattle.parse_operands.proofs.Listed.{Listed}
use Rattle.parse_operands.proofs.literals.names_of.Given as goal

abbrev pub invariant-loop-text : goal.invariant-loop-text
invariant-loop-text l = Listed l.initial.parser l.parser l.names.items (take l.text-index l.texts)
