use Rattle.parse_operators.proofs.Parts.{operand_held, other_faults}
use Rattle.parse_operators.proofs.prefixes.operand_alone.Goals as goal

pub returns-in-Operand : goal.returns-in-Operand
returns-in-Operand c = λ source Q p t w s a h. operand_held source Q c.in-Operand.is a h

pub returns : goal.returns
returns c = λ source Q p t w s a h. other_faults source Q w s c.in_default.not-Operand h
