use Rattle.parse_statements.proofs.Starts.{as_operand, as_attribute, as_element, as_command}
use Rattle.parse_statements.proofs.arguments.behind_start.Goals as goal

pub returns-in-Operand : goal.returns-in-Operand
returns-in-Operand g c = record { reads = λ o t at h w s a. as_operand _ _ _ _ o w s c.in-Operand.is h (λ b k. c.behind_operand.ensures.reads o b at k w s a) }

pub returns-in-Attribute : goal.returns-in-Attribute
returns-in-Attribute g c = record { reads = λ o t at h w s a. as_attribute _ _ _ _ o w s c.in-Attribute.is h (λ b m k n. c.set_attribute.ensures.reads c.args.may_command o b m k n w s a) }

pub returns-in-Element : goal.returns-in-Element
returns-in-Element g c = record { reads = λ o t at h w s a. as_element _ _ _ _ o w s c.in-Element.is h (λ b i k j. c.set_element.ensures.reads c.args.may_command o b i k j w s a) }

pub returns-in-Command : goal.returns-in-Command
returns-in-Command g c = record { reads = λ o t at h w s a. as_command _ _ _ _ o w s c.in-Command.is h (λ b m k n. c.dotted_command.ensures.reads b m k n w s a) }
