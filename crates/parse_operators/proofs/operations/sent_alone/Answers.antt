use Rattle.parse_operators.proofs.operations.sent_alone.Goals as goal

pub returns-clause-gives : goal.returns-clause-gives
returns-clause-gives c = λ a h w s b. c.sent_to.ensures.gives a _ h (c.new-arguments.ensures _) w s b
