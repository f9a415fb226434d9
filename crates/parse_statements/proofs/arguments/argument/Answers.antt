use Rattle.reference_parser.specs.ReadStatements.{read_arg}
use Rattle.parse_statements.proofs.arguments.argument.Goals as goal

pub returns : goal.returns
unfolding read_arg
returns g c = record { reads = λ w s a. c.settable.ensures.reads w s a }
