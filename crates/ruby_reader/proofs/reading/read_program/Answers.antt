use Rattle.ruby_reader.proofs.Judging.{handed_on}
use Rattle.ruby_reader.proofs.reading.read_program.Goals as goal

pub returns-in_err-front-clause-fault : goal.returns-in_err-front-clause-fault
returns-in_err-front-clause-fault c = handed_on c.args.text.now c.from_residual.result c.in_err-front.field-0.0 c.from_residual.ensures.1 c.in_err-front.ensures.fault c.in_err-front.ensures.no_text
