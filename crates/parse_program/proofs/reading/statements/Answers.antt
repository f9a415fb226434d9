use Rattle.parse_program.specs.Knot.{reader_of}
use Rattle.parse_program.proofs.reading.statements.Goals as goal

pub returns : goal.returns
unfolding reader_of
returns c = record { reads = λ w s a. c.part.ensures _ _ _ (c.read.ensures.reads w s a) }
