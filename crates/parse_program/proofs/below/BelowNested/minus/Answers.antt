use Rattle.parse_program.specs.Knot.{reader_of}
use Rattle.parse_program.proofs.below.BelowNested.minus.Goals as goal

pub returns : goal.returns
unfolding reader_of
returns g c = record { reads = λ w s a. c.part.ensures _ _ _ (c.requires.1 _ _ _ _ _ _ c.read.ensures w s a) }
