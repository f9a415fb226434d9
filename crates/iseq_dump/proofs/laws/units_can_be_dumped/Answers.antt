use Rattle.iseq_dump.proofs.PublicAnswers.{can_be_dumped}
use Rattle.iseq_dump.proofs.Placed.{sound_dumped}
use Rattle.iseq_dump.proofs.laws.units_can_be_dumped.Goals as goal

pub returns : goal.returns
returns c = record { sound = sound_dumped; again = can_be_dumped }
