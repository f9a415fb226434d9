use Rattle.iseq_types.proofs.Keeping.{takes-needs}
use Rattle.iseq_types.proofs.Taking.{falls, next_way, jump_way}
use Rattle.iseq_types.proofs.laws.sound_body_goes_on.Goals as goal

pub returns : goal.returns
returns c = record {
  takes = takes-needs;
  needs = λ seq rows id place depth line sound way at. sound.enough place depth line way at;
  one_depth = λ seq rows id place depth other sound within a b. sound.one_depth place depth other within a b;
  falls = falls;
  next = λ seq rows id place depth line sound way at other. next_way seq rows id sound place depth line way at other;
  jump = λ seq rows id place depth target line sound way at is. jump_way seq rows id sound place depth target line way at is;
}
