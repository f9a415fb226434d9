use Rattle.iseq_types.specs.Sound.{kind_of}
use Rattle.iseq_types.proofs.Keeping.{covered_way, keeps_by}
use Rattle.iseq_types.proofs.Taking.{code_ends, sound_from}
use Rattle.iseq_types.proofs.laws.depths_make_sound.Goals as goal

pub returns : goal.returns
returns c = record {
  way = λ seq kind depths place depth covers within way. covered_way seq kind depths covers place depth way within;
  kept = λ seq kind depths some inside covers floors. keeps_by seq kind depths covers some inside floors;
  sound = λ seq rows id depths covers floors inside ordered ends locals children splats operands counted throws.
      sound_from seq rows id (keeps_by seq (kind_of rows id) depths covers (code_ends seq (kind_of rows id) ends) inside floors) inside ordered ends locals children splats operands counted throws;
}
