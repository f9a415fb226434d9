use Rattle.iseq_types.specs.Ways.{begins}
use Rattle.iseq_types.proofs.Taking.{has_code, entry_way}
use Rattle.iseq_types.proofs.laws.sound_body_begins.Goals as goal

pub returns : goal.returns
returns c = record {
  some = λ seq rows id sound. has_code seq rows id sound;
  first = λ seq kind. begins;
  entries = λ seq rows id entry sound at. entry_way seq rows id sound entry at;
}
