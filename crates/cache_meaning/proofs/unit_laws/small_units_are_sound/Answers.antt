use Rattle.cache_meaning.proofs.SmallDumps.{spelled_by}
use Rattle.cache_meaning.proofs.SmallSound.{sound_by}
use Rattle.cache_meaning.proofs.SmallUnits.{dumped_by}
use Rattle.cache_meaning.proofs.unit_laws.small_units_are_sound.Goals as goal

pub returns : goal.returns
returns c = record { dumped = dumped_by; spelled = spelled_by; sound = sound_by }
