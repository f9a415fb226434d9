use Rattle.bs_outside.proofs.TextMaps.{none_is_empty}
use Rattle.bs_outside.proofs.maps.TextMap.new.Goals as goal

pub returns : goal.returns
returns g c = none_is_empty _ c.new.ensures.empty
