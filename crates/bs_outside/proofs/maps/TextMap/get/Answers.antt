use Rattle.std.proofs.Common.{◌∙◌, sym}
use Rattle.bs_outside.proofs.TextMaps.{get_is_lookup}
use Rattle.bs_outside.proofs.maps.TextMap.get.Goals as goal

pub returns : goal.returns
returns g c = rw (← c.self.view_is) (c.get.ensures.value ∙ sym (get_is_lookup c.self.inside.index.entries c.args.text.now c.self.invariant))
