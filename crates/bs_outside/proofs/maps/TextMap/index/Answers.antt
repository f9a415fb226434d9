use Rattle.std.proofs.Common.{◌∙◌, ap, sym}
use Rattle.std.specs.FinMap.{entries}
use Rattle.bs_outside.proofs.TextMaps.{entries_are}
use Rattle.bs_outside.proofs.maps.TextMap.index.Goals as goal

pub returns : goal.returns
returns g c = sym (entries_are c.self.inside.index.entries c.self.invariant) ∙ ap entries c.self.view_is
