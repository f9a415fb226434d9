use Rattle.bs_outside.proofs.TextMaps.{insert_is_insert}
use Rattle.bs_outside.proofs.maps.TextMap.insert.Goals as goal

pub returns-clause-ok : goal.returns-clause-ok
returns-clause-ok g c =
    rw (← c.self.view_is) (insert_is_insert c.self.inside.index.entries c.insert.new.self.entries c.args.text c.args.value c.self.invariant c.in_ok-insert.ensures.ordered c.in_ok-insert.ensures.updates.0)
