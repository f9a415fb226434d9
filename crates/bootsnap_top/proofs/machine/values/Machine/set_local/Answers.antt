use Rattle.std.proofs.lemmas.List.{map-set}
use Rattle.bootsnap_top.specs.Machine.{datum_of}
use Rattle.bootsnap_top.proofs.machine.values.Machine.set_local.Goals as goal

pub returns-clause-locals : goal.returns-clause-locals
returns-clause-locals c = let set = map-set datum_of c.self.inside.locals c.args.slot c.args.value in cc
