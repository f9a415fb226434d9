use Rattle.std.proofs.Common.{◌≡◌, map, replicate}
use Rattle.bootsnap_top.specs.Machine.{Nil, datum_of}
use Rattle.bootsnap_top.proofs.machine.values.nils.Given as goal

-- so many are nil
abbrev pub invariant-slots : goal.invariant-slots
invariant-slots l = map datum_of l.locals ≡ replicate l._slot Nil
