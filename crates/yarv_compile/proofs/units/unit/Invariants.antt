use Rattle.std.proofs.Common.{◌≡◌, ◌∷◌, map}
use Rattle.yarv_compile.specs.Finishing.{row_of}
use Rattle.yarv_compile.proofs.units.unit.Given as goal

abbrev pub invariant-loop-finished : goal.invariant-loop-finished
invariant-loop-finished l = record {
  rows : l.rows ≡ map row_of (l.fn.own ∷ l.yielded);
  bodies : l.bodies ≡ map (λ c. c.body) (l.fn.own ∷ l.yielded);
}
