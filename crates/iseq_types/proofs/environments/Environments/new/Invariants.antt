use Rattle.std.proofs.Common.{◌≡◌, length}
use Rattle.iseq_types.specs.Homes.{AreFirstHomes}
use Rattle.iseq_types.proofs.environments.Environments.new.Given as goal

abbrev pub invariant-loop : goal.invariant-loop
invariant-loop l = record {
  long : length l.homes ≡ l.counter;
  each : AreFirstHomes l.rows l.homes;
}
