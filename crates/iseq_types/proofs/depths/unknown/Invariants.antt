use Rattle.std.proofs.Common.{◌≡◌, replicate, None}
use Rattle.iseq_types.proofs.depths.unknown.Given as goal

abbrev pub invariant-loop : goal.invariant-loop
invariant-loop l = l.found ≡ replicate l.counter None
