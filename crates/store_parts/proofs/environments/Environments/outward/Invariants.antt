use Rattle.std.proofs.Common.{◌≡◌}
use Rattle.store_parts.specs.Scopes.{outward}
use Rattle.store_parts.proofs.environments.Environments.outward.Given as goal

abbrev pub invariant-loop-step : goal.invariant-loop-step
invariant-loop-step l = outward l.self l._step l.at.number ≡ outward l.self l.level l.fn.env.number
