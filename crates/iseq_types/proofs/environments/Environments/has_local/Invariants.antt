use Rattle.iseq_types.specs.Homes.{IsOnWay}
use Rattle.iseq_types.proofs.environments.Environments.has_local.Given as goal

abbrev pub invariant-outward : goal.invariant-outward
invariant-outward l = IsOnWay l.rows l.id l.level l.target l.at

abbrev pub decreases-outward : goal.decreases-outward
decreases-outward l = l.at.around
