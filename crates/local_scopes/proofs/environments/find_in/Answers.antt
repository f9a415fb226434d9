use Rattle.std.proofs.Common.{sym, ◌∙◌, arith}
use Rattle.local_scopes.proofs.EnvironmentSteps.{found-slot, found-level, outward-slot, outward-level}
use Rattle.local_scopes.proofs.environments.find_in.Goals as goal

pub returns-in-Some-slot-clause-slot : goal.returns-in-Some-slot-clause-slot
returns-in-Some-slot-clause-slot c =
    found-slot c.args.name.now c.loop-environment.rest.now c.in-Some.outer.now c.in-Some.environment.now c.in-Some-slot.slot c.in-Some.ensures.cases.0 c.in-Some-slot.ensures
    ∙ c.loop-environment.invariant.slot

pub returns-in-Some-slot-clause-level : goal.returns-in-Some-slot-clause-level
returns-in-Some-slot-clause-level c =
    omega (arith, c.loop-environment.invariant.level, found-level c.args.name.now c.loop-environment.rest.now c.in-Some.outer.now c.in-Some.environment.now c.in-Some-slot.slot c.in-Some.ensures.cases.0 c.in-Some-slot.ensures)

pub loop-environment-preserved : goal.loop-environment-preserved
loop-environment-preserved c = record {
  slot =
      outward-slot c.args.name.now c.loop-environment.rest.now c.in-Some.outer.now c.seen_within-rest.result.now c.in-Some.environment.now c.in-Some.ensures.cases.0 (sym c.slot.ensures ∙ c.in_default-slot.is) c.seen_within-rest.ensures.visible
      ∙ c.loop-environment.invariant.slot;
  level =
      omega (arith, c.loop-environment.invariant.level, outward-level c.args.name.now c.loop-environment.rest.now c.in-Some.outer.now c.seen_within-rest.result.now c.in-Some.environment.now c.in-Some.ensures.cases.0 (sym c.slot.ensures ∙ c.in_default-slot.is) c.seen_within-rest.ensures.visible);
  fits = omega (arith, c.loop-environment.invariant.fits, c.in-Some.ensures.cases.1, c.seen_within-rest.ensures.fewer);
}
