use Rattle.local_scopes.proofs.KnownSteps.{declared, longer, more-marks}
use Rattle.local_scopes.proofs.known.Known.declare.Goals as goal

pub invariant_of-self-2 : goal.invariant_of-self-2
invariant_of-self-2 c = more-marks _ _ _ (longer _ _ c.args.name _ c.in_ok-insert.ensures.keys) c.self.invariant

pub returns : goal.returns
returns c place = declared _ _ _ c.args.name c.args.self.now place c.in_ok-insert.ensures.keys c.self.invariant c.self.view_is
