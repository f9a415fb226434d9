use Rattle.std.proofs.Common.{refl}
use Rattle.iseq_dump.proofs.Indexes.{too_far, all_tiled}
use Rattle.iseq_dump.proofs.index.are_tiled.Goals as goal

pub returns-in-None : goal.returns-in-None
returns-in-None c = (λ t. absurd cc, λ h. absurd (too_far c.loop-entry.place c.loop-entry.entry-index c.args.entries.now _ c.loop-entry-test.true c.in-None.ensures (c.loop-entry.invariant.same.1 h)))

pub returns : goal.returns
returns c = (λ t. all_tiled c.args.first c.loop-entry.place c.loop-entry.entry-index c.args.entries.now c.loop-entry-test.false c.loop-entry.invariant.small c.loop-entry.invariant.same.0, λ h. refl)
