use Rattle.std.proofs.Common.{arith}
use Rattle.bs_outside.proofs.Segments.{parent_at, parent_top}
use Rattle.bs_outside.proofs.paths.parent.Goals as goal

pub returns-then-path-end-eq47 : goal.returns-then-path-end-eq47
returns-then-path-end-eq47 c = parent_at c.args.path.now c.loop-end.end (omega arith) (omega arith) c.loop-end.invariant.none c.if-path-end-eq47.true

pub returns : goal.returns
returns c = parent_top c.args.path.now c.loop-end.end (omega arith) c.loop-end.invariant.none
