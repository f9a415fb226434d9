use Rattle.parse_state.proofs.Steps.{here}
use Rattle.parse_program.proofs.Moving.{moves_fewer, walking_begins, walks_end, walks_more}
use Rattle.parse_program.proofs.walk.stop_line.Goals as goal

pub loop-failure-init : goal.loop-failure-init
loop-failure-init g c = walking_begins _

pub loop-failure-smaller : goal.loop-failure-smaller
loop-failure-smaller g c = moves_fewer (c.in-Ok.ensures.moves _ _ (here _))

pub loop-failure-preserved : goal.loop-failure-preserved
loop-failure-preserved g c = walks_more c.loop-failure.invariant c.in-Ok.ensures.moves

pub returns-in-Err : goal.returns-in-Err
returns-in-Err g c = record { stops = walks_end _ _ c.lookahead-place.ensures.rest c.stopped.ensures.syntax c.stopped.ensures.deep c.stopped.ensures.memory c.loop-failure.invariant c.in-Err.ensures.moves }
