use Rattle.std.proofs.Common.{◌≡◌, ◌++◌, length, map, reverse}
use Rattle.code_writer.specs.Writing.{step_of, placed_from}
use Rattle.code_writer.proofs.writer.placed.Given as goal

abbrev pub invariant-loop-step : goal.invariant-loop-step
invariant-loop-step l = l.lines.items ++ placed_from (length l.lines.items) (reverse (map step_of l.written.items)) ≡ placed_from 0 (reverse (map step_of l.fn.written.items))

abbrev pub decreases-loop-step : goal.decreases-loop-step
decreases-loop-step l = length l.written.items
