use Rattle.std.proofs.Common.{◌≡◌, ◌+◌, ◌-◌, ◌≤◌, length}
use Rattle.iseq_dump.specs.Reading.{times_at}
use Rattle.iseq_dump.proofs.Loops.{with_front}
use Rattle.iseq_dump.proofs.part.read_times.Given as goal

abbrev pub invariant-loop : goal.invariant-loop
invariant-loop g l = record {
  so_far : with_front l.items.items (times_at g.T.Part.at (l.count - l.counter) l.cursor) ≡ times_at g.T.Part.at l.count l.fn.cursor;
  taken : l.steps + length l.cursor ≤ l.fn.steps + length l.fn.cursor;
}
