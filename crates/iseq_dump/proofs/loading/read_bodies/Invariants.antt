use Rattle.std.proofs.Common.{◌≡◌, ◌+◌, ◌≤◌, drop, length}
use Rattle.iseq_dump.specs.Reading.{bodies_at}
use Rattle.iseq_dump.proofs.Loops.{with_front}
use Rattle.iseq_dump.proofs.loading.read_bodies.Given as goal

abbrev pub invariant-loop-entry : goal.invariant-loop-entry
invariant-loop-entry g l = record {
  so_far : with_front l.bodies.items (bodies_at (drop l.entry-index l.entries) l.cursor) ≡ bodies_at l.entries l.fn.cursor;
  taken : l.steps + length l.cursor ≤ l.fn.steps + length l.fn.cursor;
}
