use Rattle.std.proofs.Common.{◌≡◌, ◌+◌, ◌≤◌, ◌++◌, length}
use Rattle.iseq_dump.proofs.text.take_bytes.Given as goal

abbrev pub invariant-loop : goal.invariant-loop
invariant-loop g l = record {
  so_far : l.bytes.items ++ l.cursor ≡ l.fn.cursor;
  count : length l.bytes.items ≡ l.counter;
  taken : l.steps + length l.cursor ≤ l.fn.steps + length l.fn.cursor;
}
