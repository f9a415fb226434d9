use Rattle.std.proofs.Common.{◌≡◌, ◌+◌, ◌≤◌, drop, length}
use Rattle.iseq_dump.specs.Reading.{exactly_at}
use Rattle.iseq_dump.proofs.head.expect.Given as goal

abbrev pub invariant-loop-byte : goal.invariant-loop-byte
invariant-loop-byte g l = record {
  so_far : exactly_at (drop l.byte-index l.wanted) l.cursor ≡ exactly_at l.wanted l.fn.cursor;
  taken : l.steps + length l.cursor ≤ l.fn.steps + length l.fn.cursor;
}
