use Rattle.std.proofs.Common.{◌≡◌, ◌+◌, ◌≤◌, ◌++◌, take, length}
use Rattle.iseq_dump.proofs.head.take_eight.Given as goal

abbrev pub invariant-loop-place : goal.invariant-loop-place
invariant-loop-place g l = record {
  so_far : take l.place l.bytes ++ l.cursor ≡ l.fn.cursor;
  eight : length l.bytes ≡ 8;
  taken : l.steps + length l.cursor ≤ l.fn.steps + length l.fn.cursor;
}
