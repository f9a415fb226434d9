use Rattle.std.proofs.Common.{◌≡◌, ◌≤◌, ◌+◌, ◌-◌, ◌++◌, length, drop}
use Rattle.msgpack_codec.proofs.reader.take_rest.Given as goal

abbrev pub decreases-loop-place : goal.decreases-loop-place
decreases-loop-place g l = length l.image - l.place

abbrev pub invariant-loop-place : goal.invariant-loop-place
invariant-loop-place g l = record {
  rest : l.rest.items ++ drop l.place l.image ≡ drop l.fn.place l.image;
  forward : l.fn.place ≤ l.place;
  within : l.place ≤ length l.image;
  once : l.steps + l.fn.place ≡ l.fn.steps + l.place;
}
