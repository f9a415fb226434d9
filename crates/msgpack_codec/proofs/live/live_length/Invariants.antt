use Rattle.std.proofs.Common.{◌≡◌, ◌≤◌, ◌<◌, ◌+◌, length, take}
use Rattle.msgpack_codec.specs.Values.{IsLive}
use Rattle.msgpack_codec.proofs.live.live_length.Given as goal

abbrev pub decreases-loop-length : goal.decreases-loop-length
decreases-loop-length l = l.length

abbrev pub invariant-loop-length : goal.invariant-loop-length
invariant-loop-length l = record {
  text : l.text.items ≡ take l.length l.front;
  within : l.length ≤ length l.front;
  no_longer : l.length < length l.front → IsLive l.used (take (l.length + 1) l.front) → ⊥;
}
