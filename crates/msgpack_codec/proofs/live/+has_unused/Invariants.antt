use Rattle.std.proofs.Common.{◌≡◌, ℕ, ◌<◌, ◌++◌, ◌∷◌, []}
use Rattle.msgpack_codec.specs.Values.{IsLive}
use Rattle.msgpack_codec.proofs.live.+has_unused.Given as goal

abbrev pub decreases-has_unused : goal.decreases-has_unused
decreases-has_unused l = l.room

abbrev pub invariant-loop-byte : goal.invariant-loop-byte
invariant-loop-byte l = record {
  same : l.text.items ≡ l.fn.text.items;
  dead : (b : ℕ) → b < l.byte → IsLive l.used (l.fn.text.items ++ b ∷ []) → ⊥;
}
