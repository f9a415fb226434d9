use Rattle.std.proofs.Common.{◌≡◌, ℕ, ◌+◌, ◌*◌, ◌<◌, length, get_or, min}
use Rattle.iseq_types.proofs.spans.halves.Given as goal

abbrev pub invariant-loop-pair : goal.invariant-loop-pair
invariant-loop-pair l = record {
  long : length l.half.items ≡ l.pair;
  each : (k : ℕ) → k < l.pair → get_or l.half.items k 0 ≡ min (get_or l.rooms (2 * k) 0) (get_or l.rooms (2 * k + 1) 0);
}
