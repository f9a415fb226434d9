use Rattle.std.proofs.Common.{◌≡◌, ◌≤◌, ◌+◌, ◌||◌, ℕ, List, length, map}
use Rattle.msgpack_codec.specs.Values.{is_in}
use Rattle.msgpack_codec.proofs.used.Used.copies.Given as goal

abbrev pub invariant-loop-spelling : goal.invariant-loop-spelling
invariant-loop-spelling l = record {
  same : (t : List ℕ) → (is_in (map (λ k. k.items) l.spellings.keys) t || is_in (map (λ k. k.now) l.spelling-iterator) t) ≡ is_in l.self t;
  few : length l.spellings.keys + length l.spelling-iterator ≤ length l.self;
}
