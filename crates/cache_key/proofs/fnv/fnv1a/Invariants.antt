use Rattle.std.proofs.Common.{◌≡◌, take, fold}
use Rattle.cache_key.specs.Fnv.{fnv_round}
use Rattle.cache_key.proofs.fnv.fnv1a.Given as goal

abbrev pub invariant-loop-byte : goal.invariant-loop-byte
invariant-loop-byte l = l.hash ≡ fold fnv_round 0xcbf29ce484222325 (take l.byte-index l.bytes)
