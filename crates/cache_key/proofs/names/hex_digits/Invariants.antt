use Rattle.std.proofs.Common.{◌≡◌, take, length}
use Rattle.cache_key.specs.Key.{hex_of}
use Rattle.cache_key.proofs.names.hex_digits.Given as goal

-- the digits so far
abbrev pub invariant-loop-place : goal.invariant-loop-place
invariant-loop-place l = record { long : length l.digits ≡ 16; so_far : take l.place l.digits ≡ take l.place (hex_of 16 l.hash) }
