use Rattle.std.specs.Prelude.{ℕ, nat_le, cond, List, length, take, Option, None, Some}

-- The first 64 bytes, of a list that has so many.
abbrev pub key_in : List ℕ → Option (List ℕ)
key_in bytes = cond (nat_le 64 (length bytes)) (Some (take 64 bytes)) None
