use Rattle.std.specs.Prelude.{ℕ, ◌*◌, ◌%◌, ◌^◌, List, fold, bit_xor}

-- One round of FNV-1a: the byte is xored in, and the hash is then multiplied by the prime, modulo 2 ^ 64.
abbrev pub fnv_round : ℕ → ℕ → ℕ
fnv_round hash byte = (bit_xor hash byte * 0x100000001b3) % 2 ^ 64

-- The FNV-1a hash of 64 bits: a round for each byte, from the offset basis on.
unfoldable pub fnv1a_of : List ℕ → ℕ
fnv1a_of bytes = fold fnv_round 0xcbf29ce484222325 bytes
