-- What the functions say that write a part of a value.
use Rattle.std.specs.Prelude.{ℕ, zero, List, ◌++◌}
use Rattle.msgpack_codec.specs.declared.value.Value.{Value}
use Rattle.msgpack_codec.specs.declared.value.Value.TheOpen.{Value-F}
use Rattle.msgpack_codec.specs.Message.{spelling_of, FitsWithin}

-- the spellings of a key and its value
abbrev pub pair_spelling_of : Value × Value → List ℕ
pair_spelling_of p = spelling_of p.0 ++ spelling_of p.1

-- a scalar, and a value in which at most so many lists and maps stand in one another
abbrev pub PairFits : (Value-F Value → Type 0) → ℕ → Value × Value → Type 0
PairFits Scalar levels p = FitsWithin Scalar zero p.0 × FitsWithin Scalar levels p.1
