-- Values and their spellings, by the MessagePack specification. Each value has its shortest spelling alone, and
-- numbers have their highest byte first.
use Rattle.std.specs.Prelude.{◌≡◌, ◌≢◌, ℕ, zero, suc, ◌+◌, ◌-◌, ◌^◌, ◌<◌, if◌then◌else◌, nat_lt, nat_eq, ℤ, pos, negsuc, List, [], ◌∷◌, ◌++◌, length, take, map, Result, Ok, Err}
use Rattle.std.specs.Int.{bytes_high_first}
use Rattle.std.specs.List.{AllByRecursion, concat}
use Rattle.msgpack_codec.specs.declared.stop.Unread.{Unread}
use Rattle.msgpack_codec.specs.declared.stop.Unread.TheVariants as unread
use Rattle.msgpack_codec.specs.declared.value.Value.{Value, out-Value}
use Rattle.msgpack_codec.specs.declared.value.Value.TheOpen.{Value-F}
use Rattle.msgpack_codec.specs.declared.value.Value.TheFolds.{fold-Value}

-- a first byte, and a number in so many bytes behind it
abbrev pub counted : ℕ → ℕ → ℕ → List ℕ
counted first size n = first ∷ bytes_high_first size n

-- positive fixint, uint 8, 16, 32 and 64
unfoldable pub natural : ℕ → List ℕ
natural n =
    if nat_lt n (2 ^ 7) then n ∷ []
    else (if nat_lt n (2 ^ 8) then counted 0xcc 1 n
    else (if nat_lt n (2 ^ 16) then counted 0xcd 2 n
    else (if nat_lt n (2 ^ 32) then counted 0xce 4 n
    else counted 0xcf 8 n)))

-- the integer -1 - m, in two's complement: negative fixint, int 8, 16, 32 and 64
unfoldable pub negative : ℕ → List ℕ
negative m =
    if nat_lt m (2 ^ 5) then (0xff - m) ∷ []
    else (if nat_lt m (2 ^ 7) then counted 0xd0 1 (0xff - m)
    else (if nat_lt m (2 ^ 15) then counted 0xd1 2 (0xffff - m)
    else (if nat_lt m (2 ^ 31) then counted 0xd2 4 (0xffff_ffff - m)
    else counted 0xd3 8 (0xffff_ffff_ffff_ffff - m))))

-- before the n bytes of a text: fixstr, str 8, 16 and 32
unfoldable pub str_head : ℕ → List ℕ
str_head n =
    if nat_lt n (2 ^ 5) then (0xa0 + n) ∷ []
    else (if nat_lt n (2 ^ 8) then counted 0xd9 1 n
    else (if nat_lt n (2 ^ 16) then counted 0xda 2 n
    else counted 0xdb 4 n))

-- before the type and the n bytes of a symbol: fixext 1, 2, 4, 8 and 16, ext 8, 16 and 32
unfoldable pub sym_head : ℕ → List ℕ
sym_head n =
    if nat_eq n 1 then 0xd4 ∷ []
    else (if nat_eq n 2 then 0xd5 ∷ []
    else (if nat_eq n 4 then 0xd6 ∷ []
    else (if nat_eq n 8 then 0xd7 ∷ []
    else (if nat_eq n 16 then 0xd8 ∷ []
    else (if nat_lt n (2 ^ 8) then counted 0xc7 1 n
    else (if nat_lt n (2 ^ 16) then counted 0xc8 2 n
    else counted 0xc9 4 n))))))

-- before n items: fixarray, array 16 and 32
unfoldable pub list_head : ℕ → List ℕ
list_head n =
    if nat_lt n (2 ^ 4) then (0x90 + n) ∷ []
    else (if nat_lt n (2 ^ 16) then counted 0xdc 2 n
    else counted 0xdd 4 n)

-- before n pairs: fixmap, map 16 and 32
unfoldable pub map_head : ℕ → List ℕ
map_head n =
    if nat_lt n (2 ^ 4) then (0x80 + n) ∷ []
    else (if nat_lt n (2 ^ 16) then counted 0xde 2 n
    else counted 0xdf 4 n)

-- the spelling of a value whose parts are spelled
abbrev pub spelling_step : Value-F (List ℕ) → List ℕ
spelling_step (Value-F.Nil) = 0xc0 ∷ []
spelling_step (Value-F.Bool b) = (if b then 0xc3 else 0xc2) ∷ []
spelling_step (Value-F.Int (pos n)) = natural n
spelling_step (Value-F.Int (negsuc m)) = negative m
spelling_step (Value-F.Str bytes) = str_head (length bytes) ++ bytes
spelling_step (Value-F.Sym name) = sym_head (length name) ++ 0 ∷ name
spelling_step (Value-F.List items) = list_head (length items) ++ concat items
spelling_step (Value-F.Map pairs) = map_head (length pairs) ++ concat (map (λ p. p.0 ++ p.1) pairs)

-- the bytes of a value
unfoldable pub spelling_of : Value → List ℕ
spelling_of = fold-Value (List ℕ) spelling_step

-- a text or a symbol whose length has a spelling
abbrev pub IsSpellableScalar : Value-F Value → Type 0
IsSpellableScalar (Value-F.Nil) = Unit {0}
IsSpellableScalar (Value-F.Bool b) = Unit {0}
IsSpellableScalar (Value-F.Int n) = Unit {0}
IsSpellableScalar (Value-F.Str bytes) = length bytes < 2 ^ 32
IsSpellableScalar (Value-F.Sym name) = length name < 2 ^ 32
IsSpellableScalar (Value-F.List items) = ⊥
IsSpellableScalar (Value-F.Map pairs) = ⊥

-- 64 bits with a sign
abbrev pub IsInteger : ℤ → Type 0
IsInteger (pos n) = n < 2 ^ 63
IsInteger (negsuc m) = m < 2 ^ 63

abbrev pub IsBytes : List ℕ → Type 0
IsBytes bytes = AllByRecursion (λ b. b < 2 ^ 8) bytes

-- an integer of 64 bits with a sign, or a text or symbol of bytes whose length has a spelling
abbrev pub IsScalar : Value-F Value → Type 0
IsScalar (Value-F.Nil) = Unit {0}
IsScalar (Value-F.Bool b) = Unit {0}
IsScalar (Value-F.Int n) = IsInteger n
IsScalar (Value-F.Str bytes) = (length bytes < 2 ^ 32) × IsBytes bytes
IsScalar (Value-F.Sym name) = (length name < 2 ^ 32) × IsBytes name
IsScalar (Value-F.List items) = ⊥
IsScalar (Value-F.Map pairs) = ⊥

-- no key stands again behind its own place
abbrev pub HasNoKeyTwice : List (Value × Value) → Type 0
HasNoKeyTwice [] = Unit {0}
HasNoKeyTwice (p ∷ ps) = AllByRecursion (λ q. q.0 ≢ p.0) ps × HasNoKeyTwice ps

-- a list or a map whose count has a spelling, with no key twice and each key a scalar, its items and values as Inner says; or a scalar
abbrev pub LayerFits : (Value-F Value → Type 0) → (Value → Type 0) → Value-F Value → Type 0
LayerFits Scalar Inner (Value-F.List items) = (length items < 2 ^ 32) × AllByRecursion Inner items
LayerFits Scalar Inner (Value-F.Map pairs) =
    (length pairs < 2 ^ 32) × HasNoKeyTwice pairs × AllByRecursion (λ p. Scalar (out-Value p.0) × Inner p.1) pairs
LayerFits Scalar Inner (Value-F.Nil) = Scalar (Value-F.Nil)
LayerFits Scalar Inner (Value-F.Bool b) = Scalar (Value-F.Bool b)
LayerFits Scalar Inner (Value-F.Int n) = Scalar (Value-F.Int n)
LayerFits Scalar Inner (Value-F.Str bytes) = Scalar (Value-F.Str bytes)
LayerFits Scalar Inner (Value-F.Sym name) = Scalar (Value-F.Sym name)

-- at most so many lists and maps stand in one another: a scalar has 0, an empty list 1
unfoldable pub FitsWithin : (Value-F Value → Type 0) → ℕ → Value → Type 0
FitsWithin Scalar zero v = Scalar (out-Value v)
FitsWithin Scalar (suc n) v = LayerFits Scalar (FitsWithin Scalar n) (out-Value v)

-- what can be asked of a value of the program: nesting, lengths and keys
abbrev pub IsSpellable : Value → Type 0
IsSpellable = FitsWithin IsSpellableScalar 100

-- the same, and integers and bytes are in their ranges
abbrev pub IsMessage : Value → Type 0
IsMessage = FitsWithin IsScalar 100

-- the bytes are the spelling of the value
pub record SpellsMessage (value : Value) (bytes : List ℕ) : Type 0 where
  pub message : IsMessage value
  pub bytes_are : bytes ≡ spelling_of value

-- more bytes, or none, make it a spelling
abbrev pub BeginsSpelling : List ℕ → Type 0
BeginsSpelling bytes = (value : Value) × (more : List ℕ) × SpellsMessage value (bytes ++ more)

-- a proper prefix of a spelling
pub record IsShort (bytes : List ℕ) : Type 0 where
  pub begins : BeginsSpelling bytes
  pub unfinished : (value : Value) → SpellsMessage value bytes → ⊥

-- the longest prefix that begins a spelling has this length, and more bytes follow it
pub record IsMalformed (bytes : List ℕ) (at : ℕ) : Type 0 where
  pub within : at < length bytes
  pub begins : BeginsSpelling (take at bytes)
  pub no_longer : BeginsSpelling (take (at + 1) bytes) → ⊥

-- what reading the bytes answers: their value, or what keeps them from having one; want of memory says nothing
abbrev pub Decodes : List ℕ → Result Value Unread → Type 0
Decodes bytes (Ok value) = SpellsMessage value bytes
Decodes bytes (Err unread.Short) = IsShort bytes
Decodes bytes (Err (unread.Malformed at)) = IsMalformed bytes at
Decodes bytes (Err unread.NoMemory) = Unit {0}
