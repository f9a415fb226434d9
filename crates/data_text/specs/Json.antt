-- JSON texts, by RFC 8259 with whole numbers alone. A relation `XAt x u t` says that the bytes u begin with an x, and that t stands behind it.
use Rattle.std.specs.Prelude.{◌≡◌, ℕ, zero, suc, ◌+◌, ◌-◌, ◌*◌, ◌^◌, ◌<◌, ◌≤◌, ◌==◌, ◌⊎◌, ℤ, pos, negsuc, Bool, true, false, ◌&&◌, ◌||◌, if◌then◌else◌, nat_le, Option, Some, None, List, [], ◌∷◌, ◌++◌, length, codes, fold, map, IsUtf8}
use Rattle.std.specs.List.{list_all, concat}
use Rattle.std.specs.Str.{bytes_eq}
use Rattle.std.specs.Char.{encode_utf8}
use Rattle.indexmap.specs.IndexMap.{insert_all}
use Rattle.msgpack_codec.specs.declared.value.Value.{Value}
use Rattle.msgpack_codec.specs.declared.value.Value.TheVariants as value

-- space, tab, newline and carriage return
abbrev pub is_blank : ℕ → Bool
is_blank b = b == 32 || (b == 9 || (b == 10 || b == 13))

-- the bytes without the blanks at their front
abbrev pub behind_blanks : List ℕ → List ℕ
behind_blanks [] = []
behind_blanks (b ∷ bytes) = if is_blank b then behind_blanks bytes else b ∷ bytes

-- `0` to `9`
abbrev pub is_digit : ℕ → Bool
is_digit b = nat_le 48 b && nat_le b 57

-- no digit stands in front
abbrev pub BeginsNoDigit : List ℕ → Type 0
BeginsNoDigit [] = Unit {0}
BeginsNoDigit (b ∷ bytes) = is_digit b ≡ false

-- the number that digits spell
abbrev pub number_of : List ℕ → ℕ
number_of digits = fold (λ number digit. number * 10 + (digit - 48)) 0 digits

-- digits, of which the first is no `0` unless it is the only one
abbrev pub AreDigits : List ℕ → Type 0
AreDigits [] = ⊥
AreDigits (d ∷ ds) = (is_digit d ≡ true) × (list_all is_digit ds ≡ true) × (d ≡ 48 → ds ≡ [])

-- all digits that stand in front, as a number of at most this size
pub record MagnitudeAt (limit m : ℕ) (u t : List ℕ) : Type 0 where
  pub digits : List ℕ
  pub are_digits : AreDigits digits
  pub value : m ≡ number_of digits
  pub within : m ≤ limit
  pub parts : u ≡ digits ++ t
  pub ends : BeginsNoDigit t

-- minus a number
abbrev pub minus : ℕ → ℤ
minus zero = pos zero
minus (suc m) = negsuc m

-- a whole number from -2^63 to 2^63 - 1
pub data NumberAt (n : ℤ) (u t : List ℕ) : Type 0 where
  natural : (m : ℕ) → MagnitudeAt (2 ^ 63 - 1) m u t → n ≡ pos m → NumberAt n u t
  negative : (m : ℕ) (rest : List ℕ) → u ≡ 45 ∷ rest → MagnitudeAt (2 ^ 63) m rest t → n ≡ minus m → NumberAt n u t

-- the value of a hexadecimal digit, and 16 of any other byte
abbrev pub hex_value : ℕ → ℕ
hex_value b =
    if nat_le 48 b && nat_le b 57 then b - 48
    else (if nat_le 97 b && nat_le b 102 then b - 87
    else (if nat_le 65 b && nat_le b 70 then b - 55
    else 16))

-- a hexadecimal digit whose value is from low to high
pub record DigitAt (low high x : ℕ) (u t : List ℕ) : Type 0 where
  pub byte : ℕ
  pub value : x ≡ hex_value byte
  pub digit : x < 16
  pub at_least : low ≤ x
  pub at_most : x ≤ high
  pub parts : u ≡ byte ∷ t

-- four hexadecimal digits
pub record UnitAt (n : ℕ) (u t : List ℕ) : Type 0 where
  pub a : ℕ
  pub b : ℕ
  pub c : ℕ
  pub d : ℕ
  pub digits : (hex_value a < 16) × (hex_value b < 16) × (hex_value c < 16) × (hex_value d < 16)
  pub value : n ≡ hex_value a * 4096 + hex_value b * 256 + hex_value c * 16 + hex_value d
  pub parts : u ≡ a ∷ (b ∷ (c ∷ (d ∷ t)))

-- the first and the second half of a surrogate pair
abbrev pub is_high : ℕ → Bool
is_high n = nat_le 0xd800 n && nat_le n 0xdbff

abbrev pub is_low : ℕ → Bool
is_low n = nat_le 0xdc00 n && nat_le n 0xdfff

-- what follows `\u`: a character's code, or the two halves of a pair with `\u` between them
pub data CodeAt (code : ℕ) (u t : List ℕ) : Type 0 where
  single : UnitAt code u t → is_high code ≡ false → is_low code ≡ false → CodeAt code u t
  pair : (high low : ℕ) (m n : List ℕ) → UnitAt high u m → is_high high ≡ true → m ≡ 92 ∷ (117 ∷ n) → UnitAt low n t → is_low low ≡ true
      → code ≡ 0x10000 + (high - 0xd800) * 0x400 + (low - 0xdc00) → CodeAt code u t

-- any byte from 20 on but the quote and the backslash
abbrev pub is_plain : ℕ → Bool
is_plain b = nat_le 32 b && (if b == 34 then false else (if b == 92 then false else true))

-- what a byte behind a backslash stands for: `"`, `\`, `/`, `b`, `f`, `n`, `r`, `t`
abbrev pub short_escape : ℕ → Option ℕ
short_escape b =
    if b == 34 then Some 34
    else (if b == 92 then Some 92
    else (if b == 47 then Some 47
    else (if b == 98 then Some 8
    else (if b == 102 then Some 12
    else (if b == 110 then Some 10
    else (if b == 114 then Some 13
    else (if b == 116 then Some 9
    else None)))))))

-- a character of a string, with the bytes that it stands for; or the quote that ends the string, which is its last part
pub data CharAt (bytes : List ℕ) (last : Bool) (u t : List ℕ) : Type 0 where
  plain : (b : ℕ) → is_plain b ≡ true → u ≡ b ∷ t → bytes ≡ b ∷ [] → last ≡ false → CharAt bytes last u t
  short : (b c : ℕ) → u ≡ 92 ∷ (b ∷ t) → short_escape b ≡ Some c → bytes ≡ c ∷ [] → last ≡ false → CharAt bytes last u t
  code : (c : ℕ) (m : List ℕ) → u ≡ 92 ∷ (117 ∷ m) → CodeAt c m t → bytes ≡ encode_utf8 c → last ≡ false → CharAt bytes last u t
  quote : u ≡ 34 ∷ t → bytes ≡ [] → last ≡ true → CharAt bytes last u t

-- parts one behind another, of which the last, and it alone, is marked as the last
abbrev pub RunAt : {X : Type 0} → (X → Bool → List ℕ → List ℕ → Type 0) → List X → List ℕ → List ℕ → Type 0
RunAt P [] u t = ⊥
RunAt P (x ∷ xs) u t = ((xs ≡ []) × P x true u t) ⊎ ((m : List ℕ) × P x false u m × RunAt P xs m t)

-- what stands behind the opening quote of a string
abbrev pub StringAt : List ℕ → List ℕ → List ℕ → Type 0
StringAt s u t = (parts : List (List ℕ)) × RunAt CharAt parts u t × (s ≡ concat parts)

-- blanks and a comma, or blanks and the byte that closes a list or a map, behind its last part
abbrev pub DelimiterAt : ℕ → Bool → List ℕ → List ℕ → Type 0
DelimiterAt close last u t = behind_blanks u ≡ (if last then close else 44) ∷ t

-- a value with blanks around it, and the delimiter behind it
pub record ElementAt (Inner : Value → List ℕ → List ℕ → Type 0) (close : ℕ) (v : Value) (last : Bool) (u t : List ℕ) : Type 0 where
  pub behind : List ℕ
  pub inner : Inner v (behind_blanks u) behind
  pub delimiter : DelimiterAt close last behind t

-- a key, a colon and an element
pub record KeyAt (k : List ℕ) (u t : List ℕ) : Type 0 where
  pub quoted : List ℕ
  pub behind : List ℕ
  pub quote : behind_blanks u ≡ 34 ∷ quoted
  pub key : StringAt k quoted behind
  pub colon : behind_blanks behind ≡ 58 ∷ t

pub record MemberAt (Inner : Value → List ℕ → List ℕ → Type 0) (p : List ℕ × Value) (last : Bool) (u t : List ℕ) : Type 0 where
  pub behind : List ℕ
  pub key : KeyAt p.0 u behind
  pub element : ElementAt Inner 125 p.1 last behind t

-- what stands behind an opening bracket: nothing but the closing one, or parts
pub data BracketsAt {X : Type 0} (P : X → Bool → List ℕ → List ℕ → Type 0) (close : ℕ) (xs : List X) (u t : List ℕ) : Type 0 where
  empty : xs ≡ [] → behind_blanks u ≡ close ∷ t → BracketsAt P close xs u t
  parts : RunAt P xs u t → BracketsAt P close xs u t

-- a member's pair
abbrev pub pair_of : List ℕ × Value → Value × Value
pair_of p = (value.Str p.0, p.1)

-- the pairs of an object: a repeated key keeps its first place and takes the last value
abbrev pub pairs_of : List (List ℕ × Value) → List (Value × Value)
pairs_of members = map pair_of (insert_all bytes_eq [] members)

pub data ScalarAt (v : Value) (u t : List ℕ) : Type 0 where
  null : u ≡ codes "null" ++ t → v ≡ value.Nil → ScalarAt v u t
  truth : u ≡ codes "true" ++ t → v ≡ value.Bool true → ScalarAt v u t
  falsity : u ≡ codes "false" ++ t → v ≡ value.Bool false → ScalarAt v u t
  number : (n : ℤ) → NumberAt n u t → v ≡ value.Int n → ScalarAt v u t
  string : (s m : List ℕ) → u ≡ 34 ∷ m → StringAt s m t → v ≡ value.Str s → ScalarAt v u t

-- a scalar, or a list or an object whose values are as Inner says
pub data NestAt (Inner : Value → List ℕ → List ℕ → Type 0) (v : Value) (u t : List ℕ) : Type 0 where
  scalar : ScalarAt v u t → NestAt Inner v u t
  list : (items : List Value) (m : List ℕ) → u ≡ 91 ∷ m → BracketsAt (ElementAt Inner 93) 93 items m t → v ≡ value.List items → NestAt Inner v u t
  object : (members : List (List ℕ × Value)) (m : List ℕ) → u ≡ 123 ∷ m → BracketsAt (MemberAt Inner) 125 members m t → v ≡ value.Map (pairs_of members) → NestAt Inner v u t

-- a value in which at most so many lists and objects stand in one another
abbrev pub ValueAt : ℕ → Value → List ℕ → List ℕ → Type 0
ValueAt zero = ScalarAt
ValueAt (suc levels) = NestAt (ValueAt levels)

-- the bytes are a value with blanks around it, in which at most 100 lists and objects stand in one another
pub record Spells (v : Value) (bytes : List ℕ) : Type 0 where
  pub behind : List ℕ
  pub value : ValueAt 100 v (behind_blanks bytes) behind
  pub ends : behind_blanks behind ≡ []

-- the text is UTF-8, of at most 4,194,304 bytes, and spells the value
pub record IsJson (v : Value) (text : List ℕ) : Type 0 where
  pub short : length text ≤ 4194304
  pub utf8 : IsUtf8 text
  pub spelled : Spells v text
