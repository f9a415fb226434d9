-- What the functions say that read a part from the front of the bytes.
use Rattle.std.specs.Prelude.{◌≡◌, ℕ, ◌⊎◌, List, [], ◌∷◌, ◌++◌, ◌+◌, ◌-◌, ◌*◌, length, Bool, true, false, if◌then◌else◌, not, ◌&&◌, ◌||◌, ◌==◌, Some}
use Rattle.std.specs.Char.{encode_utf8}
use Rattle.msgpack_codec.specs.declared.stop.Stop.{Stop}
use Rattle.msgpack_codec.specs.declared.stop.Stop.TheVariants as stop
use Rattle.data_text.specs.Lines.{CanGoOn}
use Rattle.data_text.specs.Json.{Spells, BeginsNoDigit, behind_blanks, ValueAt, ElementAt, MemberAt, BracketsAt, RunAt, UnitAt, is_low, is_high, CodeAt, short_escape, is_digit, pairs_of}
use Rattle.std.specs.Str.{bytes_eq}
use Rattle.indexmap.specs.IndexMap.{insert_all}
use Rattle.msgpack_codec.specs.declared.value.Value.{Value}
use Rattle.msgpack_codec.specs.declared.value.Value.TheVariants as value

-- the bytes begin with x, whatever stands behind it, and r is what follows
pub record Found {X : Type 0} (R : X → List ℕ → List ℕ → Type 0) (x : X) (bytes r : List ℕ) : Type 0 where
  pub front : List ℕ
  pub parts : bytes ≡ front ++ r
  pub reads : (u : List ℕ) → R x (front ++ u) u
  pub only : (y : X) (u t : List ℕ) → R y (front ++ u) t → (y ≡ x) × (t ≡ u)

-- the first byte is the same, or no digit
pub record SameFirst (r u : List ℕ) : Type 0 where
  pub byte : ℕ
  pub r_rest : List ℕ
  pub u_rest : List ℕ
  pub r_is : r ≡ byte ∷ r_rest
  pub u_is : u ≡ byte ∷ u_rest

abbrev pub Fits : List ℕ → List ℕ → Type 0
Fits r u = BeginsNoDigit u ⊎ SameFirst r u

-- the same, where a digit behind it could be a part of it
pub record FoundValue {X : Type 0} (R : X → List ℕ → List ℕ → Type 0) (x : X) (bytes r : List ℕ) : Type 0 where
  pub front : List ℕ
  pub parts : bytes ≡ front ++ r
  pub reads : (u : List ℕ) → Fits r u → R x (front ++ u) u
  pub only : (y : X) (u t : List ℕ) → Fits r u → R y (front ++ u) t → (y ≡ x) × (t ≡ u)

abbrev pub Anything : List ℕ → Type 0
Anything u = Unit {0}

-- more bytes behind these make something, whatever stands behind it
pub record Begins {X : Type 0} (Behind : List ℕ → Type 0) (R : X → List ℕ → List ℕ → Type 0) (bytes : List ℕ) : Type 0 where
  pub value : X
  pub more : List ℕ
  pub reads : (t : List ℕ) → Behind t → R value (bytes ++ (more ++ t)) t

-- a front of the bytes begins something, and with the next byte it does no more
pub record Fails {X : Type 0} (Behind : List ℕ → Type 0) (R : X → List ℕ → List ℕ → Type 0) (bytes : List ℕ) (left : ℕ) : Type 0 where
  pub front : List ℕ
  pub byte : ℕ
  pub rest : List ℕ
  pub parts : bytes ≡ front ++ byte ∷ rest
  pub count : left ≡ length (byte ∷ rest)
  pub begins : Begins Behind R front
  pub dead : (y : X) (u t : List ℕ) → R y (front ++ byte ∷ u) t → ⊥

-- the bytes end before the part does
pub record Shorts {X : Type 0} (Behind : List ℕ → Type 0) (R : X → List ℕ → List ℕ → Type 0) (bytes : List ℕ) : Type 0 where
  pub begins : Begins Behind R bytes
  pub none : (y : X) (t : List ℕ) → R y bytes t → ⊥

abbrev pub StoppedBy : {X : Type 0} → (List ℕ → Type 0) → (X → List ℕ → List ℕ → Type 0) → List ℕ → Stop → Type 0
StoppedBy Behind R bytes stop.Short = Shorts Behind R bytes
StoppedBy Behind R bytes (stop.Bad left) = Fails Behind R bytes left
StoppedBy Behind R bytes stop.NoMemory = Unit {0}

abbrev pub Stopped : {X : Type 0} → (X → List ℕ → List ℕ → Type 0) → List ℕ → Stop → Type 0
Stopped R bytes s = StoppedBy Anything R bytes s

-- a part and its mark, as one
abbrev pub Marked : {X : Type 0} → (X → Bool → List ℕ → List ℕ → Type 0) → X × Bool → List ℕ → List ℕ → Type 0
Marked P x u t = P x.0 x.1 u t

-- these bytes
abbrev pub WordAt : List ℕ → Unit {0} → List ℕ → List ℕ → Type 0
WordAt word x u t = u ≡ word ++ t

-- a unit that is the second half of a pair, or one that is not
abbrev pub HalfAt : Bool → ℕ → List ℕ → List ℕ → Type 0
HalfAt low n u t = UnitAt n u t × (is_low n ≡ low)

-- blanks and this byte
abbrev pub TokenAt : ℕ → Unit {0} → List ℕ → List ℕ → Type 0
TokenAt byte x u t = behind_blanks u ≡ byte ∷ t

-- what follows a backslash, with the bytes that it stands for
pub data EscapeAt (bytes u t : List ℕ) : Type 0 where
  short : (b c : ℕ) → u ≡ b ∷ t → short_escape b ≡ Some c → bytes ≡ c ∷ [] → EscapeAt bytes u t
  code : (c : ℕ) (m : List ℕ) → u ≡ 117 ∷ m → CodeAt c m t → bytes ≡ encode_utf8 c → EscapeAt bytes u t

-- what stands behind the bracket that opens a list, and the list
abbrev pub ListAt : ℕ → Value → List ℕ → List ℕ → Type 0
ListAt levels v u t = (items : List Value) × BracketsAt (ElementAt (ValueAt levels) 93) 93 items u t × (v ≡ value.List items)

-- what stands behind the brace that opens an object, and the map
abbrev pub MapAt : ℕ → Value → List ℕ → List ℕ → Type 0
MapAt levels v u t = (members : List (List ℕ × Value)) × BracketsAt (MemberAt (ValueAt levels)) 125 members u t × (v ≡ value.Map (pairs_of members))

-- the first and the second digit of such a unit, at the least and at the most
abbrev pub least_first : Bool → ℕ
least_first low = if low then 13 else 0

abbrev pub most_first : Bool → ℕ
most_first low = if low then 13 else 15

abbrev pub least_second : Bool → ℕ
least_second low = if low then 12 else 0

abbrev pub most_second : Bool → ℕ → ℕ
most_second low first = if not low && first == 13 then 11 else 15

-- what follows the first unit: nothing behind a character's code, and the second half behind the first
pub data TailAt (first code : ℕ) (u t : List ℕ) : Type 0 where
  alone : is_high first ≡ false → code ≡ first → u ≡ t → TailAt first code u t
  paired : (low : ℕ) (n : List ℕ) → is_high first ≡ true → u ≡ 92 ∷ (117 ∷ n) → HalfAt true low n t → code ≡ 0x10000 + (first - 0xd800) * 0x400 + (low - 0xdc00) → TailAt first code u t

-- the members of an object that has some, and its entries
abbrev pub EntriesAt : ℕ → List (List ℕ × Value) → List ℕ → List ℕ → Type 0
EntriesAt levels entries u t = (members : List (List ℕ × Value)) × RunAt (MemberAt (ValueAt levels)) members u t × (entries ≡ insert_all bytes_eq [] members)

-- a byte that begins no string and no number
abbrev pub BeginsNoOther : List ℕ → Type 0
BeginsNoOther [] = Unit {0}
BeginsNoOther (b ∷ bytes) = (b ≡ 34 → ⊥) × ((b ≡ 45 → ⊥) × (is_digit b ≡ false))

abbrev pub begins_number : ℕ → Bool
begins_number b = b == 45 || is_digit b

-- a front of the text begins one that spells a value, and with the next byte it does no more
pub record EndsAt (text : List ℕ) (left : ℕ) : Type 0 where
  pub front : List ℕ
  pub byte : ℕ
  pub rest : List ℕ
  pub parts : text ≡ front ++ byte ∷ rest
  pub count : left ≡ length (byte ∷ rest)
  pub begins : CanGoOn front
  pub dead : (y : Value) (u : List ℕ) → Spells y (front ++ byte ∷ u) → ⊥

-- why a text spells no value
abbrev pub StoppedText : List ℕ → Stop → Type 0
StoppedText text stop.Short = CanGoOn text × ((y : Value) → Spells y text → ⊥)
StoppedText text (stop.Bad left) = EndsAt text left
StoppedText text stop.NoMemory = Unit {0}
