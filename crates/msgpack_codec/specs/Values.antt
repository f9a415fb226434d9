-- The parts of a spelling behind its head, as the code reads them.
use Rattle.std.specs.Prelude.{◌≡◌, ℕ, zero, suc, ◌-◌, nat_le, if◌then◌else◌, Bool, true, false, List, [], ◌∷◌, ◌++◌, length}
use Rattle.std.specs.Str.{bytes_eq}
use Rattle.std.specs.Set.{is_member}
use Rattle.msgpack_codec.specs.declared.value.Value.{Value, out-Value}
use Rattle.msgpack_codec.specs.declared.value.Value.TheVariants as value
use Rattle.msgpack_codec.specs.declared.heads.Head.{Head}
use Rattle.msgpack_codec.specs.declared.heads.Head.TheVariants as head
use Rattle.msgpack_codec.specs.declared.live.Missing.{Missing}
use Rattle.msgpack_codec.specs.declared.live.Missing.TheVariants as missing
use Rattle.msgpack_codec.specs.Message.{spelling_of, IsScalar, IsBytes, FitsWithin}
use Rattle.msgpack_codec.specs.Reading.{Begins, Sequence}

-- a value in which at most so many lists and maps stand in one another
pub record ValueAt (levels : ℕ) (v : Value) (bytes : List ℕ) : Type 0 where
  pub fits : FitsWithin IsScalar levels v
  pub bytes_are : bytes ≡ spelling_of v

-- a value that is no list and no map, with its spelling
pub record IsSpelledScalar (v : Value) (bytes : List ℕ) : Type 0 where
  pub fits : IsScalar (out-Value v)
  pub bytes_are : bytes ≡ spelling_of v

-- the bytes are one of these spellings
abbrev pub is_in : List (List ℕ) → List ℕ → Bool
is_in = is_member bytes_eq

-- a key whose spelling is not used
pub record KeyAt (used : List (List ℕ)) (k : Value) (bytes : List ℕ) : Type 0 where
  pub fits : IsScalar (out-Value k)
  pub bytes_are : bytes ≡ spelling_of k
  pub unused : is_in used bytes ≡ false

-- a key that is not used, and its value
abbrev pub PairAt : ℕ → List (List ℕ) → Value × Value → List ℕ → Type 0
PairAt levels used p bytes = (s : List ℕ) × (t : List ℕ) × KeyAt used p.0 s × ValueAt levels p.1 t × (bytes ≡ s ++ t)

abbrev pub next_used : List (List ℕ) → Value × Value → List (List ℕ)
next_used used p = spelling_of p.0 ∷ used

abbrev pub ItemAt : ℕ → Unit {0} → Value → List ℕ → Type 0
ItemAt levels st = ValueAt levels

abbrev pub next_item : Unit {0} → Value → Unit {0}
next_item st v = st

-- what follows the head of a list, and the list
abbrev pub ListAt : ℕ → ℕ → Value → List ℕ → Type 0
ListAt levels n v bytes = (all : List Value) × Sequence (ItemAt levels) next_item tt n all bytes × (v ≡ value.List all)

-- what follows the head of a map, and the map
abbrev pub MapAt : ℕ → ℕ → Value → List ℕ → Type 0
MapAt levels n v bytes = (all : List (Value × Value)) × Sequence (PairAt levels) next_used [] n all bytes × (v ≡ value.Map all)

-- so many bytes
pub record AreBytes (n : ℕ) (text bytes : List ℕ) : Type 0 where
  pub count : length text ≡ n
  pub small : IsBytes text
  pub bytes_are : bytes ≡ text

-- what follows the head of another value
abbrev pub ScalarAt : Head → Value → List ℕ → Type 0
ScalarAt (head.Nil) v bytes = (v ≡ value.Nil) × (bytes ≡ [])
ScalarAt (head.Bool b) v bytes = (v ≡ value.Bool b) × (bytes ≡ [])
ScalarAt (head.Int n) v bytes = (v ≡ value.Int n) × (bytes ≡ [])
ScalarAt (head.Str n) v bytes = (text : List ℕ) × AreBytes n text bytes × (v ≡ value.Str text)
ScalarAt (head.Sym n) v bytes = (text : List ℕ) × (rest : List ℕ) × AreBytes n text rest × (v ≡ value.Sym text) × (bytes ≡ 0 ∷ rest)
ScalarAt (head.List n) v bytes = ⊥
ScalarAt (head.Map n) v bytes = ⊥

-- whether lists and maps may stand where so many may stand in one another
abbrev pub nests_at : ℕ → Bool
nests_at zero = false
nests_at (suc levels) = true

-- what follows a head
abbrev pub BodyAt : ℕ → Head → Value → List ℕ → Type 0
BodyAt zero h = ScalarAt h
BodyAt (suc levels) (head.List n) = ListAt levels n
BodyAt (suc levels) (head.Map n) = MapAt levels n
BodyAt (suc levels) (head.Nil) = ScalarAt head.Nil
BodyAt (suc levels) (head.Bool b) = ScalarAt (head.Bool b)
BodyAt (suc levels) (head.Int n) = ScalarAt (head.Int n)
BodyAt (suc levels) (head.Str n) = ScalarAt (head.Str n)
BodyAt (suc levels) (head.Sym n) = ScalarAt (head.Sym n)

-- the bytes are or begin a key that is not used
pub record IsLive (used : List (List ℕ)) (bytes : List ℕ) : Type 0 where
  pub key : Value
  pub more : List ℕ
  pub at : KeyAt used key (bytes ++ more)

-- any bytes of this number make the bytes a scalar's spelling, and no others do
pub record IsFree (bytes : List ℕ) (missing : ℕ) : Type 0 where
  pub any : (more : List ℕ) → length more ≡ missing → IsBytes more → (v : Value) × IsSpelledScalar v (bytes ++ more)
  pub only : (v : Value) (more : List ℕ) → IsSpelledScalar v (bytes ++ more) → (length more ≡ missing) × IsBytes more

-- the bytes of a key before the last ones, with which it is a key no more, or of which there are none
pub record StopsKey (used : List (List ℕ)) (bytes : List ℕ) (left : ℕ) : Type 0 where
  pub front : List ℕ
  pub rest : List ℕ
  pub parts : bytes ≡ front ++ rest
  pub count : left ≡ length rest
  pub begins : Begins IsSpelledScalar front
  pub dead : (byte : ℕ) (r : List ℕ) → rest ≡ byte ∷ r → (k : Value) (more : List ℕ) → KeyAt used k (front ++ byte ∷ more) → ⊥

-- any bytes of this number behind these make a body of the head, and no others do
pub record IsFreeBody (h : Head) (rest : List ℕ) (missing : ℕ) : Type 0 where
  pub any : (more : List ℕ) → length more ≡ missing → IsBytes more → (v : Value) × ScalarAt h v (rest ++ more)
  pub only : (v : Value) (more : List ℕ) → ScalarAt h v (rest ++ more) → (length more ≡ missing) × IsBytes more

-- what is missing behind a head and the first bytes of its body
abbrev pub IsMissing : Head → List ℕ → Missing → Type 0
IsMissing h rest (missing.Never) = (v : Value) (more : List ℕ) → ScalarAt h v (rest ++ more) → ⊥
IsMissing h rest (missing.Type count) = (rest ≡ []) × IsFreeBody h (0 ∷ []) count × ((v : Value) (body : List ℕ) → ScalarAt h v body → (more : List ℕ) × (body ≡ 0 ∷ more))
IsMissing h rest (missing.Bytes count) = IsFreeBody h rest count

abbrev pub missing_of : ℕ → ℕ → Missing
missing_of want have = if nat_le have want then missing.Bytes (want - have) else missing.Never
