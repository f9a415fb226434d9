-- Lines of a text, and the line at which a text is no JSON.
use Rattle.std.specs.Prelude.{◌≡◌, ℕ, zero, suc, ◌+◌, ◌-◌, ◌<◌, ◌≤◌, ◌==◌, ◌⊎◌, if◌then◌else◌, List, [], ◌∷◌, ◌++◌, length, take, IsUtf8}
use Rattle.std.specs.Str.{IsValidUpTo}
use Rattle.msgpack_codec.specs.declared.value.Value.{Value}
use Rattle.data_text.specs.Json.{Spells, IsJson}
use Rattle.data_text.specs.declared.fault.DataError.{DataError}
use Rattle.data_text.specs.declared.fault.DataError.TheVariants as error

-- how many newlines there are
abbrev pub newlines : List ℕ → ℕ
newlines [] = 0
newlines (b ∷ bytes) = (if b == 10 then 1 else 0) + newlines bytes

-- the line of the byte at this place; lines count from 1, and a newline belongs to the line that it ends
abbrev pub line_at : List ℕ → ℕ → ℕ
line_at text place = newlines (take place text) + 1

-- the line of the last byte, and 1 where there is none
abbrev pub last_line : List ℕ → ℕ
last_line text = line_at text (length text - 1)

-- the first lines of a text, so many, each with the newline that ends it where there is one
abbrev pub first_lines : ℕ → List ℕ → List ℕ
first_lines zero text = []
first_lines (suc n) [] = []
first_lines (suc n) (b ∷ text) = b ∷ (if b == 10 then first_lines n text else first_lines (suc n) text)

-- More bytes behind these, any number of them or none, make a JSON text. Where some do, some of ASCII do, so it needs not be said that a text is UTF-8.
pub record CanGoOn (bytes : List ℕ) : Type 0 where
  pub value : Value
  pub more : List ℕ
  pub spelled : Spells value (bytes ++ more)

-- the first line such that nothing that begins with the lines up to it is a JSON text
pub record IsDeadLine (text : List ℕ) (line : ℕ) : Type 0 where
  pub dead : CanGoOn (first_lines line text) → ⊥
  pub before : (n : ℕ) → n < line → CanGoOn (first_lines n text)

-- The line of a text's fault: 1 where it is too long; else that of the first byte at which it is not UTF-8; else the first line
-- such that nothing goes on behind the lines up to it, or the last line where all lines can go on.
abbrev pub IsFaultLine : List ℕ → ℕ → Type 0
IsFaultLine text line =
    ((4194304 < length text) × (line ≡ 1))
    ⊎ ((length text ≤ 4194304) × (place : ℕ) × IsValidUpTo text place × (line ≡ line_at text place))
    ⊎ ((length text ≤ 4194304) × IsUtf8 text × (IsDeadLine text line ⊎ (CanGoOn text × (line ≡ last_line text))))

-- what an error says of a text: that it is no JSON, and in which line; want of memory says nothing
abbrev pub IsFault : List ℕ → DataError → Type 0
IsFault text (error.Fault fault) = ((v : Value) → IsJson v text → ⊥) × IsFaultLine text fault.line
IsFault text error.NoMemory = Unit {0}
