-- Whole numbers.
use Rattle.std.specs.Prelude.{ℕ, ◌+◌, ◌-◌, ◌*◌, [], ◌∷◌, take, drop, Bool, true, false, nat_eq, nat_le, nat_lt, ◌&&◌, ◌||◌, if◌then◌else◌, Option, Some, None, pos}
use Rattle.ruby_lexer.specs.Bytes.{Bytes, is_digit, is_word, begins, begins_with, run}
use Rattle.ruby_lexer.specs.Pieces.{integer, Piece, token}

-- the value of a digit or a letter as a digit
abbrev pub digit_value : ℕ → ℕ
digit_value b = if nat_le b 57 then b - 48 else if nat_le b 90 then b - 55 else b - 87

abbrev pub is_hex : ℕ → Bool
is_hex b = is_digit b || (nat_le 65 b && nat_le b 70) || (nat_le 97 b && nat_le b 102)

-- a digit of the base, which is 2, 8, 10 or 16
abbrev pub is_digit_of : ℕ → ℕ → Bool
is_digit_of base b = is_hex b && nat_lt (digit_value b) base

-- The number that digits of the base spell with single `_` between them, where it is at most 2^63 - 1.
-- The value of the digits before is `v`, and `had` says whether a digit stands directly before.
abbrev pub digits : ℕ → Bool → ℕ → Bytes → Option ℕ
digits base had v [] = if had then Some v else None
digits base had v (b ∷ p) =
    if nat_eq b 95 then (if had then digits base false v p else None)
    else if is_digit_of base b && nat_lt (v * base + digit_value b) 9223372036854775808 then digits base true (v * base + digit_value b) p
    else None

-- behind a first `0`: nothing, or a letter for the base and digits
abbrev pub after_zero : Bytes → Option ℕ
after_zero [] = Some 0
after_zero (b ∷ p) =
    if nat_eq b 120 then digits 16 false 0 p
    else if nat_eq b 98 then digits 2 false 0 p
    else if nat_eq b 111 then digits 8 false 0 p
    else None

-- the number that the digit b spells with the bytes behind it
abbrev pub numeral : ℕ → Bytes → Option ℕ
numeral b p = if nat_eq b 48 then after_zero p else digits 10 true (digit_value b) p

-- `.` and a digit stand here
abbrev pub begins_fraction : Bytes → Bool
begins_fraction w = begins_with 46 w && begins is_digit (drop 1 w)

abbrev pub number_with_rest : Bytes → Option ℕ → Option (Piece × Bytes)
number_with_rest r None = None
number_with_rest r (Some n) = Some (token (integer (pos n)), r)

-- A number whose first digit is b. It stands directly before no letter, digit or `_`, so that it is all of them that follow, and before no `.` with a digit.
unfoldable pub number_at : ℕ → Bytes → Option (Piece × Bytes)
number_at b w =
    if begins_fraction (drop (run is_word w) w) then None
    else number_with_rest (drop (run is_word w) w) (numeral b (take (run is_word w) w))

abbrev pub number_of : Bytes → Option (Piece × Bytes)
number_of [] = None
number_of (b ∷ w) = number_at b w
