-- What a byte can begin.
use Rattle.std.specs.Prelude.{ℕ, Bool, nat_eq, ◌||◌, if◌then◌else◌}
use Rattle.ruby_lexer.specs.declared.class.Class.{Class}
use Rattle.ruby_lexer.specs.declared.class.Class.TheVariants.{Digit, Letter, At, Dollar, SingleQuote, DoubleQuote, Colon, Percent, Equals, Sign, Operator, Single, Semicolon, LineEnd, Space, Return, Backslash, Hash, Other}
use Rattle.ruby_lexer.specs.Bytes.{is_digit, is_letter}

-- a byte of operators that has no class of its own
abbrev pub is_operator : ℕ → Bool
is_operator b = nat_eq b 42 || nat_eq b 47 || nat_eq b 60 || nat_eq b 62 || nat_eq b 38 || nat_eq b 124 || nat_eq b 94 || nat_eq b 33 || nat_eq b 46 || nat_eq b 63

-- a mark that no other mark begins with
abbrev pub is_single : ℕ → Bool
is_single b = nat_eq b 40 || nat_eq b 41 || nat_eq b 91 || nat_eq b 93 || nat_eq b 123 || nat_eq b 125 || nat_eq b 44 || nat_eq b 126

abbrev pub is_sign : ℕ → Bool
is_sign b = nat_eq b 43 || nat_eq b 45

abbrev pub is_space : ℕ → Bool
is_space b = nat_eq b 32 || nat_eq b 9

-- what a byte that begins no operator and no word can begin
unfoldable pub blank_class_of : ℕ → Class
blank_class_of b =
    if nat_eq b 59 then Semicolon
    else if nat_eq b 10 then LineEnd
    else if is_space b then Space
    else if nat_eq b 13 then Return
    else if nat_eq b 92 then Backslash
    else if nat_eq b 35 then Hash
    else Other

unfoldable pub class_of : ℕ → Class
class_of b =
    if is_digit b then Digit
    else if is_letter b then Letter
    else if nat_eq b 64 then At
    else if nat_eq b 36 then Dollar
    else if nat_eq b 39 then SingleQuote
    else if nat_eq b 34 then DoubleQuote
    else if nat_eq b 58 then Colon
    else if nat_eq b 37 then Percent
    else if nat_eq b 61 then Equals
    else if is_sign b then Sign
    else if is_operator b then Operator
    else if is_single b then Single
    else blank_class_of b
