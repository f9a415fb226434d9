-- What the natives' own functions on numbers and texts compute to.
use Rattle.std.proofs.Common.{◌≡◌, [], ◌∷◌, true, false, pos, negsuc, codes, refl, Some, None}
use Rattle.std.specs.Fmt.{digits}
use Rattle.ruby_meaning.specs.Natives.Whole.{fits, quotient, remainder, shifted, power, bits_and, bits_or, bits_xor}
use Rattle.ruby_meaning.specs.Natives.Letters.{characters, part_of, capitalized, stripped, chomped, first_character, first_replaced, all_replaced, words_of, split_at, lines_of, number_in}
use Rattle.ruby_meaning.specs.Natives.Shown.{number_text, text_shown, symbol_shown}
use Rattle.ruby_meaning.specs.Natives.Counts.{exactly, from, any_count}
use Rattle.ruby_meaning.specs.Calls as calls

quotients : (quotient (pos 7) (negsuc 1) ≡ negsuc 3) × (remainder (pos 7) (negsuc 1) ≡ negsuc 0) × (quotient (negsuc 6) (pos 2) ≡ negsuc 3) × (remainder (negsuc 6) (pos 2) ≡ pos 1) × (quotient (negsuc 6) (negsuc 1) ≡ pos 3) × (quotient (pos 6) (negsuc 1) ≡ negsuc 2)
quotients = (refl, refl, refl, refl, refl, refl)

shifts : (shifted (negsuc 4) (negsuc 0) ≡ negsuc 2) × (shifted (pos 1) (pos 62) ≡ pos 4611686018427387904) × (power (negsuc 1) 3 ≡ negsuc 7)
shifts = (refl, refl, refl)

of_bits : (bits_and (negsuc 0) (pos 5) ≡ pos 5) × (bits_or (negsuc 7) (pos 5) ≡ negsuc 2) × (bits_xor (negsuc 0) (pos 5) ≡ negsuc 5)
of_bits = (refl, refl, refl)

texts : (stripped (codes "  a b\n") ≡ codes "a b") × (chomped (codes "a\r\n") ≡ codes "a") × (capitalized (codes "hELLO") ≡ codes "Hello") × (all_replaced (codes "aa") (codes "b") 0 (codes "aaaaa") ≡ codes "bba") × (first_replaced (codes "l") (codes "L") (codes "hello") ≡ codes "heLlo")
texts = (refl, refl, refl, refl, refl)

parts : (words_of (codes " a  bc ") ≡ codes "a" ∷ codes "bc" ∷ []) × (split_at (codes ",") (codes ",a,,b,,") ≡ [] ∷ codes "a" ∷ [] ∷ codes "b" ∷ []) × (lines_of (codes "a\n\nb") ≡ codes "a\n" ∷ codes "\n" ∷ codes "b" ∷ []) × (split_at (codes ",") [] ≡ [])
parts = (refl, refl, refl, refl)

shown : (text_shown (codes "a\"#{\n#") ≡ codes "\"a\\\"\\#{\\n#\"") × (text_shown (127 ∷ 1 ∷ []) ≡ codes "\"\\x7F\\x01\"") × (symbol_shown (codes "a?") ≡ codes ":a?") × (symbol_shown (codes "a=") ≡ codes ":a=") × (symbol_shown (codes "A=") ≡ codes ":\"A=\"") × (symbol_shown (codes "[]=") ≡ codes ":[]=") × (symbol_shown (codes "a b") ≡ codes ":\"a b\"") × (symbol_shown [] ≡ codes ":\"\"") × (symbol_shown (codes "@a") ≡ codes ":\"@a\"")
shown = (refl, refl, refl, refl, refl, refl, refl, refl, refl)

numbers : (number_in (codes " \t-12x") ≡ negsuc 11) × (number_in (codes "x") ≡ pos 0) × (number_in (codes "+7") ≡ pos 7) × (number_in (codes "\n5") ≡ pos 5) × (number_in (13 ∷ 12 ∷ 11 ∷ 54 ∷ []) ≡ pos 6) × (number_in (0 ∷ 53 ∷ []) ≡ pos 0) × (number_text (negsuc 41) ≡ codes "-42") × (fits (pos 9223372036854775808) ≡ false) × (fits (negsuc 9223372036854775807) ≡ true)
unfolding digits
numbers = (refl, refl, refl, refl, refl, refl, refl, refl, refl)

counts : (calls.wrong_count 1 (from 2 1) ≡ codes "wrong number of arguments (given 1, expected 2..3)") × (calls.wrong_count 3 (exactly 0) ≡ codes "wrong number of arguments (given 3, expected 0)") × (calls.wrong_count 0 (record { required = 1; optional = 2; rest = true }) ≡ codes "wrong number of arguments (given 0, expected 1+)") × (calls.fits (from 1 1) 2 ≡ true) × (calls.fits (from 1 1) 3 ≡ false) × (calls.fits any_count 9 ≡ true)
unfolding digits
counts = (refl, refl, refl, refl, refl, refl)

chars_of : (characters (195 ∷ 164 ∷ 98 ∷ []) ≡ (195 ∷ 164 ∷ []) ∷ (98 ∷ []) ∷ []) × (characters (128 ∷ 98 ∷ []) ≡ (128 ∷ []) ∷ (98 ∷ []) ∷ []) × (first_character (codes "b") (195 ∷ 164 ∷ 98 ∷ []) ≡ Some 1) × (first_character (169 ∷ []) (195 ∷ 169 ∷ []) ≡ None) × (first_character (169 ∷ []) (195 ∷ 169 ∷ 98 ∷ 169 ∷ []) ≡ None) × (first_character [] [] ≡ Some 0) × (part_of 1 5 (195 ∷ 164 ∷ 98 ∷ 99 ∷ []) ≡ codes "bc")
chars_of = (refl, refl, refl, refl, refl, refl, refl)
