-- What natives answer on a small store: worked examples, each of which computes.
use Rattle.std.proofs.Common.{◌≡◌, ℕ, zero, suc, List, [], ◌∷◌, ◌++◌, Bool, true, false, pos, negsuc, codes, refl, Option, Some, None, length, nat_eq, ◌&&◌, ◌||◌}
use Rattle.std.specs.Fmt.{digits}
use Rattle.ruby_lexer.specs.Bytes.{same}
use Rattle.ruby_tree.specs.Names.{Bytes}
use Rattle.ruby_meaning.specs.NativeName.{Native, object_equal, object_class, object_is_a, object_responds, object_to_text, object_freeze, object_is_frozen, object_copy, object_new_table, nil_to_text, nil_to_array, bool_inspect, integer_add, integer_subtract, integer_multiply, integer_divide, integer_modulo, integer_power, integer_and, integer_xor, integer_shift_left, integer_shift_right, integer_minus, integer_complement, integer_less, integer_at_least, integer_compare, integer_to_text, integer_absolute, integer_successor, string_add, string_repeat, string_equal, string_compare, string_less, string_index, string_size, string_byte_size, string_capitalize, string_ends_with, string_includes, string_place_of, string_replace_first, string_replace_all, string_split, string_characters, string_left_justify, string_right_justify, string_to_integer, string_to_text, string_to_symbol, string_inspect, string_append, symbol_to_text, symbol_size, symbol_inspect, array_index, array_set_index, array_push, array_unshift, array_pop, array_shift, array_concat, array_add, array_subtract, array_unique, array_delete, array_delete_at, array_first, array_last, array_sort, array_join, array_sort_pairs, hash_index, hash_set_index, hash_delete, hash_keys, hash_merge, range_first, range_last, range_excludes_end, module_name, module_case_equal, module_superclass, module_include, module_attribute_reader, module_attribute_accessor, class_allocate}
use Rattle.ruby_meaning.specs.Value.{Value, nil, yes, no, number, symbol_named, object, reader, writer, Kind, string, elements, table, span, plain, class_or_module, Object, Objects}
use Rattle.ruby_meaning.specs.Store.{Place, rows_of, class_rows_of, kind_at, is_frozen_at, class_at, new_object, new_string}
use Rattle.ruby_meaning.specs.Native.{Answer, gives, raises, answers}
use Rattle.ruby_meaning.specs.Numbers as class
use Rattle.ruby_meaning.specs.Natives.{meaning_of, native_rows, count_of}
use Rattle.ruby_meaning.specs.Calls.{fits}

-- ---- the store

abbrev class_named : Bytes → Option ℕ → Object
class_named x above = new_object (class_or_module (record { name = x; is_module = false; superclass = above; modules = []; methods = []; class_methods = []; constants = [] }))

abbrev module_named : Bytes → Object
module_named x = new_object (class_or_module (record { name = x; is_module = true; superclass = None; modules = []; methods = []; class_methods = []; constants = [] }))

-- the first classes; those between them and the main object are none that an example looks at
abbrev start : Objects
start =
    class_named (codes "Object") None ∷
    class_named (codes "Module") (Some 0) ∷
    class_named (codes "Class") (Some 1) ∷
    class_named (codes "NilClass") (Some 0) ∷
    class_named (codes "TrueClass") (Some 0) ∷
    class_named (codes "FalseClass") (Some 0) ∷
    class_named (codes "Integer") (Some 0) ∷
    class_named (codes "String") (Some 0) ∷
    class_named (codes "Symbol") (Some 0) ∷
    class_named (codes "Array") (Some 0) ∷
    class_named (codes "Hash") (Some 0) ∷
    class_named (codes "Range") (Some 0) ∷
    class_named (codes "Proc") (Some 0) ∷
    class_named (codes "Exception") (Some 0) ∷
    []

abbrev more_of : ℕ → Object → Objects → Objects
more_of zero o os = os
more_of (suc n) o os = o ∷ more_of n o os

abbrev plain_object : Object
plain_object = new_object (plain class.object_class)

abbrev ice : Object → Object
ice o = record o { frozen = true }

abbrev with_variable : Object → Object
with_variable o = record o { variables = (codes "@x", number (pos 1)) ∷ [] }

abbrev ab : ℕ
ab = 38

abbrev list_text : ℕ
list_text = 39

abbrev three : ℕ
three = 40

abbrev cold : ℕ
cold = 41

abbrev hash : ℕ
hash = 42

abbrev cold_hash : ℕ
cold_hash = 43

abbrev span_value : ℕ
span_value = 44

abbrev thing : ℕ
thing = 45

abbrev foo : ℕ
foo = 46

abbrev mixin : ℕ
mixin = 47

abbrev none : ℕ
none = 48

abbrev letter_b : ℕ
letter_b = 49

abbrev letter_a : ℕ
letter_a = 50

abbrev letters : ℕ
letters = 51

abbrev empty : ℕ
empty = 52

abbrev blank_number : ℕ
blank_number = 53

abbrev umlaut : ℕ
umlaut = 54

abbrev quoted : ℕ
quoted = 55

abbrev comma : ℕ
comma = 56

abbrev pairs : ℕ
pairs = 57

abbrev pair_one : ℕ
pair_one = 58

abbrev pair_two : ℕ
pair_two = 59

abbrev mixed : ℕ
mixed = 60

abbrev more_pairs : ℕ
more_pairs = 61

abbrev inner : ℕ
inner = 62

abbrev huge : ℕ
huge = 63

abbrev other_ab : ℕ
other_ab = 64

abbrev last_two : ℕ
last_two = 65

abbrev beyond : ℕ
beyond = 66

abbrev store : Objects
store = start ++ (more_of 24 plain_object (
    new_string (codes "ab") ∷
    new_string (codes "a,b,,") ∷
    new_object (elements (number (pos 1) ∷ number (pos 2) ∷ number (pos 3) ∷ [])) ∷
    ice (new_object (elements (number (pos 1) ∷ []))) ∷
    new_object (table ((symbol_named (codes "a"), number (pos 1)) ∷ []) (number (pos 7))) ∷
    ice (new_object (table [] nil)) ∷
    new_object (span (pos 1) (pos 3) true) ∷
    with_variable plain_object ∷
    class_named (codes "A::Foo") (Some class.object_class) ∷
    module_named (codes "M") ∷
    new_object (elements []) ∷
    new_string (codes "b") ∷
    new_string (codes "a") ∷
    new_object (elements (object letter_b ∷ object letter_a ∷ object letter_b ∷ [])) ∷
    new_string [] ∷
    new_string (codes " -12x") ∷
    new_string (195 ∷ 164 ∷ 98 ∷ []) ∷
    new_string (codes "a\"#{") ∷
    new_string (codes ",") ∷
    new_object (elements (object pair_one ∷ object pair_two ∷ [])) ∷
    new_object (elements (number (pos 2) ∷ symbol_named (codes "y") ∷ [])) ∷
    new_object (elements (number (pos 1) ∷ symbol_named (codes "x") ∷ [])) ∷
    new_object (elements (number (pos 1) ∷ object letter_a ∷ [])) ∷
    new_object (table ((symbol_named (codes "b"), number (pos 2)) ∷ (symbol_named (codes "a"), number (pos 5)) ∷ []) nil) ∷
    module_named (codes "M::Inner") ∷
    new_string (codes "9223372036854775808") ∷
    new_string (codes "ab") ∷
    new_object (span (negsuc 1) (negsuc 0) false) ∷
    new_object (span (pos 4) (pos 5) false) ∷
    []))

-- ---- what is looked at

abbrev of : Native → Value → List Value → Answer
of n = meaning_of n store

-- what was made, and its cells
abbrev made : Answer → Option (ℕ × Kind)
made (gives c s (object n)) = Some (c, kind_at s n)
made a = None

-- an object as it is now, the cells, and the value
abbrev left : ℕ → Answer → Option (Kind × ℕ × Value)
left n (gives c s v) = Some (kind_at s n, c, v)
left n (raises c m) = None

-- a value over the store as it was
abbrev value : Value → Answer
value v = answers store v

abbrev i : ℕ → Value
i n = number (pos n)

-- `9223372036854775807 + 1`, `7 / -2`, `7 % -2`, `1 / 0` and their like
sums :
    (of integer_add (i 2) (i 3 ∷ []) ≡ value (i 5)) ×
    (of integer_add (i 9223372036854775807) (i 1 ∷ []) ≡ raises class.range_error (codes "integer out of range")) ×
    (of integer_subtract (number (negsuc 9223372036854775807)) (i 1 ∷ []) ≡ raises class.range_error (codes "integer out of range")) ×
    (of integer_multiply (i 4294967296) (number (negsuc 2147483647) ∷ []) ≡ value (number (negsuc 9223372036854775807))) ×
    (of integer_divide (i 7) (number (negsuc 1) ∷ []) ≡ value (number (negsuc 3))) ×
    (of integer_modulo (i 7) (number (negsuc 1) ∷ []) ≡ value (number (negsuc 0))) ×
    (of integer_divide (i 1) (i 0 ∷ []) ≡ raises class.zero_division_error (codes "divided by 0")) ×
    (of integer_modulo (i 1) (i 0 ∷ []) ≡ raises class.zero_division_error (codes "divided by 0")) ×
    (of integer_divide (number (negsuc 9223372036854775807)) (number (negsuc 0) ∷ []) ≡ raises class.range_error (codes "integer out of range")) ×
    (of integer_add (i 1) (nil ∷ []) ≡ raises class.type_error (codes "nil can't be coerced into Integer")) ×
    (of integer_add (i 1) (object ab ∷ []) ≡ raises class.type_error (codes "String can't be coerced into Integer")) ×
    (of integer_minus (number (negsuc 9223372036854775807)) [] ≡ raises class.range_error (codes "integer out of range")) ×
    (of integer_absolute (number (negsuc 4)) [] ≡ value (i 5)) ×
    (of integer_successor (i 9223372036854775807) [] ≡ raises class.range_error (codes "integer out of range"))
unfolding digits
sums = (refl, refl, refl, refl, refl, refl, refl, refl, refl, refl, refl, refl, refl, refl)

-- powers, bits and shifts
powers :
    (of integer_power (i 2) (i 62 ∷ []) ≡ value (i 4611686018427387904)) ×
    (of integer_power (i 2) (i 63 ∷ []) ≡ raises class.range_error (codes "integer out of range")) ×
    (of integer_power (number (negsuc 1)) (i 63 ∷ []) ≡ value (number (negsuc 9223372036854775807))) ×
    (of integer_power (i 2) (number (negsuc 0) ∷ []) ≡ raises class.range_error (codes "integer out of range")) ×
    (of integer_shift_left (i 1) (i 63 ∷ []) ≡ raises class.range_error (codes "integer out of range")) ×
    (of integer_shift_left (number (negsuc 4)) (number (negsuc 0) ∷ []) ≡ value (number (negsuc 2))) ×
    (of integer_shift_right (number (negsuc 0)) (i 100 ∷ []) ≡ value (number (negsuc 0))) ×
    (of integer_and (number (negsuc 0)) (i 5 ∷ []) ≡ value (i 5)) ×
    (of integer_xor (number (negsuc 0)) (i 5 ∷ []) ≡ value (number (negsuc 5))) ×
    (of integer_complement (i 0) [] ≡ value (number (negsuc 0)))
unfolding digits
powers = (refl, refl, refl, refl, refl, refl, refl, refl, refl, refl)

-- comparisons of Integers and of Strings
comparisons :
    (of integer_less (i 1) (i 2 ∷ []) ≡ value yes) ×
    (of integer_less (i 1) (nil ∷ []) ≡ raises class.argument_error (codes "comparison of Integer with nil failed")) ×
    (of integer_at_least (i 1) (object ab ∷ []) ≡ raises class.argument_error (codes "comparison of Integer with String failed")) ×
    (of integer_compare (i 1) (object ab ∷ []) ≡ value nil) ×
    (of integer_compare (i 1) (i 2 ∷ []) ≡ value (number (negsuc 0))) ×
    (of string_less (object ab) (object letter_b ∷ []) ≡ value yes) ×
    (of string_less (object ab) (i 1 ∷ []) ≡ raises class.argument_error (codes "comparison of String with Integer failed")) ×
    (of string_compare (object ab) (yes ∷ []) ≡ value nil) ×
    (of string_compare (object ab) (object letter_a ∷ []) ≡ value (i 1)) ×
    (of string_equal (object ab) (object other_ab ∷ []) ≡ value yes) ×
    (of string_equal (object ab) (symbol_named (codes "ab") ∷ []) ≡ value no)
unfolding digits
comparisons = (refl, refl, refl, refl, refl, refl, refl, refl, refl, refl, refl)

-- numbers as texts
number_texts :
    (made (of integer_to_text (number (negsuc 41)) []) ≡ Some (2, string (codes "-42"))) ×
    (made (of integer_to_text (number (negsuc 9223372036854775807)) []) ≡ Some (3, string (codes "-9223372036854775808"))) ×
    (of string_to_integer (object blank_number) [] ≡ value (number (negsuc 11))) ×
    (of string_to_integer (object ab) [] ≡ value (i 0)) ×
    (of string_to_integer (object huge) [] ≡ raises class.range_error (codes "integer out of range"))
unfolding digits
number_texts = (refl, refl, refl, refl, refl)

-- new Strings
texts :
    (made (of string_add (object ab) (object letter_b ∷ [])) ≡ Some (2, string (codes "abb"))) ×
    (of string_add (object ab) (i 1 ∷ []) ≡ raises class.type_error (codes "no implicit conversion of Integer into String")) ×
    (made (of string_repeat (object ab) (i 9 ∷ [])) ≡ Some (3, string (codes "ababababababababab"))) ×
    (made (of string_repeat (object ab) (i 0 ∷ [])) ≡ Some (1, string [])) ×
    (of string_repeat (object ab) (number (negsuc 0) ∷ []) ≡ raises class.argument_error (codes "argument must be non-negative")) ×
    (made (of string_replace_all (object list_text) (object comma ∷ object ab ∷ [])) ≡ Some (2, string (codes "aabbabab"))) ×
    (made (of string_replace_first (object list_text) (object comma ∷ object empty ∷ [])) ≡ Some (2, string (codes "ab,,"))) ×
    (of string_replace_all (object ab) (object empty ∷ object ab ∷ []) ≡ raises class.argument_error (codes "empty pattern")) ×
    (made (of string_left_justify (object umlaut) (i 4 ∷ [])) ≡ Some (2, string (195 ∷ 164 ∷ 98 ∷ 32 ∷ 32 ∷ []))) ×
    (made (of string_right_justify (object ab) (number (negsuc 0) ∷ [])) ≡ Some (2, string (codes "ab"))) ×
    (made (of string_inspect (object quoted) []) ≡ Some (2, string (codes "\"a\\\"\\#{\""))) ×
    (of string_append (object ab) (i 1 ∷ []) ≡ raises class.frozen_error (codes "can't modify frozen String")) ×
    (of string_to_text (object ab) [] ≡ value (object ab)) ×
    (made (of string_capitalize (object umlaut) []) ≡ Some (2, string (195 ∷ 164 ∷ 98 ∷ [])))
unfolding digits
texts = (refl, refl, refl, refl, refl, refl, refl, refl, refl, refl, refl, refl, refl, refl)

-- characters by their places: at the end there is nil, or an empty part
characters :
    (made (of string_index (object ab) (number (negsuc 0) ∷ [])) ≡ Some (2, string (codes "b"))) ×
    (of string_index (object ab) (i 2 ∷ []) ≡ value nil) ×
    (made (of string_index (object ab) (i 2 ∷ i 1 ∷ [])) ≡ Some (1, string [])) ×
    (of string_index (object ab) (i 3 ∷ i 1 ∷ []) ≡ value nil) ×
    (of string_index (object ab) (number (negsuc 2) ∷ []) ≡ value nil) ×
    (of string_index (object ab) (i 0 ∷ number (negsuc 0) ∷ []) ≡ value nil) ×
    (made (of string_index (object umlaut) (i 0 ∷ [])) ≡ Some (2, string (195 ∷ 164 ∷ []))) ×
    (of string_index (object ab) (nil ∷ []) ≡ raises class.type_error (codes "no implicit conversion of nil into Integer")) ×
    (of string_size (object umlaut) [] ≡ value (i 2)) ×
    (of string_byte_size (object umlaut) [] ≡ value (i 3)) ×
    (of string_place_of (object umlaut) (object letter_b ∷ []) ≡ value (i 1)) ×
    (of string_place_of (object ab) (object comma ∷ []) ≡ value nil) ×
    (of string_includes (object list_text) (object comma ∷ []) ≡ value yes) ×
    (of string_ends_with (object ab) (object letter_b ∷ []) ≡ value yes)
unfolding digits
characters = (refl, refl, refl, refl, refl, refl, refl, refl, refl, refl, refl, refl, refl, refl)

-- Strings in Arrays: two new Strings of 2 cells each, and an Array of 3; the empty ones at the end fall away
parts :
    (made (of string_split (object list_text) (object comma ∷ [])) ≡ Some (7, elements (object 67 ∷ object 68 ∷ []))) ×
    (made (of string_split (object empty) []) ≡ Some (1, elements [])) ×
    (made (of string_characters (object umlaut) []) ≡ Some (7, elements (object 67 ∷ object 68 ∷ []))) ×
    (left 68 (of string_characters (object umlaut) []) ≡ Some (string (codes "b"), 7, object 69)) ×
    (of string_split (object ab) (nil ∷ []) ≡ raises class.type_error (codes "no implicit conversion of nil into String"))
unfolding digits
parts = (refl, refl, refl, refl, refl)

-- Symbols are shown bare where a text may have them so
symbols :
    (made (of symbol_inspect (symbol_named (codes "a?")) []) ≡ Some (2, string (codes ":a?"))) ×
    (made (of symbol_inspect (symbol_named (codes "a b")) []) ≡ Some (2, string (codes ":\"a b\""))) ×
    (made (of symbol_inspect (symbol_named (codes "<=>")) []) ≡ Some (2, string (codes ":<=>"))) ×
    (made (of symbol_to_text (symbol_named (codes "a")) []) ≡ Some (2, string (codes "a"))) ×
    (of symbol_size (symbol_named (195 ∷ 164 ∷ [])) [] ≡ value (i 1)) ×
    (of string_to_symbol (object ab) [] ≡ value (symbol_named (codes "ab")))
unfolding digits
symbols = (refl, refl, refl, refl, refl, refl)

-- elements by their places
elements_at :
    (of array_index (object three) (number (negsuc 0) ∷ []) ≡ value (i 3)) ×
    (of array_index (object three) (i 3 ∷ []) ≡ value nil) ×
    (made (of array_index (object three) (i 3 ∷ i 1 ∷ [])) ≡ Some (1, elements [])) ×
    (of array_index (object three) (i 4 ∷ i 1 ∷ []) ≡ value nil) ×
    (made (of array_index (object three) (object span_value ∷ [])) ≡ Some (3, elements (i 2 ∷ i 3 ∷ []))) ×
    (made (of array_index (object three) (object last_two ∷ [])) ≡ Some (3, elements (i 2 ∷ i 3 ∷ []))) ×
    (of array_index (object three) (object beyond ∷ []) ≡ value nil) ×
    (of array_index (object three) (object ab ∷ []) ≡ raises class.type_error (codes "no implicit conversion of String into Integer")) ×
    (of array_first (object none) [] ≡ value nil) ×
    (of array_last (object three) [] ≡ value (i 3))
unfolding digits
elements_at = (refl, refl, refl, refl, refl, refl, refl, refl, refl, refl)

-- changes of Arrays, with their cells
array_changes :
    (left three (of array_set_index (object three) (i 5 ∷ yes ∷ [])) ≡ Some (elements (i 1 ∷ i 2 ∷ i 3 ∷ nil ∷ nil ∷ yes ∷ []), 3, yes)) ×
    (left three (of array_set_index (object three) (number (negsuc 0) ∷ yes ∷ [])) ≡ Some (elements (i 1 ∷ i 2 ∷ yes ∷ []), 0, yes)) ×
    (of array_set_index (object three) (number (negsuc 3) ∷ yes ∷ []) ≡ raises class.index_error (codes "index out of range")) ×
    (of array_set_index (object cold) (nil ∷ yes ∷ []) ≡ raises class.frozen_error (codes "can't modify frozen Array")) ×
    (left three (of array_push (object three) (i 4 ∷ i 5 ∷ [])) ≡ Some (elements (i 1 ∷ i 2 ∷ i 3 ∷ i 4 ∷ i 5 ∷ []), 2, object three)) ×
    (left three (of array_unshift (object three) (i 4 ∷ i 5 ∷ [])) ≡ Some (elements (i 4 ∷ i 5 ∷ i 1 ∷ i 2 ∷ i 3 ∷ []), 2, object three)) ×
    (left three (of array_pop (object three) []) ≡ Some (elements (i 1 ∷ i 2 ∷ []), 0, i 3)) ×
    (left three (of array_shift (object three) []) ≡ Some (elements (i 2 ∷ i 3 ∷ []), 0, i 1)) ×
    (of array_pop (object none) [] ≡ value nil) ×
    (of array_pop (object cold) [] ≡ raises class.frozen_error (codes "can't modify frozen Array")) ×
    (left letters (of array_delete (object letters) (object letter_b ∷ [])) ≡ Some (elements (object letter_a ∷ []), 0, object letter_b)) ×
    (of array_delete (object none) (i 1 ∷ []) ≡ value nil) ×
    (left three (of array_delete_at (object three) (number (negsuc 1) ∷ [])) ≡ Some (elements (i 1 ∷ i 3 ∷ []), 0, i 2)) ×
    (left three (of array_concat (object three) (object three ∷ [])) ≡ Some (elements (i 1 ∷ i 2 ∷ i 3 ∷ i 1 ∷ i 2 ∷ i 3 ∷ []), 3, object three))
unfolding digits
array_changes = (refl, refl, refl, refl, refl, refl, refl, refl, refl, refl, refl, refl, refl, refl)

-- new Arrays, by the equality and the order of their elements
arrays :
    (made (of array_subtract (object letters) (object mixed ∷ [])) ≡ Some (3, elements (object letter_b ∷ object letter_b ∷ []))) ×
    (made (of array_unique (object letters) []) ≡ Some (3, elements (object letter_b ∷ object letter_a ∷ []))) ×
    (made (of array_sort (object letters) []) ≡ Some (4, elements (object letter_a ∷ object letter_b ∷ object letter_b ∷ []))) ×
    (of array_sort (object mixed) [] ≡ raises class.argument_error (codes "comparison failed")) ×
    (of array_sort (object pairs) [] ≡ raises class.argument_error (codes "comparison failed")) ×
    (made (of array_sort (object none) []) ≡ Some (1, elements [])) ×
    (made (of array_sort_pairs (object pairs) []) ≡ Some (3, elements (symbol_named (codes "x") ∷ symbol_named (codes "y") ∷ []))) ×
    (made (of array_join (object letters) (object comma ∷ [])) ≡ Some (2, string (codes "b,a,b"))) ×
    (of array_join (object three) (object comma ∷ []) ≡ raises class.type_error (codes "no implicit conversion of Integer into String")) ×
    (of array_add (object three) (nil ∷ []) ≡ raises class.type_error (codes "no implicit conversion of nil into Array"))
unfolding digits
arrays = (refl, refl, refl, refl, refl, refl, refl, refl, refl, refl)

-- Hashes
hashes :
    (of hash_index (object hash) (symbol_named (codes "a") ∷ []) ≡ value (i 1)) ×
    (of hash_index (object hash) (object letter_a ∷ []) ≡ value (i 7)) ×
    (left hash (of hash_set_index (object hash) (symbol_named (codes "b") ∷ nil ∷ [])) ≡ Some (table ((symbol_named (codes "a"), i 1) ∷ (symbol_named (codes "b"), nil) ∷ []) (i 7), 2, nil)) ×
    (left hash (of hash_set_index (object hash) (symbol_named (codes "a") ∷ nil ∷ [])) ≡ Some (table ((symbol_named (codes "a"), nil) ∷ []) (i 7), 0, nil)) ×
    (of hash_set_index (object cold_hash) (nil ∷ nil ∷ []) ≡ raises class.frozen_error (codes "can't modify frozen Hash")) ×
    (left hash (of hash_delete (object hash) (symbol_named (codes "a") ∷ [])) ≡ Some (table [] (i 7), 0, i 1)) ×
    (left hash (of hash_delete (object hash) (nil ∷ [])) ≡ Some (table ((symbol_named (codes "a"), i 1) ∷ []) (i 7), 0, nil)) ×
    (made (of hash_merge (object hash) (object more_pairs ∷ [])) ≡ Some (5, table ((symbol_named (codes "a"), i 5) ∷ (symbol_named (codes "b"), i 2) ∷ []) (i 7))) ×
    (of hash_merge (object hash) (object three ∷ []) ≡ raises class.type_error (codes "no implicit conversion of Array into Hash")) ×
    (made (of hash_keys (object hash) []) ≡ Some (2, elements (symbol_named (codes "a") ∷ [])))
unfolding digits
hashes = (refl, refl, refl, refl, refl, refl, refl, refl, refl, refl)

-- Ranges
ranges :
    (of range_first (object span_value) [] ≡ value (i 1)) ×
    (of range_last (object span_value) [] ≡ value (i 3)) ×
    (of range_excludes_end (object span_value) [] ≡ value yes)
unfolding digits
ranges = (refl, refl, refl)

-- what all values have
objects :
    (of object_equal (object three) (object three ∷ []) ≡ value yes) ×
    (of object_equal (object three) (object none ∷ []) ≡ value no) ×
    (of object_equal nil (no ∷ []) ≡ value no) ×
    (of object_class (i 1) [] ≡ value (object class.integer_class)) ×
    (of object_class (object foo) [] ≡ value (object class.class_class)) ×
    (of object_class (object mixin) [] ≡ value (object class.module_class)) ×
    (of object_is_a (object foo) (object class.module_class ∷ []) ≡ value yes) ×
    (of object_is_a (i 1) (i 1 ∷ []) ≡ raises class.type_error (codes "no implicit conversion of Integer into Module")) ×
    (of object_responds (i 1) (object ab ∷ []) ≡ raises class.type_error (codes "no implicit conversion of String into Symbol")) ×
    (of object_responds (i 1) (symbol_named (codes "a") ∷ []) ≡ value no) ×
    (made (of object_to_text (object thing) []) ≡ Some (2, string (codes "#<Object>"))) ×
    (made (of object_to_text (object class.main_object) []) ≡ Some (2, string (codes "main"))) ×
    (of object_is_frozen (object ab) [] ≡ value yes) ×
    (of object_is_frozen (object three) [] ≡ value no) ×
    (of object_is_frozen (object span_value) [] ≡ value no) ×
    (of object_copy (object ab) [] ≡ value (object ab)) ×
    (made (of object_copy (object cold) []) ≡ Some (2, elements (i 1 ∷ []))) ×
    (made (of object_copy (object thing) []) ≡ Some (2, plain class.object_class)) ×
    (made (of object_new_table (object class.hash_class) (i 3 ∷ [])) ≡ Some (1, table [] (i 3))) ×
    (made (of nil_to_text nil []) ≡ Some (1, string [])) ×
    (made (of nil_to_array nil []) ≡ Some (1, elements [])) ×
    (made (of bool_inspect no []) ≡ Some (2, string (codes "false")))
unfolding digits
objects = (refl, refl, refl, refl, refl, refl, refl, refl, refl, refl, refl, refl, refl, refl, refl, refl, refl, refl, refl, refl, refl, refl)

-- classes and modules
modules :
    (made (of module_name (object foo) []) ≡ Some (2, string (codes "A::Foo"))) ×
    (of module_superclass (object foo) [] ≡ value (object class.object_class)) ×
    (of module_superclass (object class.object_class) [] ≡ value nil) ×
    (of module_case_equal (object class.object_class) (i 1 ∷ []) ≡ value yes) ×
    (of module_include (object mixin) (object mixin ∷ []) ≡ raises class.argument_error (codes "cyclic include detected")) ×
    (of module_include (object foo) (object class.object_class ∷ []) ≡ raises class.type_error (codes "no implicit conversion of Class into Module")) ×
    (of module_attribute_reader (object foo) (symbol_named (codes "a") ∷ i 1 ∷ []) ≡ raises class.type_error (codes "no implicit conversion of Integer into Symbol")) ×
    (of class_allocate (object class.integer_class) [] ≡ raises class.type_error (codes "allocator undefined for Integer")) ×
    (made (of class_allocate (object foo) []) ≡ Some (1, plain foo))
unfolding digits
modules = (refl, refl, refl, refl, refl, refl, refl, refl, refl)

-- ---- changes of classes

abbrev store_of : Answer → Objects
store_of (gives c s v) = s
store_of (raises c m) = []

abbrev cells_of : Answer → ℕ
cells_of (gives c s v) = c
cells_of (raises c m) = 0

-- A module that was included is found, and including it once more changes nothing.
abbrev with_mixin : Objects
with_mixin = store_of (of module_include (object foo) (object mixin ∷ []))

included :
    ((class_at with_mixin foo).modules ≡ mixin ∷ []) ×
    (meaning_of module_include with_mixin (object foo) (object mixin ∷ []) ≡ answers with_mixin (object foo)) ×
    (meaning_of module_include with_mixin (object mixin) (object inner ∷ []) ≡ answers (store_of (meaning_of module_include with_mixin (object mixin) (object inner ∷ []))) (object mixin))
included = (refl, refl, refl)

-- An accessor makes two rows, and so costs two cells.
abbrev with_accessor : Answer
with_accessor = of module_attribute_accessor (object foo) (symbol_named (codes "a") ∷ [])

accessors :
    (cells_of with_accessor ≡ 2) ×
    ((class_at (store_of with_accessor) foo).methods ≡ record { name = codes "a="; body = writer (codes "@a") } ∷ record { name = codes "a"; body = reader (codes "@a") } ∷ [])
accessors = (refl, refl)

-- A frozen Array stays, and is no other one than before.
frozen_arrays : (is_frozen_at (store_of (of object_freeze (object three) [])) three ≡ true) × (cells_of (of object_freeze (object three) []) ≡ 0)
frozen_arrays = (refl, refl)

-- ---- counts and rows

counts : (fits (count_of string_index) 3 ≡ false) × (fits (count_of array_push) 0 ≡ true) × (fits (count_of integer_add) 0 ≡ false) × (fits (count_of string_split) 1 ≡ true)
counts = (refl, refl, refl, refl)

row_count : length native_rows ≡ 143
row_count = refl

-- no name stands twice at one place
abbrev same_place : Place → Place → Bool
same_place (rows_of c) (rows_of d) = nat_eq c d
same_place (class_rows_of c) (class_rows_of d) = nat_eq c d
same_place p q = false

abbrev stands_in : Place → Bytes → List (Place × Bytes × Native) → Bool
stands_in p x [] = false
stands_in p x (r ∷ rs) = (same_place p r.0 && same x r.1) || stands_in p x rs

abbrev repeats : List (Place × Bytes × Native) → Bool
repeats [] = false
repeats (r ∷ rs) = stands_in r.0 r.1 rs || repeats rs

no_repeats : repeats native_rows ≡ false
no_repeats = refl
