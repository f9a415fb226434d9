-- The rows of the heads, each with the numbers that it is for.
use Rattle.std.proofs.Common.{◌≡◌, ℕ, ◌+◌, ◌-◌, ◌^◌, ◌<◌, ◌≤◌, false, [], ◌∷◌, arith}
use Rattle.std.proofs.lemmas.Bool.Decides.{nat_tests}
use Rattle.msgpack_codec.specs.Message.{counted, natural, negative, str_head, sym_head, list_head, map_head}
use Rattle.msgpack_codec.specs.Heads.{is_fixed}

pub natural_fix : (n : ℕ) → n < 2 ^ 7 → natural n ≡ n ∷ []
unfolding natural
natural_fix n h = grind (arith, nat_tests)

pub natural_8 : (n : ℕ) → 2 ^ 7 ≤ n → n < 2 ^ 8 → natural n ≡ counted 0xcc 1 n
unfolding natural
natural_8 n h k = grind (arith, nat_tests)

pub natural_16 : (n : ℕ) → 2 ^ 8 ≤ n → n < 2 ^ 16 → natural n ≡ counted 0xcd 2 n
unfolding natural
natural_16 n h k = grind (arith, nat_tests)

pub natural_32 : (n : ℕ) → 2 ^ 16 ≤ n → n < 2 ^ 32 → natural n ≡ counted 0xce 4 n
unfolding natural
natural_32 n h k = grind (arith, nat_tests)

pub natural_64 : (n : ℕ) → 2 ^ 32 ≤ n → natural n ≡ counted 0xcf 8 n
unfolding natural
natural_64 n h = grind (arith, nat_tests)

pub negative_fix : (n : ℕ) → n < 2 ^ 5 → negative n ≡ (0xff - n) ∷ []
unfolding negative
negative_fix n h = grind (arith, nat_tests)

pub negative_8 : (n : ℕ) → 2 ^ 5 ≤ n → n < 2 ^ 7 → negative n ≡ counted 0xd0 1 (0xff - n)
unfolding negative
negative_8 n h k = grind (arith, nat_tests)

pub negative_16 : (n : ℕ) → 2 ^ 7 ≤ n → n < 2 ^ 15 → negative n ≡ counted 0xd1 2 (0xffff - n)
unfolding negative
negative_16 n h k = grind (arith, nat_tests)

pub negative_32 : (n : ℕ) → 2 ^ 15 ≤ n → n < 2 ^ 31 → negative n ≡ counted 0xd2 4 (0xffff_ffff - n)
unfolding negative
negative_32 n h k = grind (arith, nat_tests)

pub negative_64 : (n : ℕ) → 2 ^ 31 ≤ n → negative n ≡ counted 0xd3 8 (0xffff_ffff_ffff_ffff - n)
unfolding negative
negative_64 n h = grind (arith, nat_tests)

pub str_fix : (n : ℕ) → n < 2 ^ 5 → str_head n ≡ (0xa0 + n) ∷ []
unfolding str_head
str_fix n h = grind (arith, nat_tests)

pub str_8 : (n : ℕ) → 2 ^ 5 ≤ n → n < 2 ^ 8 → str_head n ≡ counted 0xd9 1 n
unfolding str_head
str_8 n h k = grind (arith, nat_tests)

pub str_16 : (n : ℕ) → 2 ^ 8 ≤ n → n < 2 ^ 16 → str_head n ≡ counted 0xda 2 n
unfolding str_head
str_16 n h k = grind (arith, nat_tests)

pub str_32 : (n : ℕ) → 2 ^ 16 ≤ n → str_head n ≡ counted 0xdb 4 n
unfolding str_head
str_32 n h = grind (arith, nat_tests)

pub sym_8 : (n : ℕ) → is_fixed n ≡ false → n < 2 ^ 8 → sym_head n ≡ counted 0xc7 1 n
unfolding sym_head
sym_8 n h k = grind (arith, nat_tests)

pub sym_16 : (n : ℕ) → 2 ^ 8 ≤ n → n < 2 ^ 16 → sym_head n ≡ counted 0xc8 2 n
unfolding sym_head
sym_16 n h k = grind (arith, nat_tests)

pub sym_32 : (n : ℕ) → 2 ^ 16 ≤ n → sym_head n ≡ counted 0xc9 4 n
unfolding sym_head
sym_32 n h = grind (arith, nat_tests)

pub list_fix : (n : ℕ) → n < 2 ^ 4 → list_head n ≡ (0x90 + n) ∷ []
unfolding list_head
list_fix n h = grind (arith, nat_tests)

pub list_16 : (n : ℕ) → 2 ^ 4 ≤ n → n < 2 ^ 16 → list_head n ≡ counted 0xdc 2 n
unfolding list_head
list_16 n h k = grind (arith, nat_tests)

pub list_32 : (n : ℕ) → 2 ^ 16 ≤ n → list_head n ≡ counted 0xdd 4 n
unfolding list_head
list_32 n h = grind (arith, nat_tests)

pub map_fix : (n : ℕ) → n < 2 ^ 4 → map_head n ≡ (0x80 + n) ∷ []
unfolding map_head
map_fix n h = grind (arith, nat_tests)

pub map_16 : (n : ℕ) → 2 ^ 4 ≤ n → n < 2 ^ 16 → map_head n ≡ counted 0xde 2 n
unfolding map_head
map_16 n h k = grind (arith, nat_tests)

pub map_32 : (n : ℕ) → 2 ^ 16 ≤ n → map_head n ≡ counted 0xdf 4 n
unfolding map_head
map_32 n h = grind (arith, nat_tests)
