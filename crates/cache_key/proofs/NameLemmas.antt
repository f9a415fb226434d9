use Rattle.std.proofs.Common.{◌≡◌, ℕ, zero, suc, ◌+◌, ◌-◌, ◌*◌, ◌/◌, ◌%◌, ◌^◌, ◌<◌, true, List, [], ◌∷◌, ◌++◌, length, take, drop, append_assoc, get_or, set, refl, sym, ◌∙◌, ap, arith, bit_and}
use Rattle.std.proofs.Math.Nat.{pow-suc}
use Rattle.std.proofs.lemmas.Nat.{pow-add, and_mask}
use Rattle.std.proofs.lemmas.List.{take-set, take_more_same, get_or-set_same, length-set}
use Rattle.bs_outside.specs.declared.names.CacheName.{CacheName}
use Rattle.cache_key.specs.Key.{is_hashed, hex_digit, hex_of, folder_of, name_text_of}

pub pow16 : (n : ℕ) → 2 ^ (4 * n) ≡ 16 ^ n
pow16 zero = refl
pow16 (suc n) =
    let e : 4 * suc n ≡ 4 * n + 4 = omega arith in
    rw (pow-suc 16 n, e, pow-add 2 (4 * n) 4, pow16 n) refl

pub length-hex_of : (n number : ℕ) → length (hex_of n number) ≡ n
unfolding hex_of
length-hex_of zero number = refl
length-hex_of (suc n) number = ap suc (length-hex_of n number)

pub hex_at : (n k number d : ℕ) → k < n → get_or (hex_of n number) k d ≡ hex_digit (number / 16 ^ (n - 1 - k) % 16)
unfolding hex_of
hex_at zero k number d below = absurd (omega arith)
hex_at (suc n) zero number d below = let e : n ≡ suc n - 1 - zero = omega arith in ap (λ (m : ℕ). hex_digit (number / 16 ^ m % 16)) e
hex_at (suc n) (suc k) number d below =
    let e : n - 1 - k ≡ suc n - 1 - suc k = omega arith in
    hex_at n k number d (omega arith) ∙ ap (λ (m : ℕ). hex_digit (number / 16 ^ m % 16)) e

-- one digit more
pub digit_more : (digits : List ℕ) (place hash digit number : ℕ) → length digits ≡ 16 → place < 16 → take place digits ≡ take place (hex_of 16 hash)
    → number ≡ bit_and (hash / 2 ^ (4 * (15 - place))) 15 → digit ≡ hex_digit number
    → take (place + 1) (set digits place digit) ≡ take (place + 1) (hex_of 16 hash)
digit_more digits place hash digit number long below so_far is shown =
    let value : number ≡ hash / 16 ^ (16 - 1 - place) % 16 = is ∙ and_mask (hash / 2 ^ (4 * (15 - place))) 4 ∙ ap (λ (m : ℕ). hash / m % 16) (pow16 (15 - place)) in
    take_more_same (set digits place digit) (hex_of 16 hash) place 0 (omega (arith, length-set digits place digit)) (omega (arith, length-hex_of 16 hash)) (take-set digits place digit ∙ so_far)
    (get_or-set_same digits place digit 0 (omega arith) ∙ shown ∙ ap hex_digit value ∙ sym (hex_at 16 place hash 0 below))

-- a name's text, piece by piece
pub text_is : (name : CacheName) (folder digits first second third all : List ℕ) → is_hashed name.kind ≡ true → folder ≡ folder_of name.kind → digits ≡ hex_of 16 name.hash
    → first ≡ folder → second ≡ first ++ take 2 digits → third ≡ second ++ 47 ∷ [] → all ≡ third ++ drop 2 digits → all ≡ name_text_of name
text_is name folder digits first second third all hashed at shown begun one slash two =
    let pieces : third ++ drop 2 digits ≡ folder ++ (take 2 digits ++ 47 ∷ drop 2 digits) =
    rw (slash, one, begun) (simp append_assoc) in
    two ∙ pieces ∙ rw (hashed, at, shown) refl
