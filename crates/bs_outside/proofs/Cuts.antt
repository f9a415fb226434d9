use Rattle.std.proofs.Common.{◌≡◌, ℕ, ◌+◌, ◌-◌, ◌<◌, ◌≤◌, ◌==◌, nat_lt, cond, List, [], ◌∷◌, length, take, drop, Some, None, ◌∙◌, ap, arith}
use Rattle.std.specs.List.{position, position_or_len}
use Rattle.std.proofs.lemmas.Bool.Decides.{nat_tests}
use Rattle.std.proofs.lemmas.List.{take_rest}
use Rattle.std.proofs.lemmas.List.Quantifiers.{position-Some}
use Rattle.std.proofs.lemmas.List.Splits.{slice_split_none, slice_split_first}
use Rattle.std.proofs.lemmas.List.Sums.{position_or_len_is, fails_before_first}
use Rattle.bs_outside.specs.Parts.{parts_of}

-- where the byte stands, what is before it is the first part
pub parts_at : (byte : ℕ) (text : List ℕ) (at : ℕ) → position (λ b. b == byte) text ≡ Some at → parts_of byte text ≡ take at text ∷ parts_of byte (take (length text - (at + 1)) (drop (at + 1) text))
parts_at byte text at e =
    let found = position-Some (λ b. b == byte) text at 0 e in
    let place : position_or_len (λ b. b == byte) text ≡ at = position_or_len_is (λ b. b == byte) text at 0 (omega (arith, found.0)) found.2 (λ _. found.1) in
    let here : position_or_len (λ b. b == byte) text < length text = rw place found.0 in
    rw (take_rest text (at + 1)) (slice_split_first (λ b. b == byte) text 0 here ∙ ap (λ n. take n text ∷ parts_of byte (drop (n + 1) text)) place)

not_below : (a b : ℕ) → cond (nat_lt a b) (Some a) None ≡ None → b ≤ a
not_below a b e = grind (arith, nat_tests)

-- where it does not stand, there is one part
pub parts_none : (byte : ℕ) (text : List ℕ) → position (λ b. b == byte) text ≡ None → parts_of byte text ≡ text ∷ []
parts_none byte text e =
    let behind : length text ≤ position_or_len (λ b. b == byte) text = not_below _ _ e in
    slice_split_none (λ b. b == byte) text (λ k d within. fails_before_first (λ b. b == byte) text k d (omega arith))
