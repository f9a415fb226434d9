-- Loops that count down, and what they find.
use Rattle.std.proofs.Common.{◌≡◌, ℕ, ◌+◌, ◌-◌, ◌<◌, ◌≤◌, List, ◌∷◌, ◌++◌, length, drop, get_or, ap, sym, ◌∙◌, arith}
use Rattle.std.proofs.lemmas.List.{drop_more, append_assoc}

-- the element of a turn, and what the turns before have been through
pub turn : {X : Type 0} (xs : List X) (i : ℕ) (x : X) → 0 < i → i ≤ length xs → x ≡ get_or xs (i - 1) x → drop (i - 1) xs ≡ x ∷ drop i xs
turn xs i x some within is =
    let next : i - 1 + 1 ≡ i = omega arith in
    drop_more xs (i - 1) x (omega arith) ∙ ap (λ y. y ∷ drop (i - 1 + 1) xs) (sym is) ∙ ap (λ j. x ∷ drop j xs) next

-- what a turn finds stands behind what the turns before have found
pub found_behind : {X : Type 0} (old mid new found more : List X) → mid ≡ old ++ found → new ≡ mid ++ more → new ≡ old ++ (found ++ more)
found_behind old mid new found more is told = told ∙ ap (λ xs. xs ++ more) is ∙ append_assoc old found more
