-- Lists that were put element by element.
use Rattle.std.proofs.Common.{◌≡◌, ℕ, ◌≤◌, ◌<◌, ◌^◌, List, ◌++◌, length, take, All, ap, subst, ◌∙◌, append_assoc}
use Rattle.std.specs.List.{flat_map}
use Rattle.std.proofs.lemmas.List.{take_all}
use Rattle.std.proofs.lemmas.List.Elements.{recursion_from_All}
use Rattle.iseq_dump.specs.Dump.{Puts, IsList, list_bytes, number_bytes}

pub list_put : {X : Type 0} (Fits : X → Type 0) (bytes : X → List ℕ) (xs : List X) (i : ℕ) (old new : List ℕ) → length xs ≤ i → length xs < 2 ^ 64 → new ≡ (old ++ number_bytes (length xs)) ++ flat_map bytes (take i xs) → All Fits (take i xs)
    → Puts (IsList Fits) (list_bytes bytes) xs old new
list_put {X} Fits bytes xs i old new le small spelled fits =
    let all : take i xs ≡ xs = take_all i xs le in
    record {
      fits = (small, recursion_from_All Fits xs (subst (λ (ys : List X). All Fits ys) all fits));
      spelled = spelled ∙ (ap (λ (ys : List X). (old ++ number_bytes (length xs)) ++ flat_map bytes ys) all ∙ append_assoc old (number_bytes (length xs)) (flat_map bytes xs));
    }
