-- What a call leaves that is short of memory.
use Rattle.std.proofs.Common.{◌≡◌, ℕ, List, [], ◌++◌, length, get_or, set, sym, ◌∙◌, ap, subst, arith}
use Rattle.std.proofs.lemmas.List.{take_all, set-get_or}
use Rattle.bs_outside.specs.Cache.{CacheItem}
use Rattle.mem_shelf.specs.Schedule.{number_after}
use Rattle.mem_shelf.specs.Keeping.{Keeping, due, arrived, ArrivesPartly, RenamesPartly}

-- all of the guests came
pub all_arrived : (old new : Keeping) → new ≡ arrived old → ArrivesPartly old new
all_arrived old new is =
    (length (due old), is ∙ sym (ap (λ (l : List CacheItem). record old { calls = number_after old.calls; past = old.past ++ l }) (take_all (length (due old)) (due old) (omega arith))))

-- the temporaries, where they were opened, are as they were
pub all_arrived_at : (old kept mid : Keeping) (temps : List (List ℕ)) → kept ≡ mid → mid ≡ arrived old → temps ≡ kept.temps → ArrivesPartly old (record kept { temps = temps })
all_arrived_at old kept mid temps opened is same = all_arrived old (record kept { temps = temps }) (ap (λ (l : List (List ℕ)). record kept { temps = l }) same ∙ opened ∙ is)

-- an element is written as it was
pub set_same : (temps : List (List ℕ)) (i : ℕ) (was now : List ℕ) → now ≡ was → was ≡ get_or temps i was → set temps i now ≡ temps
set_same temps i was now is found = ap (set temps i) (is ∙ found) ∙ set-get_or temps i was

-- no temporary was touched
pub none_renamed : (old new : Keeping) (temp : ℕ) → ArrivesPartly old new → RenamesPartly temp old new
none_renamed old new temp arrives =
    let bytes = get_or old.temps temp [] in
    let same : record old { temps = set old.temps temp bytes } ≡ old = ap (λ (l : List (List ℕ)). record old { temps = l }) (set-get_or old.temps temp []) in
    (bytes, subst (λ (kept : Keeping). ArrivesPartly kept new) (sym same) arrives)
