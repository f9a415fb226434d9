-- The slots of a small file's locals.
use Rattle.std.proofs.Common.{◌≡◌, ℕ, ◌+◌, Bool, true, false, cond, is_some, ◌||◌, Option, Some, None, List, [], ◌∷◌, ◌++◌, length, refl, sym, ap, ◌∙◌, arith, Bor}
use Rattle.std.specs.List.{list_any, position, position_from}
use Rattle.std.specs.Option.{option_copied}
use Rattle.std.specs.Ordering.{nat_cmp, eq_by_cmp}
use Rattle.std.specs.Cmp.Lexicographic.{slice_cmp, nat_list_cmp_total, texts_ties, same_text}
use Rattle.std.specs.Cmp.{eq_by_cmp_equiv}
use Rattle.std.specs.FinMap as map
use Rattle.std.proofs.lemmas.Iterator.Adapters.{position_from-zero}
use Rattle.bs_outside.specs.Paths.{same_bytes}
use Rattle.cache_meaning.specs.SmallUnit.{is_among, with_name}
use Rattle.compile_cache.specs.SmallSlots.{Slots, AreSlots}

-- ---- places in a list

none_kept : (b : Bool) (i : ℕ) (o : Option ℕ) → cond b (Some i) o ≡ None → (b ≡ false) × (o ≡ None)
none_kept true i o e = absurd cc
none_kept false i o e = (refl, e)

push_other : {X : Type 0} (p : X → Bool) (i : ℕ) (xs : List X) (y : X) → p y ≡ false → position_from p i (xs ++ y ∷ []) ≡ position_from p i xs
push_other p i [] y e = rw e refl
push_other p i (x ∷ xs) y e = ap (cond (p x) (Some i)) (push_other p (i + 1) xs y e)

push_first : {X : Type 0} (p : X → Bool) (i : ℕ) (xs : List X) (y : X) → position_from p i xs ≡ None → p y ≡ true → position_from p i (xs ++ y ∷ []) ≡ Some (i + length xs)
push_first p i [] y n e = rw e (ap Some (omega arith))
push_first p i (x ∷ xs) y n e =
    let k = none_kept (p x) i (position_from p (i + 1) xs) n in
    let rest : position_from p (i + 1) (xs ++ y ∷ []) ≡ Some (i + 1 + length xs) = push_first p (i + 1) xs y k.1 e in
    rw (k.0, rest) (ap Some (omega arith))

or_some : (b : Bool) (i : ℕ) (o : Option ℕ) → (b || is_some o) ≡ is_some (cond b (Some i) o)
or_some true i o = refl
or_some false i o = refl

any_is_some : {X : Type 0} (p : X → Bool) (i : ℕ) (xs : List X) → list_any p xs ≡ is_some (position_from p i xs)
any_is_some p i [] = refl
any_is_some p i (x ∷ xs) = ap (λ b. p x || b) (any_is_some p (i + 1) xs) ∙ or_some (p x) i (position_from p (i + 1) xs)

-- ---- slots

-- no names have no slots
pub no_slots : (slots : Slots) → slots ≡ map.empty → AreSlots [] slots
no_slots slots e name = ap (λ m. map.get m name) e ∙ map.get-empty (slice_cmp nat_cmp) name

among_is_some : (names : List (List ℕ)) (slots : Slots) (name : List ℕ) → AreSlots names slots → is_among names name ≡ is_some (map.get slots name)
among_is_some names slots name h =
    any_is_some (λ other. same_bytes other name) 0 names ∙ ap is_some (sym (h name ∙ position_from-zero (λ other. same_bytes other name) names))

copied_is_some : (o : Option (Bor ℕ)) → is_some (option_copied o) ≡ is_some o
copied_is_some None = refl
copied_is_some (Some r) = refl

-- whether a name was found says whether it is among the names
found_is_among : (names : List (List ℕ)) (slots : Slots) (name : List ℕ) (o : Option (Bor ℕ)) → AreSlots names slots → option_copied o ≡ map.get slots name → is_among names name ≡ is_some o
found_is_among names slots name o h e = among_is_some names slots name h ∙ ap is_some (sym e) ∙ copied_is_some o

pub name_kept : (names : List (List ℕ)) (slots : Slots) (name : List ℕ) (o : Option (Bor ℕ)) → AreSlots names slots → option_copied o ≡ map.get slots name → is_some o ≡ true → with_name names name ≡ names
name_kept names slots name o h e f = rw (found_is_among names slots name o h e ∙ f) refl

name_added : (names : List (List ℕ)) (slots : Slots) (name : List ℕ) (o : Option (Bor ℕ)) → AreSlots names slots → option_copied o ≡ map.get slots name → is_some o ≡ false → with_name names name ≡ names ++ name ∷ []
name_added names slots name o h e f = rw (found_is_among names slots name o h e ∙ f) refl

none_from : (o : Option ℕ) → is_some o ≡ false → o ≡ None
none_from None e = refl
none_from (Some n) e = absurd cc

-- the place of a name, where one more stands at the end
place_push : (names : List (List ℕ)) (name q : List ℕ) → position (λ other. same_bytes other name) names ≡ None → (b : Bool) → b ≡ same_bytes name q → position (λ other. same_bytes other q) (names ++ name ∷ []) ≡ cond b (Some (length names)) (position (λ other. same_bytes other q) names)
place_push names name q n true e =
    let same : name ≡ q = same_text name q e in
    let missing : position_from (λ other. same_bytes other q) 0 names ≡ None = sym (position_from-zero (λ other. same_bytes other q) names) ∙ rw (← same) n in
    position_from-zero (λ other. same_bytes other q) (names ++ name ∷ []) ∙ push_first (λ other. same_bytes other q) 0 names name missing (sym e) ∙ ap Some (omega arith)
place_push names name q n false e =
    position_from-zero (λ other. same_bytes other q) (names ++ name ∷ []) ∙ push_other (λ other. same_bytes other q) 0 names name (sym e) ∙ sym (position_from-zero (λ other. same_bytes other q) names)

slots_push : (names : List (List ℕ)) (slots new : Slots) (name : List ℕ) (o : Option (Bor ℕ)) (slot : ℕ) → AreSlots names slots → option_copied o ≡ map.get slots name → is_some o ≡ false → slot ≡ length names → new ≡ map.insert slots name slot → AreSlots (names ++ name ∷ []) new
slots_push names slots new name o slot h e f s i q =
    let missing : map.get slots name ≡ None = sym e ∙ none_from (option_copied o) (copied_is_some o ∙ f) in
    let test : eq_by_cmp (slice_cmp nat_cmp) q name ≡ same_bytes name q = (eq_by_cmp_equiv nat_list_cmp_total).symm q name ∙ sym (texts_ties name q) in
    ap (λ m. map.get m q) i ∙ map.get-insert nat_list_cmp_total slots name slot q ∙ ap (λ b. cond b (Some slot) (map.get slots q)) test
    ∙ ap (λ n. cond (same_bytes name q) (Some n) (map.get slots q)) s ∙ ap (cond (same_bytes name q) (Some (length names))) (h q)
    ∙ sym (place_push names name q (sym (h name) ∙ missing) (same_bytes name q) refl)

-- a name more, with the next slot
pub slots_more : (names after : List (List ℕ)) (slots new : Slots) (name first second : List ℕ) (o : Option (Bor ℕ)) (slot : ℕ) → AreSlots names slots → option_copied o ≡ map.get slots name → is_some o ≡ false → slot ≡ length names → first ≡ name → second ≡ name
    → new ≡ map.insert slots first slot → after ≡ names ++ second ∷ [] → AreSlots after new
slots_more names after slots new name first second o slot h e f s copied again i p =
    rw (p, again) (slots_push names slots new name o slot h e f s (i ∙ ap (λ key. map.insert slots key slot) copied))

pub name_more : (names after : List (List ℕ)) (slots : Slots) (name second : List ℕ) (o : Option (Bor ℕ)) → AreSlots names slots → option_copied o ≡ map.get slots name → is_some o ≡ false → second ≡ name → after ≡ names ++ second ∷ [] → after ≡ with_name names name
name_more names after slots name second o h e f again p = p ∙ rw again (sym (name_added names slots name o h e f))
