-- Values in slots: those of the names that were assigned.
use Rattle.std.proofs.Common.{◌≡◌, ◌≢◌, ℕ, ℤ, pos, ◌+◌, ◌<◌, Bool, true, false, cond, not, ◌||◌, nat_lt, suc, zero, Some, None, List, [], ◌∷◌, ◌++◌, length, is_some, replicate, slice_get, slice_set, get_or, unwrap_or, refl, sym, ap, ◌∙◌, subst, arith, length-set}
use Rattle.std.proofs.lemmas.List.{length-replicate}
use Rattle.std.specs.List.{list_any, position, position_or_len}
use Rattle.std.specs.Ordering.{nat_cmp, eq_by_cmp}
use Rattle.std.specs.Cmp.{eq_by_cmp_equiv}
use Rattle.std.specs.Cmp.Lexicographic.{slice_cmp, nat_list_cmp_total}
use Rattle.std.specs.FinMap as map
use Rattle.std.specs.FinMap.{get-insert, get-empty, slice_cmp-IsAntisymmetric, nat_cmp-IsAntisymmetric}
use Rattle.std.proofs.lemmas.Map.Views.{tells_apart}
use Rattle.std.proofs.lemmas.Bool.{false≢true}
use Rattle.std.proofs.lemmas.Bool.Decides.{nat_tests}
use Rattle.std.proofs.lemmas.Slice.Eq.{bytes_eq-Decides}
use Rattle.std.proofs.lemmas.List.Quantifiers.{position-Some}
use Rattle.std.proofs.lemmas.List.Folds.{list_any-append}
use Rattle.bs_outside.specs.Paths.{same_bytes}
use Rattle.cache_meaning.specs.SmallUnit.{is_among, with_name, locals_behind, slot_of}
use Rattle.small_form.specs.SmallForm.{Names}
use Rattle.small_form.specs.declared.tree.Line.{Line}
use Rattle.small_form.specs.declared.tree.Line.TheVariants as line
use Rattle.bootsnap_top.specs.SmallRun.{Values}
use Rattle.bootsnap_top.specs.Machine.{Datum, Nil, Integer}

-- ---- slots of names

first_below : {X : Type 0} (p : X → Bool) (xs : List X) → list_any p xs ≡ true → position_or_len p xs < length xs
first_below p [] h = absurd (false≢true h)
first_below p (x ∷ xs) h =
    elim (p x) as (λ b. (b || list_any p xs) ≡ true → cond (not b) (1 + position_or_len p xs) 0 < suc (length xs)) [
      | true ↦ λ k. omega arith
      | false ↦ λ k. let less = first_below p xs k in omega (arith, less)
    ] h

some_slot : (b : Bool) (n : ℕ) → b ≡ true → cond b (Some n) None ≡ Some (unwrap_or (cond b (Some n) None) 0)
some_slot true n h = refl
some_slot false n h = absurd (false≢true h)

below_true : (n m : ℕ) → n < m → nat_lt n m ≡ true
below_true n m h = grind (arith, nat_tests)

found : (names : List (List ℕ)) (name : List ℕ) → is_among names name ≡ true → position (λ other. same_bytes other name) names ≡ Some (slot_of names name)
found names name h =
    let p = λ (other : List ℕ). same_bytes other name in
    some_slot (nat_lt (position_or_len p names) (length names)) (position_or_len p names) (below_true _ _ (first_below p names h))

pub slot_below : (names : List (List ℕ)) (name : List ℕ) → is_among names name ≡ true → slot_of names name < length names
slot_below names name h = (position-Some (λ other. same_bytes other name) names (slot_of names name) [] (found names name h)).0

name_there : (names : List (List ℕ)) (name : List ℕ) → is_among names name ≡ true → get_or names (slot_of names name) [] ≡ name
name_there names name h = (bytes_eq-Decides (get_or names (slot_of names name) []) name).0 (position-Some (λ other. same_bytes other name) names (slot_of names name) [] (found names name h)).1

-- two names have two slots
slots_apart : (names : List (List ℕ)) (a b : List ℕ) → is_among names a ≡ true → is_among names b ≡ true → slot_of names a ≡ slot_of names b → a ≡ b
slots_apart names a b h k e = sym (name_there names a h) ∙ ap (λ i. get_or names i []) e ∙ name_there names b k

-- ---- names that lines assign are among the locals

same_itself : (name : List ℕ) → same_bytes name name ≡ true
same_itself name = (bytes_eq-Decides name name).1 refl

any_pushed : (names : List (List ℕ)) (name other : List ℕ) → is_among (names ++ name ∷ []) other ≡ (is_among names other || (same_bytes name other || false))
any_pushed names name other = list_any-append (λ o. same_bytes o other) names (name ∷ [])

or_true : (b : Bool) → (b || true) ≡ true
or_true true = refl
or_true false = refl

with_name_has : (names : List (List ℕ)) (name : List ℕ) → is_among (with_name names name) name ≡ true
with_name_has names name =
    elim (is_among names name) as (λ b. is_among names name ≡ b → is_among (cond b names (names ++ name ∷ [])) name ≡ true) [
      | true ↦ λ e. e
      | false ↦ λ e. any_pushed names name name ∙ rw (same_itself name) (or_true (is_among names name))
    ] refl

with_name_keeps : (names : List (List ℕ)) (name other : List ℕ) → is_among names other ≡ true → is_among (with_name names name) other ≡ true
with_name_keeps names name other h =
    elim (is_among names name) as (λ b. is_among (cond b names (names ++ name ∷ [])) other ≡ true) [
      | true ↦ h
      | false ↦ any_pushed names name other ∙ rw h refl
    ]

locals_keep : (names : List (List ℕ)) (lines : List Line) (other : List ℕ) → is_among names other ≡ true → is_among (locals_behind names lines) other ≡ true
locals_keep names [] other h = h
locals_keep names (line.Empty ∷ lines) other h = locals_keep names lines other h
locals_keep names (line.Assign name s ∷ lines) other h = locals_keep (with_name names name) lines other (with_name_keeps names name other h)
locals_keep names (line.PutsSum s ∷ lines) other h = locals_keep names lines other h
locals_keep names (line.PutsText text ∷ lines) other h = locals_keep names lines other h

-- the name that the line assigns is among these
abbrev pub AssignsAmong : List (List ℕ) → Line → Type 0
AssignsAmong locals line.Empty = Unit {0}
AssignsAmong locals (line.Assign name s) = is_among locals name ≡ true
AssignsAmong locals (line.PutsSum s) = Unit {0}
AssignsAmong locals (line.PutsText text) = Unit {0}

abbrev pub AllAssignAmong : List (List ℕ) → List Line → Type 0
AllAssignAmong locals [] = Unit {0}
AllAssignAmong locals (first ∷ lines) = AssignsAmong locals first × AllAssignAmong locals lines

pub locals_have : (names : List (List ℕ)) (lines : List Line) → AllAssignAmong (locals_behind names lines) lines
locals_have names [] = tt
locals_have names (line.Empty ∷ lines) = (tt, locals_have names lines)
locals_have names (line.Assign name s ∷ lines) = (locals_keep (with_name names name) lines name (with_name_has names name), locals_have (with_name names name) lines)
locals_have names (line.PutsSum s ∷ lines) = (tt, locals_have names lines)
locals_have names (line.PutsText text ∷ lines) = (tt, locals_have names lines)

-- ---- values in slots

get_set_same : {A : Type 0} (xs : List A) (i : ℕ) (x : A) → i < length xs → slice_get (slice_set xs i x) i ≡ Some x
get_set_same [] i x h = absurd (omega arith)
get_set_same (y ∷ xs) zero x h = refl
get_set_same (y ∷ xs) (suc i) x h = get_set_same xs i x (omega arith)

get_set_other : {A : Type 0} (xs : List A) (i j : ℕ) (x : A) → j ≢ i → slice_get (slice_set xs i x) j ≡ slice_get xs j
get_set_other [] i j x h = refl
get_set_other (y ∷ xs) zero zero x h = absurd (h refl)
get_set_other (y ∷ xs) zero (suc j) x h = refl
get_set_other (y ∷ xs) (suc i) zero x h = refl
get_set_other (y ∷ xs) (suc i) (suc j) x h = get_set_other xs i j x (λ e. h (ap suc e))

-- the slot of this name holds its value
abbrev pub HoldsName : List (List ℕ) → Values → List Datum → List ℕ → Type 0
HoldsName names values locals name = (is_among names name ≡ true) × (slice_get locals (slot_of names name) ≡ Some (Integer (unwrap_or (map.get values name) (pos 0))))

-- The slots hold the values of the names that were assigned.
pub record Holds (names : List (List ℕ)) (assigned : Names) (values : Values) (locals : List Datum) : Type 0 where
  pub count : length locals ≡ length names
  pub each : (name : List ℕ) → map.contains_key assigned name ≡ true → HoldsName names values locals name

-- at first none was assigned
pub holds_none : (names : List (List ℕ)) → Holds names map.empty map.empty (replicate (length names) Nil)
holds_none names = record {
  count = length-replicate (length names) Nil;
  each = λ name h. absurd (false≢true (rw (get-empty (slice_cmp nat_cmp) name) at h));
}

tied_same : (a b : List ℕ) → a ≡ b → eq_by_cmp (slice_cmp nat_cmp) a b ≡ true
tied_same a b e = subst (λ (x : List ℕ). eq_by_cmp (slice_cmp nat_cmp) a x ≡ true) e ((eq_by_cmp_equiv nat_list_cmp_total).refl a)

one_of_tied : (a b : List ℕ) → eq_by_cmp (slice_cmp nat_cmp) a b ≡ true → a ≡ b
one_of_tied a b h = tells_apart (slice_cmp-IsAntisymmetric nat_cmp-IsAntisymmetric) a b h

-- behind an assignment, the names that were assigned before and this one
set_holds : (names : List (List ℕ)) (assigned : Names) (values : Values) (locals : List Datum) (name : List ℕ) (z : ℤ) → is_among names name ≡ true → Holds names assigned values locals
    → (other : List ℕ) (b : Bool) → eq_by_cmp (slice_cmp nat_cmp) other name ≡ b → is_some (cond b (Some tt) (map.get assigned other)) ≡ true
    → (is_among names other ≡ true) × (slice_get (slice_set locals (slot_of names name) (Integer z)) (slot_of names other) ≡ Some (Integer (unwrap_or (cond b (Some z) (map.get values other)) (pos 0))))
set_holds names assigned values locals name z m h other true e k =
    let same = one_of_tied other name e in
    let below : slot_of names name < length locals = omega (arith, slot_below names name m, h.count) in (
      subst (λ (x : List ℕ). is_among names x ≡ true) (sym same) m,
      subst (λ (x : List ℕ). slice_get (slice_set locals (slot_of names name) (Integer z)) (slot_of names x) ≡ Some (Integer z)) (sym same) (get_set_same locals (slot_of names name) (Integer z) below),
    )
set_holds names assigned values locals name z m h other false e k =
    let before = h.each other k in
    let apart : slot_of names other ≢ slot_of names name = λ s. false≢true (sym e ∙ tied_same other name (slots_apart names other name before.0 m s)) in
    (before.0, get_set_other locals (slot_of names name) (slot_of names other) (Integer z) apart ∙ before.1)

pub holds_set : (names : List (List ℕ)) (assigned : Names) (values : Values) (locals : List Datum) (name : List ℕ) (z : ℤ) → is_among names name ≡ true → Holds names assigned values locals
    → Holds names (map.insert assigned name tt) (map.insert values name z) (slice_set locals (slot_of names name) (Integer z))
holds_set names assigned values locals name z m h = record {
  count = length-set locals (slot_of names name) (Integer z) ∙ h.count;
  each = λ other k.
      let key = rw (get-insert nat_list_cmp_total assigned name tt other) at k in
      let found = set_holds names assigned values locals name z m h other (eq_by_cmp (slice_cmp nat_cmp) other name) refl key in
      (found.0, rw (get-insert nat_list_cmp_total values name z other) found.1);
}
