-- Environments whose slots lie one after another: what is read of them, and what a change leaves.
use Rattle.std.proofs.Common.{◌≡◌, ℕ, zero, suc, ◌+◌, ◌-◌, ◌<◌, ◌≤◌, true, false, cond, nat_lt, Bool, ◌⊎◌, slice_range, List, [], ◌∷◌, ◌++◌, length, take, drop, get_or, slice_set, Option, Some, None, refl, sym, ◌∙◌, ap, inl, inr, subst, arith, slice_index_or}
use Rattle.std.proofs.Math.ListN.{replicate}
use Rattle.std.proofs.lemmas.List.{drop-append-le, take-append-le, length-drop, drop-set-lt, take-set-le, get_or-take, get_or-drop, get_or_past, get_or_default, length-take, length-replicate, map-append, length-append}
use Rattle.std.proofs.lemmas.Bool.Decides.{nat_tests}
use Rattle.std.proofs.Math.Seq.{take-set-lt, drop-append_seam}
use Rattle.std.specs.Option.{option_map}
use Rattle.store_values.specs.declared.values.Value.{Value}
use Rattle.store_values.specs.declared.values.Value.TheVariants as value
use Rattle.store_parts.specs.Lists.{Values}
use Rattle.store_parts.specs.Scopes.{Scope, Scopes, parent_of, slots_at, slot_of, with_slot}
use Rattle.store_parts.specs.Extents.{scope_of, scopes_of, Follow, place_within, place_in}
use Rattle.store_parts.specs.declared.environments.Extent.{Extent}
use Rattle.store_parts.proofs.Gaps.{set_behind, set_beyond, take_beyond}

pub parent_some : (all : Scopes) (xs : List Extent) (slots : Values) (n : ℕ) (x : Extent) → all ≡ scopes_of xs slots → n < length xs → x ≡ slice_index_or xs n x → option_map (λ e. e.number) x.parent ≡ parent_of all n
parent_some all xs slots n x e lt h = at xs slots n x lt h ∙ ap (λ l. parent_of l n) (sym e)
  where
    at : (xs : List Extent) (slots : Values) (n : ℕ) (x : Extent) → n < length xs → x ≡ slice_index_or xs n x → option_map (λ e. e.number) x.parent ≡ parent_of (scopes_of xs slots) n
    at [] slots n x lt h = absurd (omega (arith, lt))
    at (y ∷ xs) slots zero x lt h = ap (λ z. option_map (λ e. e.number) z.parent) h
    at (y ∷ xs) slots (suc n) x lt h = at xs slots n x (omega (arith, lt)) h

pub parent_none : (all : Scopes) (xs : List Extent) (slots : Values) (n : ℕ) → all ≡ scopes_of xs slots → length xs ≤ n → None ≡ parent_of all n
parent_none all xs slots n e le = at xs slots n le ∙ ap (λ l. parent_of l n) (sym e)
  where
    at : (xs : List Extent) (slots : Values) (n : ℕ) → length xs ≤ n → None ≡ parent_of (scopes_of xs slots) n
    at [] slots n le = refl
    at (y ∷ xs) slots zero le = absurd (omega (arith, le))
    at (y ∷ xs) slots (suc n) le = at xs slots n (omega (arith, le))

yes : (a b : ℕ) → nat_lt a b ≡ true → a < b
yes a b h = grind (arith, nat_tests)

no : (a b : ℕ) → nat_lt a b ≡ false → b ≤ a
no a b h = grind (arith, nat_tests)

-- what is read in a slot

read_at : Values → Option ℕ → Value
read_at slots None = value.Nil
read_at slots (Some p) = get_or slots p value.Nil

read_within : (slots : Values) (x : Extent) (slot : ℕ) (b : Bool) → nat_lt slot (x.end - x.start) ≡ b → read_at slots (cond b (Some (x.start + slot)) None) ≡ get_or (slice_range slots x.start x.end) slot value.Nil
unfolding read_at
read_within slots x slot true e = sym (get_or-take (x.end - x.start) (drop x.start slots) slot value.Nil (yes slot (x.end - x.start) e) ∙ get_or-drop x.start slots slot value.Nil)
read_within slots x slot false e = sym (get_or_past (slice_range slots x.start x.end) slot value.Nil (omega (arith, no slot (x.end - x.start) e, length-take (x.end - x.start) (drop x.start slots))))

read_in : (xs : List Extent) (slots : Values) (n slot : ℕ) → read_at slots (place_in xs n slot) ≡ get_or (slots_at (scopes_of xs slots) n) slot value.Nil
unfolding read_at
read_in [] slots n slot = refl
read_in (x ∷ xs) slots zero slot = read_within slots x slot (nat_lt slot (x.end - x.start)) refl
read_in (x ∷ xs) slots (suc n) slot = read_in xs slots n slot

pub read_some : (all : Scopes) (xs : List Extent) (slots : Values) (n slot p : ℕ) (v : Value) → all ≡ scopes_of xs slots → Some p ≡ place_in xs n slot → p < length slots → v ≡ slice_index_or slots p v → v ≡ slot_of all slot (Some n)
unfolding read_at
read_some all xs slots n slot p v a h lt e = e ∙ get_or_default slots p v value.Nil lt ∙ ap (read_at slots) h ∙ read_in xs slots n slot ∙ ap (λ l. slot_of l slot (Some n)) (sym a)

pub read_beyond : (all : Scopes) (xs : List Extent) (slots : Values) (n slot p : ℕ) → all ≡ scopes_of xs slots → Some p ≡ place_in xs n slot → length slots ≤ p → value.Nil ≡ slot_of all slot (Some n)
unfolding read_at
read_beyond all xs slots n slot p a h le = sym (get_or_past slots p value.Nil le) ∙ ap (read_at slots) h ∙ read_in xs slots n slot ∙ ap (λ l. slot_of l slot (Some n)) (sym a)

pub read_none : (all : Scopes) (xs : List Extent) (slots : Values) (n slot : ℕ) → all ≡ scopes_of xs slots → None ≡ place_in xs n slot → value.Nil ≡ slot_of all slot (Some n)
unfolding read_at
read_none all xs slots n slot a h = ap (read_at slots) h ∙ read_in xs slots n slot ∙ ap (λ l. slot_of l slot (Some n)) (sym a)

-- what another value in a slot leaves

-- an extent before or behind the place
kept : (slots : Values) (x : Extent) (p : ℕ) (v : Value) → (p < x.start) ⊎ (x.end ≤ p) → scope_of (slice_set slots p v) x ≡ scope_of slots x
kept slots x p v (inl h) = ap (λ l. record { parent = option_map (λ e. e.number) x.parent; slots = take (x.end - x.start) l }) (drop-set-lt x.start slots p v h)
kept slots x p v (inr h) = ap (λ l. record { parent = option_map (λ e. e.number) x.parent; slots = l }) (behind slots x.start x.end p v h)
  where
    behind : (slots : Values) (s e p : ℕ) (v : Value) → e ≤ p → slice_range (slice_set slots p v) s e ≡ slice_range slots s e
    behind slots s e p v h = elim (nat_lt p s) as (λ b. nat_lt p s ≡ b → slice_range (slice_set slots p v) s e ≡ slice_range slots s e) [
      | true ↦ λ k. ap (take (e - s)) (drop-set-lt s slots p v (yes p s k))
      | false ↦ λ k. ap (take (e - s)) (set_behind s p slots (p - s) v (omega (arith, no p s k))) ∙ take-set-le (e - s) (drop s slots) (p - s) v (omega (arith, no p s k))
    ] refl

all_kept : (xs : List Extent) (slots : Values) (here there p : ℕ) (v : Value) → Follow here xs there → p < here → scopes_of xs (slice_set slots p v) ≡ scopes_of xs slots
all_kept [] slots here there p v f lt = refl
all_kept (x ∷ xs) slots here there p v f lt = cons_of (kept slots x p v (inl (omega (arith, f.0)))) (all_kept xs slots x.end there p v f.2 (omega (arith, f.0, f.1)))
  where
    cons_of : {x y : Scope} {xs ys : Scopes} → x ≡ y → xs ≡ ys → x ∷ xs ≡ y ∷ ys
    cons_of h k = cc

set_within : (slots : Values) (x : Extent) (p slot : ℕ) (v : Value) → p ≡ x.start + slot → slot < x.end - x.start → slice_range (slice_set slots p v) x.start x.end ≡ slice_set (slice_range slots x.start x.end) slot v
set_within slots x p slot v e lt = ap (take (x.end - x.start)) (set_behind x.start p slots slot v e) ∙ take-set-lt (x.end - x.start) (drop x.start slots) slot v lt

found_if : (slot p : ℕ) (x : Extent) (b : Bool) → nat_lt slot (x.end - x.start) ≡ b → cond b (Some (x.start + slot)) None ≡ Some p → (slot < x.end - x.start) × (p ≡ x.start + slot)
found_if slot p x true e h = (yes slot (x.end - x.start) e, cc)
found_if slot p x false e h = absurd (cc)

found : (slot p : ℕ) (x : Extent) → place_within x slot ≡ Some p → (slot < x.end - x.start) × (p ≡ x.start + slot)
found slot p x h = found_if slot p x (nat_lt slot (x.end - x.start)) refl h

-- a place in a row of extents lies behind where the row begins
not_before : (xs : List Extent) (here there n slot p : ℕ) → Follow here xs there → place_in xs n slot ≡ Some p → here ≤ p
not_before [] here there n slot p f h = absurd (cc)
not_before (x ∷ xs) here there zero slot p f h = omega (arith, f.0, (found slot p x h).1)
not_before (x ∷ xs) here there (suc n) slot p f h = omega (arith, f.0, f.1, not_before xs x.end there n slot p f.2 h)

pub set_in : (xs : List Extent) (slots : Values) (here n slot p : ℕ) (v : Value) → Follow here xs (length slots) → place_in xs n slot ≡ Some p → scopes_of xs (slice_set slots p v) ≡ with_slot (scopes_of xs slots) n slot v
set_in xs slots here n slot p v f h = set_up_to xs slots here (length slots) n slot p v f h
  where
    cons_of : {x y : Scope} {xs ys : Scopes} → x ≡ y → xs ≡ ys → x ∷ xs ≡ y ∷ ys
    cons_of h k = cc

    set_up_to : (xs : List Extent) (slots : Values) (here there n slot p : ℕ) (v : Value) → Follow here xs there → place_in xs n slot ≡ Some p → scopes_of xs (slice_set slots p v) ≡ with_slot (scopes_of xs slots) n slot v
    set_up_to [] slots here there n slot p v f h = absurd (cc)
    set_up_to (x ∷ xs) slots here there zero slot p v f h = cons_of
        (ap (λ l. record { parent = option_map (λ e. e.number) x.parent; slots = l }) (set_within slots x p slot v (found slot p x h).1 (found slot p x h).0))
        (all_kept xs slots x.end there p v f.2 (omega (arith, found slot p x h)))
    set_up_to (x ∷ xs) slots here there (suc n) slot p v f h = cons_of
        (kept slots x p v (inr (not_before xs x.end there n slot p f.2 h)))
        (set_up_to xs slots x.end there n slot p v f.2 h)

pub set_nowhere : (xs : List Extent) (slots : Values) (n slot : ℕ) (v : Value) → None ≡ place_in xs n slot → scopes_of xs slots ≡ with_slot (scopes_of xs slots) n slot v
set_nowhere [] slots n slot v h = refl
set_nowhere (x ∷ xs) slots zero slot v h = nowhere slots x slot v (nat_lt slot (x.end - x.start)) refl h
  where
    nowhere : (slots : Values) (x : Extent) (slot : ℕ) (v : Value) (b : Bool) → nat_lt slot (x.end - x.start) ≡ b → None ≡ cond b (Some (x.start + slot)) None → scopes_of (x ∷ xs) slots ≡ with_slot (scopes_of (x ∷ xs) slots) zero slot v
    nowhere slots x slot v true e h = absurd (cc)
    nowhere slots x slot v false e h = ap (λ l. record { parent = option_map (λ e. e.number) x.parent; slots = l } ∷ scopes_of xs slots) (sym (set_beyond (slice_range slots x.start x.end) slot v (omega (arith, no slot (x.end - x.start) e, length-take (x.end - x.start) (drop x.start slots)))))
set_nowhere (x ∷ xs) slots (suc n) slot v h = ap (λ l. scope_of slots x ∷ l) (set_nowhere xs slots n slot v h)

-- what a new environment leaves

pub followed : (xs : List Extent) (x : Extent) (here mid there : ℕ) → Follow here xs mid → x.start ≡ mid → mid ≤ x.end → x.end ≡ there → Follow here (xs ++ x ∷ []) there
followed [] x here mid there f s le e = (s ∙ f, omega (arith, f, le), sym e)
followed (y ∷ xs) x here mid there f s le e = (f.0, f.1, followed xs x y.end mid there f.2 s le e)

no_more : (s e : ℕ) → nat_lt e s ≡ true → e - s ≡ 0
no_more s e k = omega (arith, yes e s k)

longer : (slots more : Values) (x : Extent) → x.end ≤ length slots → scope_of (slots ++ more) x ≡ scope_of slots x
longer slots more x le = ap (λ l. record { parent = option_map (λ e. e.number) x.parent; slots = l }) (ranged slots more x.start x.end le)
  where
    ranged : (slots more : Values) (s e : ℕ) → e ≤ length slots → slice_range (slots ++ more) s e ≡ slice_range slots s e
    ranged slots more s e le = elim (nat_lt e s) as (λ b. nat_lt e s ≡ b → slice_range (slots ++ more) s e ≡ slice_range slots s e) [
      | true ↦ λ k. ap (λ n. take n (drop s (slots ++ more))) (no_more s e k) ∙ sym (ap (λ n. take n (drop s slots)) (no_more s e k))
      | false ↦ λ k. ap (take (e - s)) (drop-append-le s slots more (omega (arith, no e s k))) ∙ take-append-le (e - s) (drop s slots) more (omega (arith, no e s k, length-drop s slots))
    ] refl

all_longer : (xs : List Extent) (slots more : Values) (here there : ℕ) → Follow here xs there → there ≤ length slots → scopes_of xs (slots ++ more) ≡ scopes_of xs slots
all_longer [] slots more here there f le = refl
all_longer (x ∷ xs) slots more here there f le = cons_of (longer slots more x (omega (arith, reaches xs x.end there f.2, le))) (all_longer xs slots more x.end there f.2 le)
  where
    cons_of : {x y : Scope} {xs ys : Scopes} → x ≡ y → xs ≡ ys → x ∷ xs ≡ y ∷ ys
    cons_of h k = cc

    reaches : (xs : List Extent) (here there : ℕ) → Follow here xs there → here ≤ there
    reaches [] here there f = omega (arith, f)
    reaches (x ∷ xs) here there f = omega (arith, f.1, reaches xs x.end there f.2)

-- a new extent behind the last, with so many nils
pub added : (xs : List Extent) (slots : Values) (x : Extent) (n : ℕ) (v : Value) → Follow 0 xs (length slots) → x.start ≡ length slots → x.end ≡ length slots + n → scopes_of (xs ++ x ∷ []) (slots ++ replicate n v) ≡ scopes_of xs slots ++ record { parent = option_map (λ e. e.number) x.parent; slots = replicate n v } ∷ []
added xs slots x n v f s e =
    map-append (scope_of (slots ++ replicate n v)) xs (x ∷ [])
    ∙ ap (λ l. l ++ scope_of (slots ++ replicate n v) x ∷ []) (all_longer xs slots (replicate n v) 0 (length slots) f (omega arith))
    ∙ ap (λ l. scopes_of xs slots ++ record { parent = option_map (λ e. e.number) x.parent; slots = l } ∷ []) (last slots (replicate n v) x.start x.end s (omega (arith, e, length-replicate n v)))
  where
    last : (slots more : Values) (s e : ℕ) → s ≡ length slots → e ≡ length slots + length more → slice_range (slots ++ more) s e ≡ more
    last slots more s e h k = ap (λ m. take (e - m) (drop m (slots ++ more))) h ∙ ap (take (e - length slots)) (drop-append_seam slots more) ∙ take_beyond more (e - length slots) (omega (arith, k))

pub extended : (xs xs1 xs2 : List Extent) (slots slots1 : Values) (x : Extent) (n end : ℕ) → Follow 0 xs (length slots) → xs1 ≡ xs → xs2 ≡ xs1 ++ x ∷ [] → slots1 ≡ take end slots ++ replicate (end - length slots) value.Nil → x.start ≡ length slots → x.end ≡ end → end ≡ length slots + n
    → Follow 0 xs2 (length slots1) × (scopes_of xs2 slots1 ≡ scopes_of xs slots ++ record { parent = option_map (λ e. e.number) x.parent; slots = replicate n value.Nil } ∷ [])
extended xs xs1 xs2 slots slots1 x n end f e1 e2 e3 s e l =
    let all : xs2 ≡ xs ++ x ∷ [] = e2 ∙ ap (λ ys. ys ++ x ∷ []) e1 in
    let more : slots1 ≡ slots ++ replicate n value.Nil = e3 ∙ ap (λ ys. ys ++ replicate (end - length slots) value.Nil) (take_beyond slots end (omega (arith, l))) ∙ ap (λ m. slots ++ replicate m value.Nil) (omega (arith, l)) in (
      subst (λ ys. Follow 0 ys (length slots1)) (sym all) (followed xs x 0 (length slots) (length slots1) f s (omega (arith, e, l)) (e ∙ l ∙ sym (ap length more ∙ length-append slots (replicate n value.Nil) ∙ ap (λ m. length slots + m) (length-replicate n value.Nil)))),
      ap (λ ys. scopes_of ys slots1) all ∙ ap (scopes_of (xs ++ x ∷ [])) more ∙ added xs slots x n value.Nil f s (e ∙ l),
    )

-- where a slot lies

pub placed_some : (xs : List Extent) (n slot : ℕ) (x : Extent) (p : Option ℕ) → n < length xs → x ≡ slice_index_or xs n x → p ≡ place_within x slot → p ≡ place_in xs n slot
placed_some [] n slot x p lt h e = absurd (omega (arith, lt))
placed_some (y ∷ xs) zero slot x p lt h e = e ∙ ap (λ z. place_within z slot) h
placed_some (y ∷ xs) (suc n) slot x p lt h e = placed_some xs n slot x p (omega (arith, lt)) h e

pub placed_none : (xs : List Extent) (n slot : ℕ) → length xs ≤ n → None ≡ place_in xs n slot
placed_none [] n slot le = refl
placed_none (y ∷ xs) zero slot le = absurd (omega (arith, le))
placed_none (y ∷ xs) (suc n) slot le = placed_none xs n slot (omega (arith, le))

pub set_some : (all : Scopes) (xs : List Extent) (slots : Values) (n slot p : ℕ) (v : Value) → all ≡ scopes_of xs slots → Follow 0 xs (length slots) → Some p ≡ place_in xs n slot → scopes_of xs (slice_set slots p v) ≡ with_slot all n slot v
set_some all xs slots n slot p v a f h = set_in xs slots 0 n slot p v f (sym h) ∙ ap (λ l. with_slot l n slot v) (sym a)

pub set_none : (all : Scopes) (xs : List Extent) (slots : Values) (n slot : ℕ) (v : Value) → all ≡ scopes_of xs slots → None ≡ place_in xs n slot → all ≡ with_slot all n slot v
set_none all xs slots n slot v a h = a ∙ set_nowhere xs slots n slot v h ∙ ap (λ l. with_slot l n slot v) (sym a)

pub set_past : (all : Scopes) (xs : List Extent) (slots : Values) (n slot p : ℕ) (v : Value) → all ≡ scopes_of xs slots → Follow 0 xs (length slots) → Some p ≡ place_in xs n slot → length slots ≤ p → all ≡ with_slot all n slot v
set_past all xs slots n slot p v a f h le = a ∙ sym (ap (scopes_of xs) (set_beyond slots p v le)) ∙ set_some all xs slots n slot p v a f h
