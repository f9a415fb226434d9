-- The index of the names of an environment, step by step.
use Rattle.std.proofs.Common.{Bor, ◌≡◌, ℕ, suc, ◌+◌, ◌<◌, ◌≤◌, List, [], ◌∷◌, ◌++◌, length, nat_eq, nat_lt, cond, Bool, true, false, not, ◌||◌, Option, Some, None, is_some, refl, sym, ◌∙◌, ap, arith, length-append, add-zero}
use Rattle.std.specs.Bool.{Decides}
use Rattle.std.specs.List.{position, position_or_len}
use Rattle.std.proofs.lemmas.Bool.{eqb-true}
use Rattle.std.proofs.lemmas.Bool.Decides.{Decides-eqb, nat_tests}
use Rattle.std.proofs.lemmas.List.{map-append, length-map}
use Rattle.std.proofs.lemmas.List.Folds.{position_or_len_push}
use Rattle.std.proofs.lemmas.Slice.Eq.{slice_eq-Decides}
use Rattle.ruby_lexer.specs.Bytes.{Bytes, same, is_in}
use Rattle.local_scopes.specs.Slots.{slot_of, or_else}
use Rattle.local_scopes.proofs.KnownSteps.{lent, first, lt_true, lt_false, lt_suc}

told : (x y : Bytes) → Decides (same x y) (x ≡ y)
told x y = slice_eq-Decides Decides-eqb x y (same x y) refl

same_is : (x y : Bytes) → same x y ≡ true → x ≡ y
same_is x y h = (told x y).0 h

is_same : (x y : Bytes) → x ≡ y → same x y ≡ true
is_same x y h = (told x y).1 h

pub same-swap : (x y : Bytes) → same x y ≡ same y x
same-swap x y = by (same x y) (same y x) refl refl
  where
    by : (a b : Bool) → same x y ≡ a → same y x ≡ b → same x y ≡ same y x
    by true b is there = is ∙ sym (is_same y x (sym (same_is x y is)))
    by false true is there = is_same x y (sym (same_is y x there)) ∙ sym there
    by false false is there = is ∙ sym there

or_none : (o : Option ℕ) → or_else o None ≡ o
or_none None = refl
or_none (Some k) = refl

absent : (o : Option ℕ) → is_some o ≡ false → o ≡ None
absent None h = refl
absent (Some k) h = let no : true ≡ false = h in cc

or_first : (o p : Option ℕ) → is_some o ≡ true → or_else o p ≡ o
or_first None p h = let no : false ≡ true = h in cc
or_first (Some k) p h = refl

-- a name that has a place keeps it
pub noted_before : (entries : List (Bor Bytes × ℕ)) (name : Bytes) (slot : ℕ) (other : Bytes) → is_some (slot_of name entries) ≡ true → slot_of other entries ≡ or_else (slot_of other entries) (cond (same other name) (Some slot) None)
noted_before entries name slot other there = by (same other name) refl
  where
    by : (b : Bool) → same other name ≡ b → slot_of other entries ≡ or_else (slot_of other entries) (cond b (Some slot) None)
    by true is = sym (or_first (slot_of other entries) (Some slot) (ap (λ x. is_some (slot_of x entries)) (same_is other name is) ∙ there))
    by false is = sym (or_none (slot_of other entries))

-- one that has none gets this one
pub noted : (old new : List (Bor Bytes × ℕ)) (name : Bytes) (slot : ℕ) (other : Bytes) → is_some (slot_of name old) ≡ false → slot_of other new ≡ cond (same name other) (Some slot) (slot_of other old) → slot_of other new ≡ or_else (slot_of other old) (cond (same other name) (Some slot) None)
noted old new name slot other none is = is ∙ ap (λ b. cond b (Some slot) (slot_of other old)) (same-swap name other) ∙ by (same other name) refl
  where
    by : (b : Bool) → same other name ≡ b → cond b (Some slot) (slot_of other old) ≡ or_else (slot_of other old) (cond b (Some slot) None)
    by true here = sym (ap (λ o. or_else o (Some slot)) (ap (λ x. slot_of x old) (same_is other name here) ∙ absent _ none))
    by false here = sym (or_none (slot_of other old))

pub indexed-none : (names : List Bytes) (entries : List (Bor Bytes × ℕ)) (name : Bytes) → names ≡ [] → entries ≡ [] → slot_of name entries ≡ position (same name) names
indexed-none names entries name e f = ap (slot_of name) f ∙ sym (ap (position (same name)) e)

within : (p : Bytes → Bool) (xs : List Bytes) → position_or_len p xs ≤ length xs
within p [] = omega arith
within p (x ∷ xs) = step (p x) (within p xs)
  where
    step : (b : Bool) → position_or_len p xs ≤ length xs → cond (not b) (1 + position_or_len p xs) 0 ≤ suc (length xs)
    step true rest = omega arith
    step false rest = omega arith

less : (f l : ℕ) → nat_eq f l ≡ false → f ≤ l → f < l
less f l is le = grind (arith, nat_tests)

-- the place of a name among one more
position-push : (p : Bytes → Bool) (xs : List Bytes) (y : Bytes) → position p (xs ++ y ∷ []) ≡ or_else (position p xs) (cond (p y) (Some (length xs)) None)
position-push p xs y =
    ap (λ n. cond (nat_lt n (length (xs ++ y ∷ []))) (Some n) None) (position_or_len_push p xs y)
    ∙ ap (λ n. cond (nat_lt (cond (nat_eq (position_or_len p xs) (length xs)) (length xs + cond (p y) 0 1) (position_or_len p xs)) n) (Some (cond (nat_eq (position_or_len p xs) (length xs)) (length xs + cond (p y) 0 1) (position_or_len p xs))) None) (length-append xs (y ∷ []))
    ∙ by (position_or_len p xs) (length xs) (nat_eq (position_or_len p xs) (length xs)) (p y) refl (within p xs)
  where
    by : (f l : ℕ) (b c : Bool) → nat_eq f l ≡ b → f ≤ l → cond (nat_lt (cond b (l + cond c 0 1) f) (l + 1)) (Some (cond b (l + cond c 0 1) f)) None ≡ or_else (cond (nat_lt f l) (Some f) None) (cond c (Some l) None)
    by f l true true is le =
        let e : f ≡ l = eqb-true f l is in
        ap (λ b. cond b (Some (l + 0)) None) (lt_true (l + 0) (l + 1) (omega arith)) ∙ ap (λ n. Some n) (add-zero l)
        ∙ sym (ap (λ b. or_else (cond b (Some f) None) (Some l)) (lt_false f l (omega arith)))
    by f l true false is le =
        let e : f ≡ l = eqb-true f l is in
        ap (λ b. cond b (Some (l + 1)) None) (lt_false (l + 1) (l + 1) (omega arith))
        ∙ sym (ap (λ b. or_else (cond b (Some f) None) None) (lt_false f l (omega arith)))
    by f l false c is le =
        let below : f < l = less f l is le in
        ap (λ b. cond b (Some f) None) (lt_true f (l + 1) (omega arith))
        ∙ sym (ap (λ b. or_else (cond b (Some f) None) (cond c (Some l) None)) (lt_true f l below))

-- a name more
pub indexed-push : (names new : List (Bor Bytes)) (old entries : List (Bor Bytes × ℕ)) (name : Bor Bytes) (slot : ℕ) → ((x : Bytes) → slot_of x old ≡ position (same x) (lent names)) → ((x : Bytes) → slot_of x entries ≡ or_else (slot_of x old) (cond (same x name.now) (Some slot) None)) → slot ≡ length names → new ≡ names ++ name ∷ [] → (x : Bytes) → slot_of x entries ≡ position (same x) (lent new)
indexed-push names new old entries name slot h step count is x =
    let counted : slot ≡ length (lent names) = count ∙ sym (length-map names (λ (k : Bor Bytes). k.now)) in
    step x
    ∙ ap (λ o. or_else o (cond (same x name.now) (Some slot) None)) (h x)
    ∙ ap (λ n. or_else (position (same x) (lent names)) (cond (same x name.now) (Some n) None)) counted
    ∙ sym (position-push (same x) (lent names) name.now)
    ∙ ap (position (same x)) (sym (ap lent is ∙ map-append (λ (k : Bor Bytes). k.now) names (name ∷ [])))

-- the names after a push
pub names-push : (names new : List (Bor Bytes)) (name : Bor Bytes) (old : List Bytes) → new ≡ names ++ name ∷ [] → lent names ≡ old → lent new ≡ old ++ name.now ∷ []
names-push names new name old is view = ap lent is ∙ map-append (λ (k : Bor Bytes). k.now) names (name ∷ []) ∙ ap (λ xs. xs ++ name.now ∷ []) view

pub below-first : (x : Bytes) (names : List Bytes) → nat_lt (first x names) (length names) ≡ is_in x names
below-first x [] = refl
below-first x (y ∷ names) = step (same x y) (below-first x names)
  where
    step : (b : Bool) → nat_lt (first x names) (length names) ≡ is_in x names → nat_lt (cond (not b) (1 + first x names) 0) (suc (length names)) ≡ (b || is_in x names)
    step true rest = lt_true 0 (suc (length names)) (omega arith)
    step false rest = lt_suc (first x names) (length names) ∙ rest

-- the test whether a name is among them
pub is_in-slot : (x : Bytes) (names : List Bytes) → is_some (position (same x) names) ≡ is_in x names
is_in-slot x names = by (nat_lt (first x names) (length names)) ∙ below-first x names
  where
    by : (b : Bool) → is_some (cond b (Some (first x names)) None) ≡ b
    by true = refl
    by false = refl
