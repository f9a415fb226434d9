-- What the steps of a table's changes do to what it has at each feature.
use Rattle.std.proofs.Common.{◌≡◌, ℕ, ◌+◌, ◌<◌, Bool, true, false, cond, ◌||◌, ◌&&◌, is_some, Option, Some, None, List, [], ◌∷◌, ◌++◌, length, take, get_or, filter, refl, sym, ap, subst, ◌∙◌}
use Rattle.std.specs.List.{list_any, AllByRecursion, IsDistinct}
use Rattle.std.specs.Cmp.Lexicographic.{same_text, nat_list_eq_equiv}
use Rattle.std.specs.Map.{keys_of}
use Rattle.std.specs.Map.Calls.{RetainsPairs}
use Rattle.std.specs.Option.{option_and_then}
use Rattle.std.proofs.lemmas.List.{take_more}
use Rattle.std.proofs.lemmas.List.Folds.{list_any-append}
use Rattle.bs_outside.specs.Paths.{same_bytes}
use Rattle.load_path_cache.specs.declared.table.Place.{Place}
use Rattle.load_path_cache.specs.Index.{value_at}

flip : (a b : List ℕ) → same_bytes a b ≡ same_bytes b a
flip a b = nat_list_eq_equiv.symm a b

or_last : (a b : Bool) → (a || (b || false)) ≡ cond b true a
or_last true true = refl
or_last true false = refl
or_last false true = refl
or_last false false = refl

any_last : (p : List ℕ → Bool) (xs : List (List ℕ)) (x : List ℕ) → list_any p (xs ++ x ∷ []) ≡ cond (p x) true (list_any p xs)
any_last p xs x = list_any-append p xs (x ∷ []) ∙ or_last (list_any p xs) (p x)

either : {A : Type 0} (a b : Bool) (x : A) (y : A) → cond a x (cond b x y) ≡ cond (cond b true a) x y
either true true x y = refl
either true false x y = refl
either false true x y = refl
either false false x y = refl

-- the last of the features that are left was given the place
pub added_more : (all left : List (List ℕ)) (feature f : List ℕ) (place : Place) (before after : Option Place) → all ≡ left ++ feature ∷ [] → after ≡ cond (same_bytes feature f) (Some place) before
    → cond (list_any (same_bytes f) left) (Some place) after ≡ cond (list_any (same_bytes f) all) (Some place) before
added_more all left feature f place before after split put =
    ap (cond (list_any (same_bytes f) left) (Some place)) (put ∙ ap (λ b. cond b (Some place) before) (flip feature f))
    ∙ either (list_any (same_bytes f) left) (same_bytes f feature) (Some place) before
    ∙ ap (λ b. cond b (Some place) before) (sym (ap (list_any (same_bytes f)) split ∙ any_last (same_bytes f) left feature))

-- what a table has at a feature, where some features were given a place if they had one
abbrev pub set_if : Bool → Place → Option Place → Option Place
set_if here place before = cond (here && is_some before) (Some place) before

set_here : (a : Bool) (place : Place) (before : Option Place) → is_some (set_if a place before) ≡ true → Some place ≡ set_if (cond true true a) place before
set_here a place (Some p) h = refl
set_here true place None h = absurd (let no : false ≡ true = h in cc)
set_here false place None h = absurd (let no : false ≡ true = h in cc)

step_by : (b a : Bool) (feature f : List ℕ) (place : Place) (before after now here : Option Place) → same_bytes f feature ≡ b → now ≡ set_if a place before → after ≡ cond b (Some place) now
    → (feature ≡ f → here ≡ now) → is_some here ≡ true → after ≡ set_if (cond b true a) place before
step_by true a feature f place before after now here e n h same some =
    h ∙ set_here a place before (ap is_some (sym (same (sym (same_text f feature (sym e))) ∙ n)) ∙ some)
step_by false a feature f place before after now here e n h same some = h ∙ n

-- one feature more, which the table has, was given the place
pub set_more : (features : List (List ℕ)) (i : ℕ) (feature f : List ℕ) (place : Place) (before : Option Place) (entries next : List (List ℕ × Place))
    → i < length features → feature ≡ get_or features i feature → value_at entries f ≡ set_if (list_any (same_bytes f) (take i features)) place before
    → value_at next f ≡ cond (same_bytes feature f) (Some place) (value_at entries f) → is_some (value_at entries feature) ≡ true
    → value_at next f ≡ set_if (list_any (same_bytes f) (take (i + 1) features)) place before
set_more features i feature f place before entries next lt is now put some =
    step_by (same_bytes f feature) (list_any (same_bytes f) (take i features)) feature f place before _ _ _ refl now (put ∙ ap (λ b. cond b (Some place) (value_at entries f)) (flip feature f)) (ap (value_at entries)) some
    ∙ ap (λ b. set_if b place before) (sym (ap (list_any (same_bytes f)) (take_more features i feature lt ∙ ap (λ t. take i features ++ t ∷ []) (sym is)) ∙ any_last (same_bytes f) (take i features) feature))

none_here : (a : Bool) (place : Place) (before : Option Place) → set_if a place before ≡ None → None ≡ set_if (cond true true a) place before
none_here true place None h = refl
none_here false place None h = refl
none_here true place (Some p) h = cc
none_here false place (Some p) h = cc

pass_by : (b a : Bool) (feature f : List ℕ) (place : Place) (before now here : Option Place) → same_bytes f feature ≡ b → now ≡ set_if a place before
    → (feature ≡ f → here ≡ now) → here ≡ None → now ≡ set_if (cond b true a) place before
pass_by true a feature f place before now here e n same none =
    let gone : now ≡ None = sym (same (sym (same_text f feature (sym e)))) ∙ none in
    gone ∙ none_here a place before (sym n ∙ gone)
pass_by false a feature f place before now here e n same none = n

-- one feature more, which the table does not have
pub set_passed : (features : List (List ℕ)) (i : ℕ) (feature f : List ℕ) (place : Place) (before : Option Place) (entries : List (List ℕ × Place))
    → i < length features → feature ≡ get_or features i feature → value_at entries f ≡ set_if (list_any (same_bytes f) (take i features)) place before
    → value_at entries feature ≡ None → value_at entries f ≡ set_if (list_any (same_bytes f) (take (i + 1) features)) place before
set_passed features i feature f place before entries lt is now none =
    pass_by (same_bytes f feature) (list_any (same_bytes f) (take i features)) feature f place before _ _ refl now (ap (value_at entries)) none
    ∙ ap (λ b. set_if b place before) (sym (ap (list_any (same_bytes f)) (take_more features i feature lt ∙ ap (λ t. take i features ++ t ∷ []) (sym is)) ∙ any_last (same_bytes f) (take i features) feature))

none_is : (o : Option Place) → is_some o ≡ false → o ≡ None
none_is None e = refl
none_is (Some p) e = cc

-- one feature more
pub set_step : (features : List (List ℕ)) (i : ℕ) (feature f : List ℕ) (place : Place) (before : Option Place) (entries next : List (List ℕ × Place))
    → i < length features → feature ≡ get_or features i feature → value_at entries f ≡ set_if (list_any (same_bytes f) (take i features)) place before
    → value_at next f ≡ cond (is_some (value_at entries feature) && same_bytes feature f) (Some place) (value_at entries f)
    → value_at next f ≡ set_if (list_any (same_bytes f) (take (i + 1) features)) place before
set_step features i feature f place before entries next lt is now put = by (is_some (value_at entries feature)) refl put
  where
    by : (b : Bool) → is_some (value_at entries feature) ≡ b → value_at next f ≡ cond (b && same_bytes feature f) (Some place) (value_at entries f)
        → value_at next f ≡ set_if (list_any (same_bytes f) (take (i + 1) features)) place before
    by true e put = set_more features i feature f place before entries next lt is now put e
    by false e put = put ∙ set_passed features i feature f place before entries lt is now (none_is (value_at entries feature) e)

any_where_by : (a b p q : Bool) → (a ≡ true → p ≡ q) → b ≡ b → (cond p (a || (b && q)) (b && q)) ≡ ((a || b) && q)
any_where_by true true p q same e = by_cases p q (same refl)
  where
    by_cases : (p q : Bool) → p ≡ q → cond p true q ≡ q
    by_cases true true e = refl
    by_cases true false e = e
    by_cases false q e = refl
any_where_by true false p q same e = by_cases p q (same refl)
  where
    by_cases : (p q : Bool) → p ≡ q → cond p true false ≡ q
    by_cases true q e = e
    by_cases false q e = e
any_where_by false b true q same e = refl
any_where_by false b false q same e = refl

any_cond : (p : Bool) (f x : List ℕ) (xs : List (List ℕ)) → list_any (same_bytes f) (cond p (x ∷ xs) xs) ≡ cond p (same_bytes f x || list_any (same_bytes f) xs) (list_any (same_bytes f) xs)
any_cond true f x xs = refl
any_cond false f x xs = refl

-- a feature is among those that pass where it is among all and passes itself
pub any_filter : (p : List ℕ → Bool) (xs : List (List ℕ)) (f : List ℕ) → list_any (same_bytes f) (filter p xs) ≡ (list_any (same_bytes f) xs && p f)
any_filter p [] f = refl
any_filter p (x ∷ xs) f =
    any_cond (p x) f x (filter p xs) ∙ ap (λ b. cond (p x) (same_bytes f x || b) b) (any_filter p xs f)
    ∙ any_where_by (same_bytes f x) (list_any (same_bytes f) xs) (p x) (p f) (λ e. ap p (sym (same_text f x (sym e)))) refl

none_of : (k : List ℕ) (es : List (List ℕ × Place)) → AllByRecursion (λ y. same_bytes k y ≡ false) (keys_of es) → value_at es k ≡ None
none_of k [] h = refl
none_of k (e ∷ es) h = ap (λ b. cond b (Some e.1) (value_at es k)) h.0 ∙ none_of k es h.1

-- what a table's `retain` leaves at each feature, where the closure keeps no state and puts what `next` says
module _ {F : Type 0} (T : F → List ℕ → Place → Bool → Place → F → Type 0) (next : List ℕ → Place → Option Place) (f : F)
    (says : (k : List ℕ) (v : Place) (b : Bool) (w : Place) (g : F) → T f k v b w g → (cond b (Some w) None ≡ next k v) × (g ≡ f)) where
  kept_here : (b here : Bool) (q : List ℕ) (e : List ℕ × Place) (w : Place) (es rest : List (List ℕ × Place)) → same_bytes q e.0 ≡ here → cond b (Some w) None ≡ next e.0 e.1
      → AllByRecursion (λ y. same_bytes e.0 y ≡ false) (keys_of es) → value_at rest q ≡ option_and_then (next q) (value_at es q)
      → value_at (cond b ((e.0, w) ∷ rest) rest) q ≡ option_and_then (next q) (cond here (Some e.1) (value_at es q))
  kept_here b true q e w es rest at is apart before =
      let same : q ≡ e.0 = same_text q e.0 (sym at) in
      let gone : value_at rest q ≡ None = before ∙ ap (option_and_then (next q)) (ap (value_at es) same ∙ none_of e.0 es apart) in
      kept_one b at ∙ is ∙ ap (λ k. next k e.1) (sym same)
    where
      kept_one : (b : Bool) → same_bytes q e.0 ≡ true → value_at (cond b ((e.0, w) ∷ rest) rest) q ≡ cond b (Some w) None
      kept_one true at = ap (λ h. cond h (Some w) (value_at rest q)) at
      kept_one false at = before ∙ ap (option_and_then (next q)) (ap (value_at es) (same_text q e.0 (sym at)) ∙ none_of e.0 es apart)
  kept_here true false q e w es rest at is apart before = ap (λ h. cond h (Some w) (value_at rest q)) at ∙ before
  kept_here false false q e w es rest at is apart before = before

  pub kept_at : (es kept : List (List ℕ × Place)) → RetainsPairs T f es kept → IsDistinct same_bytes (keys_of es) → (q : List ℕ) → value_at kept q ≡ option_and_then (next q) (value_at es q)
  unfolding IsDistinct
  kept_at [] kept h d q = ap (λ es. value_at es q) h
  kept_at (e ∷ es) kept h d q =
      let s = says e.0 e.1 h.0 h.1 h.2 h.4 in
      ap (λ es. value_at es q) h.6
      ∙ kept_here h.0 (same_bytes q e.0) q e h.1 es h.3 refl s.0 d.0 (kept_at es h.3 (subst (λ g. RetainsPairs T g es h.3) s.1 h.5) d.1 q)
