-- The slot at the level finds what the name finds outward.
use Rattle.std.proofs.Common.{◌≡◌, ℕ, zero, suc, ◌≤◌, arith, Bool, true, false, cond, ◌||◌, refl, sym, ◌∙◌, subst, ap, List, [], ◌∷◌, length, Option, Some, None}
use Rattle.std.specs.Prelude.{slice_get}
use Rattle.std.proofs.lemmas.Bool.Decides.{Decides-eqb}
use Rattle.std.proofs.lemmas.Slice.Eq.{slice_eq-Decides}
use Rattle.std.proofs.lemmas.Option.{same_Some}
use Rattle.ruby_lexer.specs.Bytes.{same, is_in}
use Rattle.ruby_tree.specs.Names.{Bytes}
use Rattle.ruby_meaning.specs.Value.{Value}
use Rattle.ruby_meaning.specs.Store.{named, with_name}
use Rattle.ruby_meaning.specs.World.{Environment, World, Frame}
use Rattle.ruby_meaning.specs.Calls.{or_nil}
use Rattle.ruby_meaning.specs.Definitions.{found_local, parent_in, or_zero, local_in, holder_in, read_local, with_local_set, set_local_in, set_local}
use Rattle.ruby_meaning.specs.Laws.{names_in}
use Rattle.ruby_meaning.specs.Levels.{Scopes, is_held, level_of, slot_in, slot_of}
use Rattle.ruby_meaning.specs.InSight.{HaveNames, HasScopes}
use Rattle.ruby_meaning.proofs.LocalNames.{has_in}
use Rattle.code_meaning.specs.Slots.{parent_of, outward, value_at, value_in, read_slot, with_value_at, with_slot_set, set_slot_in, set_slot}

-- In one environment.

value_if : (x : Bytes) (b : Bytes × Value) (bs : List (Bytes × Value)) (t : Bool) → (is_in x (names_in bs) ≡ true → or_nil (named x bs) ≡ value_at (slot_in x (names_in bs)) bs) → t || is_in x (names_in bs) ≡ true
    → or_nil (cond t (Some b.1) (named x bs)) ≡ value_at (cond t 0 (suc (slot_in x (names_in bs)))) (b ∷ bs)
value_if x b bs true k h = refl
value_if x b bs false k h = k h

-- a name that is there has the value at its slot
named_at : (x : Bytes) (bs : List (Bytes × Value)) → is_in x (names_in bs) ≡ true → or_nil (named x bs) ≡ value_at (slot_in x (names_in bs)) bs
named_at x [] h = cc
named_at x (b ∷ bs) h = value_if x b bs (same x b.0) (named_at x bs) h

here_if : (x : Bytes) (b : Bytes × Value) (bs : List (Bytes × Value)) (outer : Value) (t : Bool) → (is_in x (names_in bs) ≡ true → found_local (named x bs) outer ≡ or_nil (named x bs)) → t || is_in x (names_in bs) ≡ true
    → found_local (cond t (Some b.1) (named x bs)) outer ≡ or_nil (cond t (Some b.1) (named x bs))
here_if x b bs outer true k h = refl
here_if x b bs outer false k h = k h

found_here : (x : Bytes) (bs : List (Bytes × Value)) (outer : Value) → is_in x (names_in bs) ≡ true → found_local (named x bs) outer ≡ or_nil (named x bs)
found_here x [] outer h = cc
found_here x (b ∷ bs) outer h = here_if x b bs outer (same x b.0) (found_here x bs outer) h

outer_if : (x : Bytes) (b : Bytes × Value) (bs : List (Bytes × Value)) (outer : Value) (t : Bool) → (is_in x (names_in bs) ≡ false → found_local (named x bs) outer ≡ outer) → t || is_in x (names_in bs) ≡ false
    → found_local (cond t (Some b.1) (named x bs)) outer ≡ outer
outer_if x b bs outer true k h = cc
outer_if x b bs outer false k h = k h

-- one that is not there is looked for outward
found_outward : (x : Bytes) (bs : List (Bytes × Value)) (outer : Value) → is_in x (names_in bs) ≡ false → found_local (named x bs) outer ≡ outer
found_outward x [] outer h = refl
found_outward x (b ∷ bs) outer h = outer_if x b bs outer (same x b.0) (found_outward x bs outer) h

same_is : (x y : Bytes) → same x y ≡ true → x ≡ y
same_is x y h = (slice_eq-Decides Decides-eqb x y (same x y) refl).0 h

set_if : (x : Bytes) (v : Value) (b : Bytes × Value) (bs : List (Bytes × Value)) (t : Bool) → same x b.0 ≡ t → (is_in x (names_in bs) ≡ true → with_name x v bs ≡ with_value_at (slot_in x (names_in bs)) v bs) → t || is_in x (names_in bs) ≡ true
    → cond t ((x, v) ∷ bs) (b ∷ with_name x v bs) ≡ with_value_at (cond t 0 (suc (slot_in x (names_in bs)))) v (b ∷ bs)
set_if x v b bs true s k h = ap (λ y. (y, v) ∷ bs) (same_is x b.0 s)
set_if x v b bs false s k h = ap (λ ys. b ∷ ys) (k h)

-- to set a name that is there is to set its slot
set_at : (x : Bytes) (v : Value) (bs : List (Bytes × Value)) → is_in x (names_in bs) ≡ true → with_name x v bs ≡ with_value_at (slot_in x (names_in bs)) v bs
set_at x v [] h = cc
set_at x v (b ∷ bs) h = set_if x v b bs (same x b.0) refl (set_at x v bs) h

-- to set it in an environment is to set its slot there
set_there : (all : List Environment) (n : ℕ) (x : Bytes) (v : Value) (e : Environment) → slice_get all n ≡ Some e → is_in x (names_in e.locals) ≡ true
    → with_local_set all n x v ≡ with_slot_set all n (slot_in x (names_in e.locals)) v
set_there [] n x v e there h = refl
set_there (d ∷ all) zero x v e there h =
    subst (λ y. with_local_set (d ∷ all) zero x v ≡ with_slot_set (d ∷ all) zero (slot_in x (names_in y.locals)) v) (same_Some d e there)
    (ap (λ bs. (record d { locals = bs }) ∷ all) (set_at x v d.locals (subst (λ y. is_in x (names_in y.locals) ≡ true) (sym (same_Some d e there)) h)))
set_there (d ∷ all) (suc n) x v e there h = ap (λ ys. d ∷ ys) (set_there all n x v e there h)

-- Outward.

-- The local of this name, as it is found from an environment: where it is held, by its level and slot, and what looking it up gives.
record Found (steps : ℕ) (all : List Environment) (scopes : Scopes) (x : Bytes) (p : Option ℕ) : Type 0 where
  place : ℕ
  it : Environment
  there : slice_get all place ≡ Some it
  has : is_in x (names_in it.locals) ≡ true
  level : outward (level_of x scopes) all p ≡ Some place
  slot : slot_of x scopes ≡ slot_in x (names_in it.locals)
  value : local_in steps all x (parent_in all p) ≡ or_nil (named x it.locals)
  holds : holder_in steps all x (or_zero p) (parent_in all p) ≡ Some place

value_here : (steps : ℕ) (all : List Environment) (x : Bytes) (e : Environment) → is_in x (names_in e.locals) ≡ true → local_in steps all x (Some e) ≡ or_nil (named x e.locals)
value_here zero all x e h = refl
value_here (suc steps) all x e h = found_here x e.locals (local_in steps all x (parent_in all e.parent)) h

holder_here : (steps : ℕ) (all : List Environment) (x : Bytes) (n : ℕ) (e : Environment) → is_in x (names_in e.locals) ≡ true → holder_in steps all x n (Some e) ≡ Some n
holder_here zero all x n e h = ap (λ t. cond t (Some n) None) (has_in x e.locals ∙ h)
holder_here (suc steps) all x n e h = ap (λ t. cond t (Some n) (holder_in steps all x (or_zero e.parent) (parent_in all e.parent))) (has_in x e.locals ∙ h)

here : (steps : ℕ) (all : List Environment) (names : List Bytes) (scopes : Scopes) (x : Bytes) (n : ℕ) (e : Environment) → slice_get all n ≡ Some e → names_in e.locals ≡ names → is_in x names ≡ true
    → Found steps all (names ∷ scopes) x (Some n)
here steps all names scopes x n e there is h =
    let has : is_in x (names_in e.locals) ≡ true = ap (is_in x) is ∙ h in
    record {
      place = n;
      it = e;
      there = there;
      has = has;
      level = ap (λ t. outward (cond t 0 (suc (level_of x scopes))) all (Some n)) h;
      slot = ap (λ t. cond t (slot_in x names) (slot_of x scopes)) h ∙ ap (slot_in x) (sym is);
      value = ap (local_in steps all x) there ∙ value_here steps all x e has;
      holds = ap (holder_in steps all x n) there ∙ holder_here steps all x n e has;
    }

further : (steps : ℕ) (all : List Environment) (names : List Bytes) (scopes : Scopes) (x : Bytes) (n : ℕ) (e : Environment) → slice_get all n ≡ Some e → names_in e.locals ≡ names → is_in x names ≡ false
    → Found steps all scopes x e.parent → Found (suc steps) all (names ∷ scopes) x (Some n)
further steps all names scopes x n e there is h f =
    let has : is_in x (names_in e.locals) ≡ false = ap (is_in x) is ∙ h in
    record {
      place = f.place;
      it = f.it;
      there = f.there;
      has = f.has;
      level = ap (λ t. outward (cond t 0 (suc (level_of x scopes))) all (Some n)) h ∙ ap (λ o. outward (level_of x scopes) all (parent_of o)) there ∙ f.level;
      slot = ap (λ t. cond t (slot_in x names) (slot_of x scopes)) h ∙ f.slot;
      value = ap (local_in (suc steps) all x) there ∙ found_outward x e.locals (local_in steps all x (parent_in all e.parent)) has ∙ f.value;
      holds = ap (holder_in (suc steps) all x n) there ∙ ap (λ t. cond t (Some n) (holder_in steps all x (or_zero e.parent) (parent_in all e.parent))) (has_in x e.locals ∙ has) ∙ f.holds;
    }

none_below : (n : ℕ) (all : List Environment) (scopes : Scopes) (x : Bytes) (p : Option ℕ) → n ≤ 0 → HaveNames n scopes all p → is_held x scopes ≡ true → ⊥
none_below n all [] x p le h held = cc
none_below n all (names ∷ scopes) x None le h held = h
none_below n all (names ∷ scopes) x (Some m) le h held = absurd (omega (arith, le, h.0))

found_if : (steps below : ℕ) (all : List Environment) (names : List Bytes) (scopes : Scopes) (x : Bytes) (n : ℕ) (t : Bool) → is_in x names ≡ t → below ≤ suc steps → HaveNames below (names ∷ scopes) all (Some n)
    → (t || is_held x scopes ≡ true) → ((j : ℕ) (p : Option ℕ) → n ≤ suc j → HaveNames n scopes all p → is_held x scopes ≡ true → Found j all scopes x p) → Found steps all (names ∷ scopes) x (Some n)
found_if steps below all names scopes x n true is le h held k = here steps all names scopes x n h.1 h.2 h.3 is
found_if zero below all names scopes x n false is le h held k = absurd (none_below n all scopes x h.1.parent (omega (arith, le, h.0)) h.4 held)
found_if (suc steps) below all names scopes x n false is le h held k = further steps all names scopes x n h.1 h.2 h.3 is (k steps h.1.parent (omega (arith, le, h.0)) h.4 held)

found : (steps below : ℕ) (all : List Environment) (scopes : Scopes) (x : Bytes) (p : Option ℕ) → below ≤ suc steps → HaveNames below scopes all p → is_held x scopes ≡ true → Found steps all scopes x p
found steps below all [] x p le h held = cc
found steps below all (names ∷ scopes) x None le h held = absurd h
found steps below all (names ∷ scopes) x (Some n) le h held = found_if steps below all names scopes x n (is_in x names) refl le h held (λ j q. found j n all scopes x q)

found_by : (scopes : Scopes) (x : Bytes) (frame : Frame) (w : World) → HasScopes scopes frame w → is_held x scopes ≡ true → Found (length w.environments) w.environments scopes x (Some frame.environment)
found_by scopes x frame w h held = found (length w.environments) (length w.environments) w.environments scopes x (Some frame.environment) (omega arith) h held

pub slot_read : (scopes : Scopes) (x : Bytes) (frame : Frame) (w : World) → HasScopes scopes frame w → is_held x scopes ≡ true → read_slot frame (slot_of x scopes) (level_of x scopes) w ≡ read_local frame x w
slot_read scopes x frame w h held =
    let f = found_by scopes x frame w h held in
    ap (λ o. value_in (slot_of x scopes) (parent_in w.environments o)) f.level ∙ ap (value_in (slot_of x scopes)) f.there ∙ ap (λ k. value_at k f.it.locals) f.slot
    ∙ sym (named_at x f.it.locals f.has) ∙ sym f.value

pub slot_set : (scopes : Scopes) (x : Bytes) (frame : Frame) (v : Value) (w : World) → HasScopes scopes frame w → is_held x scopes ≡ true → set_slot frame (slot_of x scopes) (level_of x scopes) v w ≡ set_local frame x v w
slot_set scopes x frame v w h held =
    let f = found_by scopes x frame w h held in
    ap (λ o. set_slot_in (slot_of x scopes) v o w) f.level ∙ ap (λ k. set_slot_in k v (Some f.place) w) f.slot
    ∙ ap (λ all. record w { environments = all }) (sym (set_there w.environments f.place x v f.it f.there f.has)) ∙ ap (λ o. set_local_in x v o w) (sym f.holds)
