-- What changes of the store keep of the code that stands in it.
use Rattle.std.proofs.Common.{◌≡◌, ◌⊎◌, inl, inr, ℕ, true, false, refl, sym, subst, List, [], ◌∷◌, ◌++◌, length, Option, Some, None}
use Rattle.std.proofs.lemmas.Bool.{false≢true}
use Rattle.ruby_tree.specs.Names.{Bytes}
use Rattle.ruby_tree.specs.Placement.{Around}
use Rattle.ruby_meaning.specs.Value.{Value, Code, MethodBody, written, native, reader, writer, MethodRow, Class, Kind, string, elements, table, span, closed, plain, class_or_module, Object, Objects}
use Rattle.ruby_meaning.specs.Store.{kind_at, class_in, class_at, is_class_or_module, with_kind, with_class, with_variables, frozen_now, with_method, with_class_method}
use Rattle.ruby_meaning.specs.Invoke.{thrown_object}
use Rattle.ruby_meaning.specs.World.{Environment, Running, Closure}
use Rattle.ruby_meaning.specs.Laws.{EnvironmentsStay}
use Rattle.ruby_meaning.specs.ClassGraph.{StoreLeads}
use Rattle.ruby_meaning.specs.Stored.{IsClass, AreClasses, BodyIs, RowsAre, ClassIs, EachCode, EachClosure, CodeStored, class_of_place, RunningFits, StoredIn, ClosureStored}
use Rattle.ruby_meaning.specs.Levels.{Sight, Telling, untold}
use Rattle.ruby_meaning.specs.Housed.{CodeHoused, MadeIn, ClosureHoused}
use Rattle.ruby_meaning.proofs.ClassGraph.{kind_with, kind_behind}
use Rattle.ruby_meaning.proofs.Scopes.{names_stay}
use Rattle.ruby_meaning.proofs.NativeStores.{is_attribute, KeepsStores}
use Rattle.ruby_meaning.proofs.StoreLeading.{store_same, store_on, store_with_method, store_with_class_method, store_with_constants, store_with_module, store_frozen, kind_frozen, store_with_variables, kind_variables, store_thrown, kind_thrown, store_made, stays_class, natives_lead}

-- What leads to a later store keeps what is stored.

pub classes_on : (s t : Objects) → StoreLeads s t → (cs : List ℕ) → AreClasses s cs → AreClasses t cs
classes_on s t l [] h = tt
classes_on s t l (c ∷ cs) h = (stays_class s t c l h.0, classes_on s t l cs h.1)

-- Whether it is asked of housing, and by what telling.
pub record Asked : Type 1 where
  pub is : Type 0
  pub told : Telling

-- it is not
abbrev pub unasked : Asked
unasked = record { is = ⊥; told = untold }

-- it is
abbrev pub asked_by : Telling → Asked
asked_by told = record { is = Unit {0}; told = told }

-- Code as it stands in a store: placed, and housed where that is asked.
pub record GoodCode (asked : Asked) (s : Objects) (code : Code) : Type 0 where
  pub stored : CodeStored s code
  pub housed : asked.is → CodeHoused asked.told code

-- A closure as it stands in a store and among environments.
pub record GoodClosure (asked : Asked) (s : Objects) (es : List Environment) (k : Closure) : Type 0 where
  pub stored : ClosureStored s k
  pub housed : asked.is → ClosureHoused asked.told es k

pub running_on : (s t : Objects) → StoreLeads s t → (m : Option Running) → RunningFits s m → RunningFits t m
running_on s t l None h = tt
running_on s t l (Some r) h = stays_class s t (class_of_place r.place) l h

pub code_on : (s t : Objects) → StoreLeads s t → (code : Code) → CodeStored s code → CodeStored t code
code_on s t l code h = record { placed = h.placed; classes = classes_on s t l code.classes h.classes }

pub closure_on : (around : Around) (s t : Objects) → StoreLeads s t → (k : Closure) → StoredIn around s k → StoredIn around t k
closure_on around s t l k h = record { placed = h.placed; home = h.home; running = running_on s t l k.method h.running; classes = classes_on s t l k.code.classes h.classes }

-- Among environments that stay a block stays made where it was.
pub made_on : (told : Telling) (around : Sight) (es fs : List Environment) → EnvironmentsStay es fs → (k : Closure) → MadeIn told around es k → MadeIn told around fs k
made_on told around es fs stay k h = record { seen = h.seen; locals = h.locals; scopes = names_stay around.scopes es fs (Some k.environment) stay h.scopes; housed = h.housed; told_body = h.told_body }

-- The store leads on, and where all code that it has is good, so it is after the change.
pub record StoreKeeps (asked : Asked) (s t : Objects) : Type 0 where
  pub leads : StoreLeads s t
  pub rows : EachCode (GoodCode asked s) s → EachCode (GoodCode asked t) t

no_rows : (so : Code → Type 0) (k : Kind) → is_class_or_module k ≡ false → ClassIs so (class_in k)
no_rows so (string f) h = (tt, tt)
no_rows so (elements vs) h = (tt, tt)
no_rows so (table ps d) h = (tt, tt)
no_rows so (span a b e) h = (tt, tt)
no_rows so (closed k) h = (tt, tt)
no_rows so (plain c) h = (tt, tt)
no_rows so (class_or_module c) h = absurd (false≢true (sym h))

attribute_is : (so : Code → Type 0) (b : MethodBody) → is_attribute b ≡ true → BodyIs so b
attribute_is so (written code) h = absurd (false≢true h)
attribute_is so (native n) h = tt
attribute_is so (reader x) h = tt
attribute_is so (writer x) h = tt

module _ (asked : Asked) where
  pub good_code_on : (s t : Objects) → StoreLeads s t → (code : Code) → GoodCode asked s code → GoodCode asked t code
  good_code_on s t l code h = record { stored = code_on s t l code h.stored; housed = h.housed }

  body_on : (s t : Objects) → StoreLeads s t → (b : MethodBody) → BodyIs (GoodCode asked s) b → BodyIs (GoodCode asked t) b
  body_on s t l (written code) h = good_code_on s t l code h
  body_on s t l (native n) h = tt
  body_on s t l (reader x) h = tt
  body_on s t l (writer x) h = tt

  rows_on : (s t : Objects) → StoreLeads s t → (rs : List MethodRow) → RowsAre (GoodCode asked s) rs → RowsAre (GoodCode asked t) rs
  rows_on s t l [] h = tt
  rows_on s t l (r ∷ rs) h = (body_on s t l r.body h.0, rows_on s t l rs h.1)

  class_on : (s t : Objects) → StoreLeads s t → (c : Class) → ClassIs (GoodCode asked s) c → ClassIs (GoodCode asked t) c
  class_on s t l c h = (rows_on s t l c.methods h.0, rows_on s t l c.class_methods h.1)

  pub good_closure_on : (s t : Objects) (es fs : List Environment) → StoreLeads s t → (asked.is → EnvironmentsStay es fs) → (k : Closure) → GoodClosure asked s es k → GoodClosure asked t fs k
  good_closure_on s t es fs l stay k h = record { stored = (h.stored.0, closure_on h.stored.0 s t l k h.stored.1); housed = λ g. ((h.housed g).0, made_on asked.told (h.housed g).0 es fs (stay g) k (h.housed g).1) }

  pub closures_on : (s t : Objects) (es fs : List Environment) → StoreLeads s t → (asked.is → EnvironmentsStay es fs) → (all : List Closure) → EachClosure (GoodClosure asked s es) all → EachClosure (GoodClosure asked t fs) all
  closures_on s t es fs l stay [] h = tt
  closures_on s t es fs l stay (k ∷ all) h = (good_closure_on s t es fs l stay k h.0, closures_on s t es fs l stay all h.1)

  pub keeps_same : (s : Objects) → StoreKeeps asked s s
  keeps_same s = record { leads = store_same s; rows = λ h. h }

  pub keeps_on : (s t u : Objects) → StoreKeeps asked s t → StoreKeeps asked t u → StoreKeeps asked s u
  keeps_on s t u a b = record { leads = store_on s t u a.leads b.leads; rows = λ h. b.rows (a.rows h) }

  -- each object's kind is as it was, or one whose rows are stored
  changed : (s t : Objects) → StoreLeads s t → ((n : ℕ) → (kind_at t n ≡ kind_at s n) ⊎ (EachCode (GoodCode asked s) s → ClassIs (GoodCode asked t) (class_in (kind_at t n)))) → StoreKeeps asked s t
  changed s t l h = record { leads = l; rows = λ all n. by n all (h n) }
    where
      by : (n : ℕ) → EachCode (GoodCode asked s) s → (kind_at t n ≡ kind_at s n) ⊎ (EachCode (GoodCode asked s) s → ClassIs (GoodCode asked t) (class_in (kind_at t n))) → ClassIs (GoodCode asked t) (class_at t n)
      by n all (inl e) = subst (λ k. ClassIs (GoodCode asked t) (class_in k)) (sym e) (class_on s t l (class_at s n) (all n))
      by n all (inr f) = f all

  same_kinds : (s t : Objects) → StoreLeads s t → ((n : ℕ) → kind_at t n ≡ kind_at s n) → StoreKeeps asked s t
  same_kinds s t l h = changed s t l (λ n. inl (h n))

  -- another kind in its place, whose rows are stored
  kind_changed : (s : Objects) (n : ℕ) (k : Kind) → StoreLeads s (with_kind s n k) → (EachCode (GoodCode asked s) s → ClassIs (GoodCode asked (with_kind s n k)) (class_in k)) → StoreKeeps asked s (with_kind s n k)
  kind_changed s n k l f = changed s (with_kind s n k) l (λ m. by m (kind_with s n m k))
    where
      by : (m : ℕ) → (kind_at (with_kind s n k) m ≡ kind_at s m) ⊎ ((m ≡ n) × (kind_at (with_kind s n k) m ≡ k)) → (kind_at (with_kind s n k) m ≡ kind_at s m) ⊎ (EachCode (GoodCode asked s) s → ClassIs (GoodCode asked (with_kind s n k)) (class_in (kind_at (with_kind s n k) m)))
      by m (inl e) = inl e
      by m (inr e) = inr (λ all. subst (λ x. ClassIs (GoodCode asked (with_kind s n k)) (class_in x)) (sym e.1) (f all))

  -- one more object, whose rows are stored
  pub keeps_behind : (s : Objects) (o : Object) → StoreLeads s (s ++ o ∷ []) → ClassIs (GoodCode asked (s ++ o ∷ [])) (class_in o.kind) → StoreKeeps asked s (s ++ o ∷ [])
  keeps_behind s o l f = changed s (s ++ o ∷ []) l (λ m. by m (kind_behind s o m))
    where
      by : (m : ℕ) → (kind_at (s ++ o ∷ []) m ≡ kind_at s m) ⊎ ((m ≡ length s) × (kind_at (s ++ o ∷ []) m ≡ o.kind)) → (kind_at (s ++ o ∷ []) m ≡ kind_at s m) ⊎ (EachCode (GoodCode asked s) s → ClassIs (GoodCode asked (s ++ o ∷ [])) (class_in (kind_at (s ++ o ∷ []) m)))
      by m (inl e) = inl e
      by m (inr e) = inr (λ all. subst (λ x. ClassIs (GoodCode asked (s ++ o ∷ [])) (class_in x)) (sym e.1) f)

  pub keeps_made : (s : Objects) (o : Object) → is_class_or_module o.kind ≡ false → StoreKeeps asked s (s ++ o ∷ [])
  keeps_made s o h = keeps_behind s o (store_made s o h) (no_rows (GoodCode asked (s ++ o ∷ [])) o.kind h)

  pub keeps_kind : (s : Objects) (n : ℕ) (k : Kind) → StoreLeads s (with_kind s n k) → is_class_or_module k ≡ false → StoreKeeps asked s (with_kind s n k)
  keeps_kind s n k l h = kind_changed s n k l (λ all. no_rows (GoodCode asked (with_kind s n k)) k h)

  pub keeps_variables : (s : Objects) (n : ℕ) (vs : List (Bytes × Value)) → StoreKeeps asked s (with_variables s n vs)
  keeps_variables s n vs = same_kinds s (with_variables s n vs) (store_with_variables s n vs) (kind_variables s n vs)

  pub keeps_frozen : (s : Objects) (n : ℕ) → StoreKeeps asked s (frozen_now s n)
  keeps_frozen s n = same_kinds s (frozen_now s n) (store_frozen s n) (kind_frozen s n)

  pub keeps_thrown : (p : Option (Bytes × ℕ)) (n : ℕ) (s : Objects) → StoreKeeps asked s (thrown_object p n s)
  keeps_thrown p n s = same_kinds s (thrown_object p n s) (store_thrown p n s) (kind_thrown p n s)

  -- Rows, constants and modules of a class.

  pub keeps_method : (s : Objects) (n : ℕ) (r : MethodRow) → IsClass s n → BodyIs (GoodCode asked s) r.body → StoreKeeps asked s (with_method s n r)
  keeps_method s n r is h =
      let l : StoreLeads s (with_method s n r) = store_with_method s n r is in
      kind_changed s n _ l (λ all. ((body_on s (with_method s n r) l r.body h, rows_on s (with_method s n r) l (class_at s n).methods (all n).0), rows_on s (with_method s n r) l (class_at s n).class_methods (all n).1))

  pub keeps_class_method : (s : Objects) (n : ℕ) (r : MethodRow) → IsClass s n → BodyIs (GoodCode asked s) r.body → StoreKeeps asked s (with_class_method s n r)
  keeps_class_method s n r is h =
      let l : StoreLeads s (with_class_method s n r) = store_with_class_method s n r is in
      kind_changed s n _ l (λ all. (rows_on s (with_class_method s n r) l (class_at s n).methods (all n).0, (body_on s (with_class_method s n r) l r.body h, rows_on s (with_class_method s n r) l (class_at s n).class_methods (all n).1)))

  pub keeps_constants : (s : Objects) (n : ℕ) (cs : List (Bytes × Value)) → IsClass s n → StoreKeeps asked s (with_class s n (record (class_at s n) { constants = cs }))
  keeps_constants s n cs is =
      let t : Objects = with_class s n (record (class_at s n) { constants = cs }) in
      let l : StoreLeads s t = store_with_constants s n cs is in
      kind_changed s n _ l (λ all. class_on s t l (class_at s n) (all n))

  pub natives_keep : KeepsStores (StoreKeeps asked)
  natives_keep = record {
    same = keeps_same;
    then_on = keeps_on;
    behind = keeps_made;
    with_elements = λ s n old new e. keeps_kind s n (elements new) (natives_lead.with_elements s n old new e) refl;
    with_table = λ s n old new d e. keeps_kind s n (table new d) (natives_lead.with_table s n old new d e) refl;
    frozen = keeps_frozen;
    with_row = λ s n r attribute is. keeps_method s n r is (attribute_is (GoodCode asked s) r.body attribute);
    with_module = λ s n m is other free.
        let l = store_with_module s n m is other free in
        kind_changed s n _ l (λ all. class_on s _ l (class_at s n) (all n));
    classes = λ s t n k. stays_class s t n k.leads;
  }
