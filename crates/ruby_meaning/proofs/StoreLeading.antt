-- What each change of the store keeps.
use Rattle.std.proofs.Common.{◌≡◌, ◌⊎◌, inl, inr, ℕ, zero, suc, ◌≤◌, ◌<◌, true, false, refl, sym, subst, ap, ◌∙◌, arith, List, [], ◌∷◌, ◌++◌, length, length-append, Option}
use Rattle.std.proofs.lemmas.Bool.{false≢true}
use Rattle.ruby_tree.specs.Names.{Bytes}
use Rattle.ruby_meaning.specs.Value.{Value, MethodRow, Class, Kind, elements, table, class_or_module, Object, Objects}
use Rattle.ruby_meaning.specs.Store.{is_one_of, ancestors, kind_at, class_at, is_class_or_module, with_kind, with_class, with_variables, frozen_now, with_method, with_class_method}
use Rattle.ruby_meaning.specs.Natives.OfModule.{with_module}
use Rattle.ruby_meaning.specs.Invoke.{thrown_object}
use Rattle.ruby_meaning.specs.ClassGraph.{above_in, above, StoreLeads}
use Rattle.ruby_meaning.proofs.ClassGraph.{class_below, above_class, graph_less, kind_with, graph_with_kind, graph_module, graph_behind, kind_before}
use Rattle.ruby_meaning.proofs.NativeStores.{KeepsStores}

pub store_same : (store : Objects) → StoreLeads store store
store_same store = record { longer = omega arith; classes = λ n h. refl; graph = λ g. g }

pub less_on : (a b c : ℕ) → a < b → b ≤ c → a < c
less_on a b c h k = omega arith

at_most_on : (a b c : ℕ) → a ≤ b → b ≤ c → a ≤ c
at_most_on a b c h k = omega arith

pub store_on : (s t u : Objects) → StoreLeads s t → StoreLeads t u → StoreLeads s u
store_on s t u a b = record {
  longer = at_most_on (length s) (length t) (length u) a.longer b.longer;
  classes = λ n h. b.classes n (less_on n (length s) (length t) h a.longer) ∙ a.classes n h;
  graph = λ g. b.graph (a.graph g);
}

-- Another kind, with nothing more above it, where a class stays one and nothing else becomes one.

length_with_kind : (store : Objects) (n : ℕ) (k : Kind) → length (with_kind store n k) ≡ length store
length_with_kind [] n k = refl
length_with_kind (o ∷ store) zero k = refl
length_with_kind (o ∷ store) (suc n) k = ap suc (length_with_kind store n k)

class_with_kind : (store : Objects) (n : ℕ) (k : Kind) → is_class_or_module k ≡ is_class_or_module (kind_at store n) → (c : ℕ) → (kind_at (with_kind store n k) c ≡ kind_at store c) ⊎ ((c ≡ n) × (kind_at (with_kind store n k) c ≡ k))
    → is_class_or_module (kind_at (with_kind store n k) c) ≡ is_class_or_module (kind_at store c)
class_with_kind store n k same c (inl e) = ap is_class_or_module e
class_with_kind store n k same c (inr e) = ap is_class_or_module e.1 ∙ (same ∙ ap (λ x. is_class_or_module (kind_at store x)) (sym e.0))

pub store_with_kind : (store : Objects) (n : ℕ) (k : Kind) → is_class_or_module k ≡ is_class_or_module (kind_at store n) → ((p : ℕ) → is_one_of p (above_in k) ≡ true → is_one_of p (above store n) ≡ true) → StoreLeads store (with_kind store n k)
store_with_kind store n k same less = record {
  longer = omega (arith, length_with_kind store n k);
  classes = λ c h. class_with_kind store n k same c (kind_with store n c k);
  graph = graph_with_kind store n k less (λ h. same ∙ h);
}

-- a class with other rows or constants
pub store_with_class : (store : Objects) (n : ℕ) (c : Class) → is_class_or_module (kind_at store n) ≡ true → ((p : ℕ) → is_one_of p (above_in (class_or_module c)) ≡ true → is_one_of p (above store n) ≡ true) → StoreLeads store (with_class store n c)
store_with_class store n c is less = store_with_kind store n (class_or_module c) (sym is) less

pub store_with_method : (store : Objects) (n : ℕ) (r : MethodRow) → is_class_or_module (kind_at store n) ≡ true → StoreLeads store (with_method store n r)
store_with_method store n r is = store_with_class store n (record (class_at store n) { methods = r ∷ (class_at store n).methods }) is (λ p h. h)

pub store_with_class_method : (store : Objects) (n : ℕ) (r : MethodRow) → is_class_or_module (kind_at store n) ≡ true → StoreLeads store (with_class_method store n r)
store_with_class_method store n r is = store_with_class store n (record (class_at store n) { class_methods = r ∷ (class_at store n).class_methods }) is (λ p h. h)

pub store_with_constants : (store : Objects) (n : ℕ) (cs : List (Bytes × Value)) → is_class_or_module (kind_at store n) ≡ true → StoreLeads store (with_class store n (record (class_at store n) { constants = cs }))
store_with_constants store n cs is = store_with_class store n (record (class_at store n) { constants = cs }) is (λ p h. h)

pub store_with_module : (store : Objects) (n m : ℕ) → is_class_or_module (kind_at store n) ≡ true → is_class_or_module (kind_at store m) ≡ true → is_one_of n (ancestors store m) ≡ false → StoreLeads store (with_module store n m)
store_with_module store n m is other free =
    let k : Kind = class_or_module (record (class_at store n) { modules = m ∷ (class_at store n).modules }) in
    record {
      longer = omega (arith, length_with_kind store n k);
      classes = λ c h. class_with_kind store n k (sym is) c (kind_with store n c k);
      graph = λ g. graph_module store n m g is other free;
    }

-- Objects that keep their kinds.

keeps_kinds : (store next : Objects) → length next ≡ length store → ((c : ℕ) → kind_at next c ≡ kind_at store c) → StoreLeads store next
keeps_kinds store next same kinds = record {
  longer = omega (arith, same);
  classes = λ c h. ap is_class_or_module (kinds c);
  graph = graph_less store next (λ c p h. subst (λ k. is_one_of p (above_in k) ≡ true) (kinds c) h) (λ c h. subst (λ k. is_class_or_module k ≡ true) (sym (kinds c)) h);
}

length_frozen : (store : Objects) (n : ℕ) → length (frozen_now store n) ≡ length store
length_frozen [] n = refl
length_frozen (o ∷ store) zero = refl
length_frozen (o ∷ store) (suc n) = ap suc (length_frozen store n)

pub kind_frozen : (store : Objects) (n c : ℕ) → kind_at (frozen_now store n) c ≡ kind_at store c
kind_frozen [] n c = refl
kind_frozen (o ∷ store) zero zero = refl
kind_frozen (o ∷ store) zero (suc c) = refl
kind_frozen (o ∷ store) (suc n) zero = refl
kind_frozen (o ∷ store) (suc n) (suc c) = kind_frozen store n c

pub store_frozen : (store : Objects) (n : ℕ) → StoreLeads store (frozen_now store n)
store_frozen store n = keeps_kinds store (frozen_now store n) (length_frozen store n) (kind_frozen store n)

length_variables : (store : Objects) (n : ℕ) (vs : List (Bytes × Value)) → length (with_variables store n vs) ≡ length store
length_variables [] n vs = refl
length_variables (o ∷ store) zero vs = refl
length_variables (o ∷ store) (suc n) vs = ap suc (length_variables store n vs)

pub kind_variables : (store : Objects) (n : ℕ) (vs : List (Bytes × Value)) (c : ℕ) → kind_at (with_variables store n vs) c ≡ kind_at store c
kind_variables [] n vs c = refl
kind_variables (o ∷ store) zero vs zero = refl
kind_variables (o ∷ store) zero vs (suc c) = refl
kind_variables (o ∷ store) (suc n) vs zero = refl
kind_variables (o ∷ store) (suc n) vs (suc c) = kind_variables store n vs c

pub store_with_variables : (store : Objects) (n : ℕ) (vs : List (Bytes × Value)) → StoreLeads store (with_variables store n vs)
store_with_variables store n vs = keeps_kinds store (with_variables store n vs) (length_variables store n vs) (kind_variables store n vs)

length_thrown : (p : Option (Bytes × ℕ)) (n : ℕ) (store : Objects) → length (thrown_object p n store) ≡ length store
length_thrown p n [] = refl
length_thrown p zero (o ∷ store) = refl
length_thrown p (suc n) (o ∷ store) = ap suc (length_thrown p n store)

pub kind_thrown : (p : Option (Bytes × ℕ)) (n : ℕ) (store : Objects) (c : ℕ) → kind_at (thrown_object p n store) c ≡ kind_at store c
kind_thrown p n [] c = refl
kind_thrown p zero (o ∷ store) zero = refl
kind_thrown p zero (o ∷ store) (suc c) = refl
kind_thrown p (suc n) (o ∷ store) zero = refl
kind_thrown p (suc n) (o ∷ store) (suc c) = kind_thrown p n store c

pub store_thrown : (p : Option (Bytes × ℕ)) (n : ℕ) (store : Objects) → StoreLeads store (thrown_object p n store)
store_thrown p n store = keeps_kinds store (thrown_object p n store) (length_thrown p n store) (kind_thrown p n store)

-- One more object: no class, or one above which there are classes.

none_above : (store : Objects) (k : Kind) → is_class_or_module k ≡ false → (p : ℕ) → is_one_of p (above_in k) ≡ true → is_class_or_module (kind_at store p) ≡ true
none_above store k other p h = absurd (false≢true (sym other ∙ above_class k p h))

pub store_behind : (store : Objects) (o : Object) → ((p : ℕ) → is_one_of p (above_in o.kind) ≡ true → is_class_or_module (kind_at store p) ≡ true) → StoreLeads store (store ++ o ∷ [])
store_behind store o over = record {
  longer = omega (arith, length-append store (o ∷ []));
  classes = λ n h. ap is_class_or_module (kind_before store o n h);
  graph = λ g. graph_behind store o g over;
}

pub store_made : (store : Objects) (o : Object) → is_class_or_module o.kind ≡ false → StoreLeads store (store ++ o ∷ [])
store_made store o other = store_behind store o (none_above store o.kind other)

-- What natives do.

pub stays_class : (store next : Objects) (n : ℕ) → StoreLeads store next → is_class_or_module (kind_at store n) ≡ true → is_class_or_module (kind_at next n) ≡ true
stays_class store next n l h = l.classes n (class_below store n h) ∙ h

pub natives_lead : KeepsStores StoreLeads
natives_lead = record {
  same = store_same;
  then_on = store_on;
  behind = store_made;
  with_elements = λ store n old new e. store_with_kind store n (elements new) (sym (ap is_class_or_module e)) (λ p h. absurd (false≢true h));
  with_table = λ store n old new d e. store_with_kind store n (table new d) (sym (ap is_class_or_module e)) (λ p h. absurd (false≢true h));
  frozen = store_frozen;
  with_row = λ store n r attribute is. store_with_method store n r is;
  with_module = store_with_module;
  classes = stays_class;
}
