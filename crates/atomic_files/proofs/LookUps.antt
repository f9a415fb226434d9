-- The last item of a name, of lists put together.
use Rattle.std.proofs.Common.{◌≡◌, ◌⊎◌, inl, inr, Bool, true, false, ◌==◌, ℕ, List, [], ◌∷◌, ◌++◌, Option, Some, None, if◌then◌else◌, refl, sym, ◌∙◌, ap}
use Rattle.std.proofs.lemmas.Bool.{eqb-true, and_parts}
use Rattle.bs_outside.specs.Cache.{CacheItem, same_kind, same_name, or_else, last_of, IsOneOf}
use Rattle.bs_outside.specs.declared.names.CacheName.{CacheName}
use Rattle.bs_outside.specs.declared.names.CacheKind.{CacheKind}
use Rattle.bs_outside.specs.declared.names.CacheKind.TheVariants.{Iseq, Yaml, Json, LoadPath}

same_kind-true : (a b : CacheKind) → same_kind a b ≡ true → a ≡ b
same_kind-true Iseq Iseq is = refl
same_kind-true Yaml Yaml is = refl
same_kind-true Json Json is = refl
same_kind-true LoadPath LoadPath is = refl
same_kind-true Iseq Yaml is = cc
same_kind-true Iseq Json is = cc
same_kind-true Iseq LoadPath is = cc
same_kind-true Yaml Iseq is = cc
same_kind-true Yaml Json is = cc
same_kind-true Yaml LoadPath is = cc
same_kind-true Json Iseq is = cc
same_kind-true Json Yaml is = cc
same_kind-true Json LoadPath is = cc
same_kind-true LoadPath Iseq is = cc
same_kind-true LoadPath Yaml is = cc
same_kind-true LoadPath Json is = cc

-- names that are one are equal
pub same_name-true : (a b : CacheName) → same_name a b ≡ true → a ≡ b
same_name-true a b is =
    let parts = and_parts (same_kind a.kind b.kind) (a.hash == b.hash) is in
    let kinds : a.kind ≡ b.kind = same_kind-true a.kind b.kind parts.0 in
    let hashes : a.hash ≡ b.hash = eqb-true a.hash b.hash parts.1 in
    λ i. record { kind = kinds i; hash = hashes i }

pub or_else-none : (a : Option (List ℕ)) → or_else a None ≡ a
or_else-none None = refl
or_else-none (Some x) = refl

pub or_else-assoc : (a b c : Option (List ℕ)) → or_else a (or_else b c) ≡ or_else (or_else a b) c
or_else-assoc None b c = refl
or_else-assoc (Some x) b c = refl

-- what the later list has comes first
pub last_of-append : (xs ys : List CacheItem) (name : CacheName) → last_of (xs ++ ys) name ≡ or_else (last_of ys name) (last_of xs name)
last_of-append [] ys name = sym (or_else-none (last_of ys name))
last_of-append (x ∷ xs) ys name =
    let here = if same_name x.0 name then Some x.1 else None in
    ap (λ (o : Option (List ℕ)). or_else o here) (last_of-append xs ys name) ∙ sym (or_else-assoc (last_of ys name) (last_of xs name) here)

found_here : (item : CacheItem) (name : CacheName) (bytes : List ℕ) (t : Bool) → same_name item.0 name ≡ t → (if t then Some item.1 else None) ≡ Some bytes → item ≡ (name, bytes)
found_here item name bytes true same is =
    let named : item.0 ≡ name = same_name-true item.0 name same in
    let held : item.1 ≡ bytes = cc in
    λ i. (named i, held i)
found_here item name bytes false same is = absurd cc

found_in : (item : CacheItem) (items : List CacheItem) (name : CacheName) (bytes : List ℕ) (later : Option (List ℕ)) → later ≡ last_of items name → (later ≡ Some bytes → IsOneOf (name, bytes) items)
    → or_else later (if same_name item.0 name then Some item.1 else None) ≡ Some bytes → IsOneOf (name, bytes) (item ∷ items)
found_in item items name bytes None later_is so_far is = inl (found_here item name bytes (same_name item.0 name) refl is)
found_in item items name bytes (Some x) later_is so_far is = inr (so_far is)

-- the bytes that are found are those of an item
pub last_of-one : (items : List CacheItem) (name : CacheName) (bytes : List ℕ) → last_of items name ≡ Some bytes → IsOneOf (name, bytes) items
last_of-one [] name bytes is = cc
last_of-one (item ∷ items) name bytes is = found_in item items name bytes (last_of items name) refl (last_of-one items name bytes) is

pub one_of-left : (x : CacheItem) (xs ys : List CacheItem) → IsOneOf x xs → IsOneOf x (xs ++ ys)
one_of-left x [] ys is = absurd is
one_of-left x (first ∷ xs) ys (inl here) = inl here
one_of-left x (first ∷ xs) ys (inr there) = inr (one_of-left x xs ys there)

pub one_of-right : (x : CacheItem) (xs ys : List CacheItem) → IsOneOf x ys → IsOneOf x (xs ++ ys)
one_of-right x [] ys is = is
one_of-right x (first ∷ xs) ys is = inr (one_of-right x xs ys is)

pub one_of-append : (x : CacheItem) (xs ys : List CacheItem) → IsOneOf x (xs ++ ys) → IsOneOf x xs ⊎ IsOneOf x ys
one_of-append x [] ys is = inr is
one_of-append x (first ∷ xs) ys (inl here) = inl (inl here)
one_of-append x (first ∷ xs) ys (inr there) = elim (one_of-append x xs ys there) [
  | inl left ↦ inl (inr left)
  | inr right ↦ inr right
]
