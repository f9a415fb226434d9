-- The last items of each name.
use Rattle.std.proofs.Common.{◌≡◌, Bool, true, false, ℕ, List, [], ◌∷◌, ◌++◌, Option, Some, None, is_some, if◌then◌else◌, refl, sym, ◌∙◌, ap, append_assoc}
use Rattle.std.proofs.lemmas.List.{append-nil}
use Rattle.bs_outside.specs.Cache.{CacheItem, same_name, or_else, last_of, now_of}
use Rattle.bs_outside.specs.declared.names.CacheName.{CacheName}
use Rattle.mem_shelf.specs.Keeping.{Keeping, NamesOnce, is_named, latest}
use Rattle.atomic_files.proofs.LookUps.{same_name-true, last_of-append}

if_more : (t : Bool) (x : CacheItem) (l a more : List CacheItem) → l ≡ a ++ more → (if t then l else x ∷ l) ≡ (if t then a else x ∷ a) ++ more
if_more true x l a more is = is
if_more false x l a more is = ap (λ (r : List CacheItem). x ∷ r) is

pub latest-append : (xs ys after : List CacheItem) → latest (xs ++ ys) after ≡ latest xs (ys ++ after) ++ latest ys after
latest-append [] ys after = refl
latest-append (x ∷ xs) ys after =
    ap (λ (l : List CacheItem). if is_named l x.0 then latest (xs ++ ys) after else x ∷ latest (xs ++ ys) after) (append_assoc xs ys after)
    ∙ if_more (is_named (xs ++ (ys ++ after)) x.0) x (latest (xs ++ ys) after) (latest xs (ys ++ after)) (latest ys after) (latest-append xs ys after)

-- what a later item hides
hidden : (xs : List CacheItem) (x : CacheItem) (name : CacheName) (t : Bool) → same_name x.0 name ≡ t → is_some (last_of xs x.0) ≡ true → last_of xs name ≡ or_else (last_of xs name) (if t then Some x.1 else None)
hidden xs x name true same some = first (last_of xs name) (ap (λ (n : CacheName). is_some (last_of xs n)) (sym (same_name-true x.0 name same)) ∙ some)
  where
    first : (a : Option (List ℕ)) → is_some a ≡ true → a ≡ or_else a (Some x.1)
    first None is = cc
    first (Some bytes) is = refl
hidden xs x name false same some = none (last_of xs name)
  where
    none : (a : Option (List ℕ)) → a ≡ or_else a None
    none None = refl
    none (Some bytes) = refl

last_of-one_more : (x : CacheItem) (xs : List CacheItem) (name : CacheName) (t : Bool) → is_named (xs ++ []) x.0 ≡ t → last_of (latest xs []) name ≡ last_of xs name
    → last_of (if t then latest xs [] else x ∷ latest xs []) name ≡ or_else (last_of xs name) (if same_name x.0 name then Some x.1 else None)
last_of-one_more x xs name true is so_far = so_far ∙ hidden xs x name (same_name x.0 name) refl (ap (λ (l : List CacheItem). is_named l x.0) (sym (append-nil xs)) ∙ is)
last_of-one_more x xs name false is so_far = ap (λ (o : Option (List ℕ)). or_else o (if same_name x.0 name then Some x.1 else None)) so_far

-- each name keeps its last item
pub last_of-latest : (items : List CacheItem) (name : CacheName) → last_of (latest items []) name ≡ last_of items name
last_of-latest [] name = refl
last_of-latest (x ∷ xs) name = last_of-one_more x xs name (is_named (xs ++ []) x.0) refl (last_of-latest xs name)

none_of : (a : Option (List ℕ)) → is_some a ≡ false → a ≡ None
none_of None is = refl
none_of (Some bytes) is = cc

once-one_more : (x : CacheItem) (xs : List CacheItem) (t : Bool) → is_named (xs ++ []) x.0 ≡ t → NamesOnce (latest xs []) → NamesOnce (if t then latest xs [] else x ∷ latest xs [])
once-one_more x xs true is so_far = so_far
once-one_more x xs false is so_far = (last_of-latest xs x.0 ∙ none_of (last_of xs x.0) (ap (λ (l : List CacheItem). is_named l x.0) (sym (append-nil xs)) ∙ is), so_far)

pub latest_once : (items : List CacheItem) → NamesOnce (latest items [])
latest_once [] = tt
latest_once (x ∷ xs) = once-one_more x xs (is_named (xs ++ []) x.0) refl (latest_once xs)

-- the files of two lists, put together one after the other
pub latest_of_both : (kept : Keeping) (start past again first all : List CacheItem) → start ≡ kept.start → past ≡ kept.past → again ≡ kept.past → first ≡ [] ++ latest start past → all ≡ first ++ latest again []
    → all ≡ latest (kept.start ++ kept.past) []
latest_of_both kept start past again first all start_is past_is again_is begun ended =
    rw (ended, begun, start_is, past_is, again_is) (ap (λ (l : List CacheItem). latest kept.start l ++ latest kept.past []) (sym (append-nil kept.past)) ∙ sym (latest-append kept.start kept.past []))

pub left_stands : (kept : Keeping) (all : List CacheItem) (name : CacheName) → all ≡ latest (kept.start ++ kept.past) [] → last_of all name ≡ now_of (last_of kept.start) kept.past name
left_stands kept all name is = ap (λ (l : List CacheItem). last_of l name) is ∙ last_of-latest (kept.start ++ kept.past) name ∙ last_of-append kept.start kept.past name
