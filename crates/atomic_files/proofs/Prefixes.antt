-- What holds of each prefix of each item holds of all that stands, and of all that a crash leaves.
use Rattle.std.proofs.Common.{◌≡◌, inl, inr, ℕ, List, [], ◌∷◌, ◌++◌, length, take, Option, Some, None, IfSome, refl, sym, subst, arith}
use Rattle.std.proofs.lemmas.List.{take_all}
use Rattle.std.specs.List.{AllByRecursion}
use Rattle.bs_outside.specs.Cache.{CacheItem, Cache, or_else, last_of, now_of, MayHold, MayCrashTo, IsMoment}
use Rattle.bs_outside.specs.declared.names.CacheName.{CacheName}
use Rattle.bs_outside.proofs.Since.{all-one_of}
use Rattle.atomic_files.proofs.LookUps.{last_of-one}

-- each prefix of the item has P under its name
abbrev pub PrefixesHave : (CacheName → List ℕ → Type 0) → CacheItem → Type 0
PrefixesHave P item = (n : ℕ) → P item.0 (take n item.1)

whole_has : (P : CacheName → List ℕ → Type 0) (item : CacheItem) → PrefixesHave P item → P item.0 item.1
whole_has P item all = subst (P item.0) (take_all (length item.1) item.1 (omega arith)) (all (length item.1))

now_has : (P : CacheName → List ℕ → Type 0) (start : Cache) (past : List CacheItem) (name : CacheName) (found : Option (List ℕ)) → IfSome (start name) (P name) → AllByRecursion (PrefixesHave P) past
    → last_of past name ≡ found → IfSome (or_else found (start name)) (P name)
now_has P start past name None at_start all is = at_start
now_has P start past name (Some bytes) at_start all is =
    whole_has P (name, bytes) (all-one_of (PrefixesHave P) past (name, bytes) all (last_of-one past name bytes is))

pub stands_has : (P : CacheName → List ℕ → Type 0) (start : Cache) (past : List CacheItem) → ((name : CacheName) → IfSome (start name) (P name)) → AllByRecursion (PrefixesHave P) past
    → (name : CacheName) → IfSome (now_of start past name) (P name)
stands_has P start past at_start all name = now_has P start past name (last_of past name) (at_start name) all refl

held_has : (P : CacheName → List ℕ → Type 0) (start : Cache) (past : List CacheItem) (name : CacheName) (held : Option (List ℕ)) → IfSome (start name) (P name) → AllByRecursion (PrefixesHave P) past
    → MayHold start past name held → IfSome held (P name)
held_has P start past name held at_start all (inl was) = subst (λ (o : Option (List ℕ)). IfSome o (P name)) (sym was) at_start
held_has P start past name held at_start all (inr torn) =
    subst (λ (o : Option (List ℕ)). IfSome o (P name)) (sym torn.3) (all-one_of (PrefixesHave P) past (name, torn.0) all torn.2 torn.1)

pub crash_has : (P : CacheName → List ℕ → Type 0) (start : Cache) (past : List CacheItem) → ((name : CacheName) → IfSome (start name) (P name)) → AllByRecursion (PrefixesHave P) past
    → (cache : Cache) → MayCrashTo start past cache → (name : CacheName) → IfSome (cache name) (P name)
crash_has P start past at_start all cache may name = held_has P start past name (cache name) (at_start name) all (may name)

all-front : (P : CacheItem → Type 0) (front rest : List CacheItem) → AllByRecursion P (front ++ rest) → AllByRecursion P front
all-front P [] rest all = tt
all-front P (item ∷ front) rest all = (all.0, all-front P front rest all.1)

-- the past of a moment is the first part of the past at the exit
pub moment_has : (P : CacheName → List ℕ → Type 0) (entry exit moment : List CacheItem) → AllByRecursion (PrefixesHave P) exit → IsMoment entry exit moment → AllByRecursion (PrefixesHave P) moment
moment_has P entry exit moment all at = all-front (PrefixesHave P) moment at.0.0 (subst (AllByRecursion (PrefixesHave P)) (sym at.0.1) all)
