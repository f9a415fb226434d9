use Rattle.std.specs.Prelude.{◌≡◌, ◌⊎◌, ℕ, ◌≤◌, Bool, true, false, ◌&&◌, ◌==◌, List, [], ◌∷◌, ◌++◌, length, take, Option, Some, None, if◌then◌else◌}
use Rattle.bs_outside.specs.declared.names.CacheName.{CacheName}
use Rattle.bs_outside.specs.declared.names.CacheKind.{CacheKind}
use Rattle.bs_outside.specs.declared.names.CacheKind.TheVariants.{Iseq, Yaml, Json, LoadPath}

-- A name, and the bytes that it was given.
abbrev pub CacheItem : Type 0
CacheItem = CacheName × List ℕ

-- A finite map from names to bytes, seen as the look-up of a name.
abbrev pub Cache : Type 0
Cache = CacheName → Option (List ℕ)

abbrev pub same_kind : CacheKind → CacheKind → Bool
same_kind Iseq Iseq = true
same_kind Yaml Yaml = true
same_kind Json Json = true
same_kind LoadPath LoadPath = true
same_kind _ _ = false

abbrev pub same_name : CacheName → CacheName → Bool
same_name a b = same_kind a.kind b.kind && a.hash == b.hash

abbrev pub or_else : Option (List ℕ) → Option (List ℕ) → Option (List ℕ)
or_else (Some bytes) before = Some bytes
or_else None before = before

-- the bytes of the last item of each name
abbrev pub last_of : List CacheItem → Cache
last_of [] name = None
last_of (item ∷ items) name = or_else (last_of items name) (if same_name item.0 name then Some item.1 else None)

-- The cache that stands now: of each name the last item, else what it had at the start.
abbrev pub now_of : Cache → List CacheItem → Cache
now_of start past name = or_else (last_of past name) (start name)

abbrev pub IsOneOf : CacheItem → List CacheItem → Type 0
IsOneOf item [] = ⊥
IsOneOf item (first ∷ items) = (first ≡ item) ⊎ IsOneOf item items

-- After a crash a name has what it had at the start, or a prefix of one of its items.
abbrev pub MayHold : Cache → List CacheItem → CacheName → Option (List ℕ) → Type 0
MayHold start past name held = (held ≡ start name) ⊎ ((bytes : List ℕ) × (n : ℕ) × IsOneOf (name, bytes) past × (held ≡ Some (take n bytes)))

abbrev pub MayCrashTo : Cache → List CacheItem → Cache → Type 0
MayCrashTo start past cache = (name : CacheName) → MayHold start past name (cache name)

abbrev pub IsPrefixOf : List CacheItem → List CacheItem → Type 0
IsPrefixOf prefix whole = (rest : List CacheItem) × (prefix ++ rest ≡ whole)

-- A moment of a call: the past as it stood at some time between the call's entry and its exit.
abbrev pub IsMoment : List CacheItem → List CacheItem → List CacheItem → Type 0
IsMoment entry exit moment = IsPrefixOf moment exit × (length entry ≤ length moment)
