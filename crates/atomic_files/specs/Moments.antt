use Rattle.std.specs.Prelude.{◌≡◌, ◌⊎◌, ℕ, List, ◌++◌, Option, Some}
use Rattle.bs_outside.specs.Cache.{CacheItem, Cache, last_of, now_of, IsOneOf, MayCrashTo, IsMoment}
use Rattle.bs_outside.specs.History.{History}
use Rattle.bs_outside.specs.declared.names.CacheName.{CacheName}

-- What a name has is what it had before, or the whole bytes of one of these items.
abbrev pub IsWholeOrOld : Option (List ℕ) → List CacheItem → CacheName → Option (List ℕ) → Type 0
IsWholeOrOld before items name held = (held ≡ before) ⊎ ((bytes : List ℕ) × IsOneOf (name, bytes) items × (held ≡ Some bytes))

-- At each moment of a call that may put these items of its own, each name has what it had at the entry, or the whole of one of those items or of what others rename.
abbrev pub EachMomentIsWhole : History → History → List CacheItem → Type 0
EachMomentIsWhole old new own = (moment : List CacheItem) → IsMoment old.past new.past moment → (name : CacheName)
    → IsWholeOrOld (now_of (last_of old.start) old.past name) (old.guests ++ own) name (now_of (last_of old.start) moment name)

-- And whatever a crash leaves then, it could leave of a cache in which, after what stood in the past at the entry, all that others rename and all these items joined.
abbrev pub EachCrashIsKnown : History → History → List CacheItem → Type 0
EachCrashIsKnown old new own = (moment : List CacheItem) → IsMoment old.past new.past moment → (cache : Cache) → MayCrashTo (last_of old.start) moment cache
    → MayCrashTo (last_of old.start) (old.past ++ (old.guests ++ own)) cache

-- What is said of each moment of a call between these two histories that may put these items of its own.
pub record EachMoment (old new : History) (own : List CacheItem) : Type 0 where
  pub whole : EachMomentIsWhole old new own
  pub crash : EachCrashIsKnown old new own
