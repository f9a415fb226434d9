-- A list of items with some left out.
use Rattle.std.specs.Prelude.{ℕ, ◌+◌, ◌-◌, ◌^◌, ◌<◌, ◌≤◌, List, [], ◌∷◌, length}
use Rattle.bs_outside.specs.Cache.{CacheItem}
use Rattle.bs_outside.specs.History.{History, Since}

-- The kept items are the full list with some left out.
pub data IsPart : List CacheItem → List CacheItem → Type 0 where
  none : IsPart [] []
  takes : {kept full : List CacheItem} (item : CacheItem) → IsPart kept full → IsPart (item ∷ kept) (item ∷ full)
  leaves : {kept full : List CacheItem} (item : CacheItem) → IsPart kept full → IsPart kept (item ∷ full)

-- At most as many are left out as a count rose by from before to after. Nothing is said of a count at its last value.
pub record IsAllBut (before after : ℕ) (full kept : List CacheItem) : Type 0 where
  pub part : IsPart kept full
  pub few : after < 2 ^ 64 - 1 → length full + before ≤ length kept + after

-- These items were put, in order, but for at most as many as the count rose by.
abbrev pub PutsAllBut : History → History → ℕ → ℕ → List CacheItem → Type 0
PutsAllBut old new before after full = (put : List CacheItem) × Since old new put [] × IsAllBut before after full put

-- Some of these items were put, in order.
abbrev pub PutsPart : History → History → List CacheItem → Type 0
PutsPart old new full = (put : List CacheItem) × Since old new put [] × IsPart put full
