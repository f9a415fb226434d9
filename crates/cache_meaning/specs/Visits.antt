-- Loads of Ruby files: their names, events, reads, notes and items.
use Rattle.std.specs.Prelude.{◌≡◌, ◌⊎◌, ◌++◌, ℕ, Option, None, List, [], ◌∷◌, map, codes}
use Rattle.std.specs.List.{AllByRecursion, flat_map}
use Rattle.bs_outside.specs.Cache.{CacheItem}
use Rattle.bs_outside.specs.History.{History, Since}
use Rattle.bs_outside.specs.Told.{AddsPrefix}
use Rattle.bs_outside.specs.SourceTree.{SourceTree}
use Rattle.bs_outside.specs.declared.names.CacheName.{CacheName}
use Rattle.bs_outside.specs.declared.names.CacheKind.TheVariants.{Iseq}
use Rattle.bs_outside.specs.declared.names.Loaded.{Loaded}
use Rattle.cache_key.specs.Key.{cache_name_of}
use Rattle.cache_key.specs.Event.{event_of_answer}
use Rattle.cache_key.specs.declared.events.Event.{Event}
use Rattle.cache_key.specs.declared.events.Event.TheVariants.{Miss, Hit, Stale, Revalidated}
use Rattle.cache_meaning.specs.Entry.{Version, stat_of, items_of}
use Rattle.cache_meaning.specs.Fits.{IsWhole}
use Rattle.cache_meaning.specs.LeftOut.{IsPart, IsAllBut}

-- A visit: a Ruby file as it stood, and what the load of its cache file answered.
pub record Visit : Type 0 where
  pub version : Version
  pub answer : Loaded

abbrev pub load_of : Visit → CacheName × Loaded
load_of visit = (cache_name_of Iseq visit.version.path, visit.answer)

-- The event of a visit. No digest is given, since nothing is revalidated by now.
abbrev pub event_at : Visit → Event
event_at visit = event_of_answer visit.answer (stat_of visit.version) None

-- what is due only after an event that is no hit
abbrev pub unless_hit : {A : Type 0} → Event → List A → List A
unless_hit Hit items = []
unless_hit _ items = items

-- A hit reads no contents, and publishes nothing; after each other event the contents are read once, and the file's entry is published.
abbrev pub reads_at : Visit → List (List ℕ)
reads_at visit = unless_hit (event_at visit) (visit.version.path ∷ [])

abbrev pub items_at : Visit → List CacheItem
items_at visit = unless_hit (event_at visit) (items_of Iseq visit.version)

abbrev pub word_of : Event → List ℕ
word_of Miss = codes "miss"
word_of Hit = codes "hit"
word_of Stale = codes "stale"
word_of Revalidated = codes "revalidated"

-- the line that notes an event
abbrev pub note_of : Event → List ℕ → List ℕ
note_of event path = codes "[Bootsnap] " ++ (word_of event ++ (32 ∷ (path ++ 10 ∷ [])))

abbrev pub note_at : Visit → List ℕ
note_at visit = note_of (event_at visit) visit.version.path

-- These files were visited, in order: one load for each with its name, and the items of those that were no hit were put, but for at
-- most as many as the count of the shelf's faults rose by.
pub record HasVisited (files : List Version) (visits : List Visit) (old new : History) (before after : ℕ) : Type 0 where
  pub versions : map (λ (visit : Visit). visit.version) visits ≡ files
  pub put : List CacheItem
  pub since : Since old new put (map load_of visits)
  pub but : IsAllBut before after (flat_map items_at visits) put

-- These files were to be visited, at most one, and the call was cut off: no load was made, or one; and of what that load asks for, some was put and read.
pub record HasBegun (files : List Version) (old new : History) (reads_before reads_after : Option (List (List ℕ))) : Type 0 where
  pub visits : List Visit
  pub some : (visits ≡ []) ⊎ (map (λ (visit : Visit). visit.version) visits ≡ files)
  pub put : List CacheItem
  pub since : Since old new put (map load_of visits)
  pub part : IsPart put (flat_map items_at visits)
  pub reads : AddsPrefix reads_before reads_after (flat_map reads_at visits)

-- Whatever the answer: each own item is whole.
pub record LeavesWhole (tree : SourceTree) (old new : History) : Type 0 where
  pub put : List CacheItem
  pub loads : List (CacheName × Loaded)
  pub since : Since old new put loads
  pub whole : AllByRecursion (IsWhole tree) put
