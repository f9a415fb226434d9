-- What a fetch gives, and what it leaves.
use Rattle.std.specs.Prelude.{◌≡◌, ◌⊎◌, ℕ, Bool, Option, None, Some, List, [], ◌∷◌, map, drop}
use Rattle.std.specs.List.{AllByRecursion, flat_map}
use Rattle.std.specs.Option.{option_to_list}
use Rattle.bs_outside.specs.Cache.{CacheItem, last_of, now_of}
use Rattle.bs_outside.specs.History.{History, Since}
use Rattle.bs_outside.specs.SourceTree.{SourceTree, bytes_at}
use Rattle.bs_outside.specs.Told.{added}
use Rattle.bs_outside.specs.declared.names.CacheName.{CacheName}
use Rattle.bs_outside.specs.declared.names.CacheKind.TheVariants.{Iseq}
use Rattle.bs_outside.specs.declared.names.Loaded.{Loaded}
use Rattle.bs_outside.specs.declared.names.Loaded.TheVariants as loaded
use Rattle.bs_outside.specs.declared.trees.Stat.{Stat}
use Rattle.cache_key.specs.Key.{FitsKey, cache_name_of}
use Rattle.cache_key.specs.declared.events.Event.{Event}
use Rattle.cache_key.specs.declared.events.Event.TheVariants.{Hit}
use Rattle.iseq_dump.specs.Dump.{Spells, HasSoundBodies}
use Rattle.iseq_types.specs.declared.sequences.Unit.{Unit as CompiledUnit}
use Rattle.reference_parser.specs.ReadingOf.{Reading, reading_of}
use Rattle.reference_parser.specs.ReadingOf as reading
use Rattle.small_form.specs.SmallForm.{small_of}
use Rattle.small_form.specs.declared.tree.SmallFile.{SmallFile}
use Rattle.cache_meaning.specs.SmallUnit.{unit_of_program}
use Rattle.cache_meaning.specs.Payload.{dump_of}
use Rattle.cache_meaning.specs.Entry.{Version, stat_of, numbers_with, entry_with, file_at, items_of}
use Rattle.cache_meaning.specs.Fits.{IsWhole, IsTrusted}
use Rattle.cache_meaning.specs.LeftOut.{IsPart, PutsAllBut}
use Rattle.cache_meaning.specs.Visits.{Visit, event_at, reads_at, unless_hit, HasVisited}
use Rattle.compile_cache.specs.declared.fetched.FetchResult.{FetchResult}
use Rattle.compile_cache.specs.declared.fetched.FetchResult.TheVariants as got
use Rattle.compile_cache.specs.declared.mode.CacheUse.{CacheUse}
use Rattle.compile_cache.specs.declared.mode.CacheUse.TheVariants as use_

abbrev pub got_of_small : List ℕ → Option SmallFile → FetchResult
got_of_small path None = got.NotYet
got_of_small path (Some file) = got.Whole (unit_of_program path file)

-- what a text comes to by its reading: the line of its fault, or the unit of the small file that its tree is, where it is one
abbrev pub got_by : List ℕ → Reading → FetchResult
got_by path (reading.fault line) = got.Fault line
got_by path (reading.tree t) = got_of_small path (small_of t)

abbrev pub got_of_found : List ℕ → Option (List ℕ) → FetchResult
got_of_found path None = got.Gone
got_of_found path (Some contents) = got_by path (reading_of contents)

-- What a fetch of the path gives, whatever the cache holds: the unit of the file's text, the line of the fault of a text that has no tree, that the
-- tree is no small file, or that no file stands there.
abbrev pub got_of : SourceTree → List ℕ → FetchResult
got_of tree path = got_of_found path (bytes_at tree path)

-- the reads of a fetch without the cache: one, of a file that is there
abbrev pub reads_of : SourceTree → List ℕ → List (List ℕ)
reads_of tree path = map (λ (v : Version). v.path) (file_at tree path)

-- the event of what was read, or nothing where no file stood there
abbrev pub event_with : Event → FetchResult → Option Event
event_with event (got.Whole u) = Some event
event_with event (got.Fault line) = Some event
event_with event got.NotYet = Some event
event_with event got.Gone = None

-- What stands under a cache file's name is trusted where the cache is used.
abbrev pub IsTrustedFor : CacheUse → Bool → SourceTree → History → Type 0
IsTrustedFor use_.On tells tree h = IsTrusted tells tree h
IsTrustedFor use_.Off tells tree h = Unit {0}

-- One file was fetched with the cache, where it is there: its load, its event, its read where it was no hit, and its item.
pub record HasFetched (tree : SourceTree) (path : List ℕ) (old new : History) (before after : ℕ) (reads_before reads_after : Option (List (List ℕ))) (event : Option Event) : Type 0 where
  pub visits : List Visit
  pub visited : HasVisited (file_at tree path) visits old new before after
  pub events : option_to_list event ≡ map event_at visits
  pub reads : reads_after ≡ added reads_before (flat_map reads_at visits)

-- What a stat says of a path: the stat of the file there, or that there is none.
abbrev pub IsStatOf : SourceTree → List ℕ → Option Stat → Type 0
IsStatOf tree path found = option_to_list found ≡ map stat_of (file_at tree path)

-- What a load answered, where a fault of the shelf is no image.
abbrev pub Answers : Option (List ℕ) → Loaded → Type 0
Answers None answer = (answer ≡ loaded.Nothing) ⊎ (answer ≡ loaded.Failed)
Answers (Some bytes) answer = answer ≡ loaded.Found bytes

-- what was found is what stands under the name
abbrev pub Stands : History → CacheName → Option (List ℕ) → Type 0
Stands h name None = Unit {0}
Stands h name (Some bytes) = now_of (last_of h.start) h.past name ≡ Some bytes

-- One load of this name, and what it found.
pub record HasLooked (name : CacheName) (old new : History) (image : Option (List ℕ)) : Type 0 where
  pub answer : Loaded
  pub since : Since old new [] ((name, answer) ∷ [])
  pub answered : Answers image answer
  pub stands : Stands new name image

-- the unit that is spelled behind the key, if its bodies are sound
abbrev pub IsUnitIn : List ℕ → CompiledUnit → Type 0
IsUnitIn bytes u = Spells u (drop 64 bytes) × HasSoundBodies u

-- What an image holds after an event: after a hit the unit that is spelled behind the key, if its bodies are sound.
abbrev pub HoldsUnit : Event → Option (List ℕ) → CompiledUnit → Type 0
HoldsUnit event image u = (event ≡ Hit) × (bytes : List ℕ) × (image ≡ Some bytes) × IsUnitIn bytes u

abbrev pub TakenOrRead : SourceTree → List ℕ → List ℕ → Option (List (List ℕ)) → Option (List (List ℕ)) → FetchResult → Type 0
TakenOrRead tree path bytes before after g =
    ((u : CompiledUnit) × IsUnitIn bytes u × (g ≡ got.Whole u) × (after ≡ before))
    ⊎ (((u : CompiledUnit) → IsUnitIn bytes u → ⊥) × (g ≡ got_of tree path) × (after ≡ added before (path ∷ [])))

-- A fetch whose event is a hit, whatever is trusted: the unit that the found bytes hold; or, where they hold none, that of the source, which is then
-- read. Nothing is put.
pub record HasHit (tree : SourceTree) (path : List ℕ) (old new : History) (reads_before reads_after : Option (List (List ℕ))) (got : FetchResult) : Type 0 where
  pub bytes : List ℕ
  pub since : Since old new [] ((cache_name_of Iseq path, loaded.Found bytes) ∷ [])
  pub taken : TakenOrRead tree path bytes reads_before reads_after got

-- the payload of what was compiled
abbrev pub payload_in : FetchResult → Option (List ℕ)
payload_in (got.Whole u) = Some (dump_of u)
payload_in (got.Fault line) = None
payload_in got.NotYet = None
payload_in got.Gone = None

abbrev pub items_with_name : CacheName → Stat → List ℕ → Option (List ℕ) → List CacheItem
items_with_name name stat contents None = []
items_with_name name stat contents (Some payload) = (name, entry_with stat contents payload) ∷ []

-- what is to be put of a source with this stat and these contents
abbrev pub due : CacheName → Event → Stat → List ℕ → FetchResult → List CacheItem
due name event stat contents g = unless_hit event (items_with_name name stat contents (payload_in g))

-- Nothing was put, or the numbers of the entry have 64 bits.
abbrev pub PutsNothingOrFits : History → History → Stat → List ℕ → FetchResult → Type 0
PutsNothingOrFits old new stat contents g = Since old new [] [] ⊎ ((payload : List ℕ) × (payload_in g ≡ Some payload) × FitsKey (numbers_with stat contents payload))

-- Some of these items were put, and each that was put is whole.
pub record PutsWholePart (tree : SourceTree) (old new : History) (full : List CacheItem) : Type 0 where
  pub put : List CacheItem
  pub since : Since old new put []
  pub part : IsPart put full
  pub whole : AllByRecursion (IsWhole tree) put

-- ---- what is said of the file at a path, if it has this stat and its cache file this name

pub record IsSource (tree : SourceTree) (path : List ℕ) (name : CacheName) (stat : Stat) (v : Version) : Type 0 where
  pub file : file_at tree path ≡ v ∷ []
  pub name_is : name ≡ cache_name_of Iseq path
  pub stat_is : stat ≡ stat_of v

-- After an event that is no hit the source's item was put, unless the shelf failed.
abbrev pub PutsSource : SourceTree → List ℕ → CacheName → Stat → Event → History → History → ℕ → ℕ → Type 0
PutsSource tree path name stat event old new before after =
    (v : Version) → IsSource tree path name stat v → PutsAllBut old new before after (unless_hit event (items_of Iseq v))

-- The same where it was cut off, and for every answer: some of it was put, and it is whole.
abbrev pub PutsSourcePart : SourceTree → List ℕ → CacheName → Stat → Event → History → History → Type 0
PutsSourcePart tree path name stat event old new =
    (v : Version) → IsSource tree path name stat v → PutsWholePart tree old new (unless_hit event (items_of Iseq v))
