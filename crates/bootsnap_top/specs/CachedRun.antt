-- A run with the cache: the files that it visits, and what it loads, notes, reads and puts.
use Rattle.std.specs.Prelude.{◌≡◌, ◌⊎◌, ℕ, Bool, true, false, Result, Ok, Err, Option, None, Some, List, []}
use Rattle.std.specs.List.{flat_map}
use Rattle.bs_outside.specs.History.{History}
use Rattle.bs_outside.specs.SourceTree.{SourceTree}
use Rattle.bs_outside.specs.Told.{added, AddsPrefix}
use Rattle.cache_key.specs.declared.events.Event.{Event}
use Rattle.cache_meaning.specs.Entry.{Version, file_at}
use Rattle.cache_meaning.specs.Visits.{Visit, note_of, note_at, reads_at, HasVisited, HasBegun}
use Rattle.compile_cache.specs.declared.mode.CacheUse.{CacheUse}
use Rattle.compile_cache.specs.declared.mode.CacheUse.TheVariants.{On, Off}
use Rattle.bootsnap_top.specs.declared.planning.Planned.{Planned}
use Rattle.bootsnap_top.specs.Plan.{mode_of, instrument_of, path_of}

-- a bad word uses no cache
abbrev pub cache_of_plan : Result Planned ℕ → CacheUse
cache_of_plan (Err place) = Off
cache_of_plan (Ok planned) = (mode_of planned).cache

-- the files that the plan visits: the one that is run, where it is there
abbrev pub files_of_plan : SourceTree → Result Planned ℕ → List Version
files_of_plan tree (Err place) = []
files_of_plan tree (Ok planned) = file_at tree (path_of planned)

-- whether events are noted: where that is asked for, and there are any
abbrev pub is_noted : CacheUse → Bool → Bool
is_noted On instrument = instrument
is_noted Off instrument = false

abbrev pub notes_plan : Result Planned ℕ → Bool
notes_plan (Err place) = false
notes_plan (Ok planned) = is_noted (mode_of planned).cache (instrument_of planned)

-- what is noted of a fetch: its event, where that is asked for and there is one
abbrev pub noted_of : Bool → Option Event → List ℕ → List ℕ
noted_of true (Some event) path = note_of event path
noted_of true None path = []
noted_of false event path = []

-- one line for each visit, or none at all
abbrev pub notes_with : Bool → List Visit → List ℕ
notes_with true visits = flat_map note_at visits
notes_with false visits = []

abbrev pub notes_of_plan : Result Planned ℕ → List Visit → List ℕ
notes_of_plan plan visits = notes_with (notes_plan plan) visits

-- These files were visited, in order: one load for each, whose answer gives its event; after each but a hit the contents were read once, and the
-- file's entry was put, unless the shelf failed. Each event was noted where that was asked for.
pub record IsCachedRun (files : List Version) (notes : List Visit → List ℕ) (old new : History) (before after : ℕ) (reads_before reads_after : Option (List (List ℕ))) (notes_before notes_after : Option (List ℕ)) : Type 0 where
  pub visits : List Visit
  pub visited : HasVisited files visits old new before after
  pub reads : reads_after ≡ added reads_before (flat_map reads_at visits)
  pub noted : notes_after ≡ added notes_before (notes visits)

-- The same, but that the notes may lack their end.
pub record IsNotedInPart (files : List Version) (notes : List Visit → List ℕ) (old new : History) (before after : ℕ) (reads_before reads_after : Option (List (List ℕ))) (notes_before notes_after : Option (List ℕ)) : Type 0 where
  pub visits : List Visit
  pub visited : HasVisited files visits old new before after
  pub reads : reads_after ≡ added reads_before (flat_map reads_at visits)
  pub noted : AddsPrefix notes_before notes_after (notes visits)

-- A visit that was cut off: in the fetch, and then nothing was noted, or in the note.
abbrev pub IsPartOfVisit : List Version → (List Visit → List ℕ) → History → History → ℕ → ℕ → Option (List (List ℕ)) → Option (List (List ℕ)) → Option (List ℕ) → Option (List ℕ) → Type 0
IsPartOfVisit files notes old new before after reads_before reads_after notes_before notes_after =
    (HasBegun files old new reads_before reads_after × (notes_after ≡ notes_before)) ⊎ IsNotedInPart files notes old new before after reads_before reads_after notes_before notes_after

-- How far a run came, whatever its end: its visit was cut off, and then nothing was written; or its visit is whole, and only then was anything written.
abbrev pub IsPartOfRun : List Version → (List Visit → List ℕ) → History → History → ℕ → ℕ → Option (List (List ℕ)) → Option (List (List ℕ)) → Option (List ℕ) → Option (List ℕ) → Type 0 → Type 0
IsPartOfRun files notes old new before after reads_before reads_after notes_before notes_after nothing_written =
    (IsPartOfVisit files notes old new before after reads_before reads_after notes_before notes_after × nothing_written)
    ⊎ IsCachedRun files notes old new before after reads_before reads_after notes_before notes_after
