use Rattle.std.specs.Prelude.{◌≡◌, ℕ, Bool, true, false, ◌&&◌, ◌==◌, not, if◌then◌else◌, List, Option, None, Some}
use Rattle.bs_outside.specs.declared.names.Loaded.{Loaded}
use Rattle.bs_outside.specs.declared.names.Loaded.TheVariants as loaded
use Rattle.bs_outside.specs.declared.trees.Stat.{Stat}
use Rattle.cache_key.specs.Key.{key_version, size_in, mtime_in, digest_in, is_entry}
use Rattle.cache_key.specs.declared.events.Event.{Event}
use Rattle.cache_key.specs.declared.events.Event.TheVariants.{Miss, Hit, Stale, Revalidated}

-- A digest is given, and it is this one.
abbrev pub is_digest : Option ℕ → ℕ → Bool
is_digest None number = false
is_digest (Some digest) number = number == digest

-- The event of bytes that stood under the name of a file with this stat. The first condition that fits counts.
abbrev pub event_of_bytes : List ℕ → Stat → Option ℕ → Event
event_of_bytes bytes stat digest =
    if not (is_entry key_version bytes) then Stale else
    (if size_in bytes == stat.size && mtime_in bytes == stat.mtime then Hit else
    (if size_in bytes == stat.size && is_digest digest (digest_in bytes) then Revalidated else Stale))

-- The event of a load's answer.
abbrev pub event_of_answer : Loaded → Stat → Option ℕ → Event
event_of_answer (loaded.Found bytes) stat digest = event_of_bytes bytes stat digest
event_of_answer loaded.Nothing stat digest = Miss
event_of_answer loaded.Failed stat digest = Miss

-- Bytes have the form of an entry, and were written for a file of this size.
pub record IsEntryOfSize (bytes : List ℕ) (size : ℕ) : Type 0 where
  pub form : is_entry key_version bytes ≡ true
  pub size_is : size_in bytes ≡ size
