use Rattle.std.specs.Prelude.{◌≡◌, ℕ, ◌+◌, ◌^◌, ◌==◌, nat_lt, Bool, if◌then◌else◌, List, [], ◌∷◌, ◌++◌, length, take, map, get_or, set, None, is_some}
use Rattle.bs_outside.specs.Cache.{CacheItem, last_of}
use Rattle.bs_outside.specs.History.{History}
use Rattle.bs_outside.specs.declared.names.CacheName.{CacheName}
use Rattle.bs_outside.specs.declared.names.Loaded.{Loaded}
use Rattle.mem_shelf.specs.Schedule.{Schedule, number_after}

-- A guest: the number of the call before which somebody else renames something, counted from 1, the name, and the bytes.
abbrev pub GuestItem : Type 0
GuestItem = ℕ × CacheName × List ℕ

abbrev pub item_of : GuestItem → CacheItem
item_of guest = (guest.1, guest.2)

-- What a shelf in memory keeps.
pub record Keeping : Type 0 where
  pub start : List CacheItem
  pub guests : List GuestItem
  pub bite : ℕ  -- the most that one append takes
  pub calls : ℕ
  pub past : List CacheItem
  pub own : List ℕ
  pub loads : List (CacheName × Loaded)
  pub temps : List (List ℕ)

-- What a shelf keeps whose calls fail as a schedule says.
pub record Scripted : Type 0 where
  pub kept : Keeping
  pub script : Schedule

-- What it tells.
abbrev pub history_of : Keeping → History
history_of kept = record {
  start = kept.start;
  past = kept.past;
  guests = map item_of kept.guests;
  own = kept.own;
  loads = kept.loads;
  temps = λ n. get_or kept.temps n [];
}

-- the items of a call's guests, in their order
abbrev pub due_at : ℕ → List GuestItem → List CacheItem
due_at call [] = []
due_at call (guest ∷ guests) = if guest.0 == call then item_of guest ∷ due_at call guests else due_at call guests

-- What others rename before the next call.
abbrev pub due : Keeping → List CacheItem
due kept = if nat_lt (kept.calls + 1) (2 ^ 64) then due_at (kept.calls + 1) kept.guests else []

-- The next call begins: it is counted, and what others rename before it joins the past.
abbrev pub arrived : Keeping → Keeping
arrived kept = record kept { calls = number_after kept.calls; past = kept.past ++ due kept }

-- A call that is short of memory began, and some of what others rename before it joined.
abbrev pub ArrivesPartly : Keeping → Keeping → Type 0
ArrivesPartly old new = (n : ℕ) × (new ≡ record old { calls = number_after old.calls; past = old.past ++ take n (due old) })

-- The same, and the bytes of one temporary may be others.
abbrev pub RenamesPartly : ℕ → Keeping → Keeping → Type 0
RenamesPartly temp old new = (bytes : List ℕ) × ArrivesPartly (record old { temps = set old.temps temp bytes }) new

-- after a load with this answer
abbrev pub loaded : Keeping → CacheName → Loaded → Keeping
loaded kept name answer = record (arrived kept) { loads = kept.loads ++ (name, answer) ∷ [] }

-- after a begin
abbrev pub begun : Keeping → Keeping
begun kept = record (arrived kept) { temps = kept.temps ++ [] ∷ [] }

-- after an append that took these bytes
abbrev pub appended : Keeping → ℕ → List ℕ → Keeping
appended kept temp bytes = record (arrived kept) { temps = set kept.temps temp (get_or kept.temps temp [] ++ bytes) }

-- after a rename
abbrev pub renamed : Keeping → ℕ → CacheName → Keeping
renamed kept temp name = record (arrived kept) {
  past = (arrived kept).past ++ (name, get_or kept.temps temp []) ∷ [];
  own = kept.own ++ length (arrived kept).past ∷ [];
  temps = set kept.temps temp [];
}

-- No two of the items have one name.
abbrev pub NamesOnce : List CacheItem → Type 0
NamesOnce [] = Unit {0}
NamesOnce (item ∷ items) = (last_of items item.0 ≡ None) × NamesOnce items

abbrev pub is_named : List CacheItem → CacheName → Bool
is_named items name = is_some (last_of items name)

-- Those of the items that are the last of their names, where these others come after them.
abbrev pub latest : List CacheItem → List CacheItem → List CacheItem
latest [] after = []
latest (item ∷ items) after = if is_named (items ++ after) item.0 then latest items after else item ∷ latest items after
