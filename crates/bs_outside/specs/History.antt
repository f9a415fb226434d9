use Rattle.std.specs.Prelude.{◌≡◌, ℕ, suc, ◌≤◌, ◌+◌, List, [], ◌∷◌, ◌++◌, length, Option, Some, None, Result, Ok, Err, IsErrOf}
use Rattle.bs_outside.specs.Cache.{CacheItem, IsOneOf}
use Rattle.bs_outside.specs.Told.{Rose}
use Rattle.bs_outside.specs.declared.names.CacheName.{CacheName}
use Rattle.bs_outside.specs.declared.names.Loaded.{Loaded}
use Rattle.bs_outside.specs.declared.names.Loaded.TheVariants as loaded
use Rattle.bs_outside.specs.declared.faults.ShelfFault.{ShelfFault}
use Rattle.bs_outside.specs.declared.faults.ShelfFault.TheVariants as fault

-- What a shelf tells of itself.
pub record History : Type 0 where
  pub start : List CacheItem  -- the files at the opening
  pub past : List CacheItem  -- what was renamed since, by anybody
  pub guests : List CacheItem  -- what others rename, before and after
  pub own : List ℕ  -- the places in past of this object's renames
  pub loads : List (CacheName × Loaded)  -- each load so far that was not short of memory, with its answer
  pub temps : ℕ → List ℕ  -- the bytes of each temporary

-- These items joined a past of that length: each is a guest's, or it is the next of own, and then its place is the next of places.
pub data Mixes (guests : List CacheItem) : ℕ → List CacheItem → List ℕ → List CacheItem → Type 0 where
  none : {n : ℕ} → Mixes guests n [] [] []
  guest : {n : ℕ} {items : List CacheItem} {places : List ℕ} {own : List CacheItem} (item : CacheItem) → IsOneOf item guests → Mixes guests (suc n) items places own → Mixes guests n (item ∷ items) places own
  mine : {n : ℕ} {items : List CacheItem} {places : List ℕ} {own : List CacheItem} (item : CacheItem) → Mixes guests (suc n) items places own → Mixes guests n (item ∷ items) (n ∷ places) (item ∷ own)

-- Between old and new these own items joined the past, in order, and these loads were made; all else that joined it is a guest's.
pub record Since (old new : History) (own : List CacheItem) (loads_made : List (CacheName × Loaded)) : Type 0 where
  pub start : new.start ≡ old.start
  pub guests : new.guests ≡ old.guests
  pub joined : List CacheItem
  pub past : new.past ≡ old.past ++ joined
  pub places : List ℕ
  pub placed : new.own ≡ old.own ++ places
  pub mixes : Mixes old.guests (length old.past) joined places own
  pub loads : new.loads ≡ old.loads ++ loads_made

-- the last item of a past
abbrev pub IsLast : CacheItem → List CacheItem → Type 0
IsLast item past = (before : List CacheItem) × (past ≡ before ++ item ∷ [])

-- the temporaries below n stay as they were
abbrev pub KeepsTemps : ℕ → History → History → Type 0
KeepsTemps n old new = (k : ℕ) → (k + 1 ≤ n) → new.temps k ≡ old.temps k

-- the temporaries other than n stay as they were
abbrev pub KeepsOtherTemps : ℕ → History → History → Type 0
KeepsOtherTemps n old new = (k : ℕ) → (k ≡ n → ⊥) → new.temps k ≡ old.temps k

abbrev pub loaded_of : Option (List ℕ) → Loaded
loaded_of None = loaded.Nothing
loaded_of (Some bytes) = loaded.Found bytes

-- what a load's answer adds to the list of loads
abbrev pub loaded_by : CacheName → Result (Option (List ℕ)) ShelfFault → List (CacheName × Loaded)
loaded_by name (Ok image) = (name, loaded_of image) ∷ []
loaded_by name (Err fault.Failed) = (name, loaded.Failed) ∷ []
loaded_by name (Err fault.NoMemory) = []

-- The count of faults never falls, and Failed comes only where it rose.
pub record HasCause {T : Type 0} (before now : ℕ) (result : Result T ShelfFault) : Type 0 where
  pub later : before ≤ now
  pub failed : IsErrOf result fault.Failed → Rose before now
