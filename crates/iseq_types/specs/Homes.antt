-- Words of the list of the environments that the sequences of a unit run in.
use Rattle.std.specs.Prelude.{◌≡◌, ◌+◌, ◌-◌, ◌<◌, ◌≤◌, ℕ, List, Some, drop, length, slice_get}
use Rattle.iseq_types.specs.declared.environments.Environments.{Environments}
use Rattle.iseq_types.specs.declared.environments.Home.{Home}
use Rattle.iseq_types.specs.declared.sequences.IndexRow.{IndexRow}
use Rattle.iseq_types.specs.Index.{homes_of}

-- What is known of the environment that a sequence runs in.
pub record IsHome (rows : List IndexRow) (id : ℕ) (home : Home) : Type 0 where
  -- it is the first of those outward of the sequence, and so many lie around it
  pub first : slice_get (homes_of rows id) 0 ≡ Some home.of
  pub long : length (homes_of rows id) ≡ home.around + 1
  pub within : home.of ≤ id
  pub small : home.around ≤ id
  -- the next one outward, where there is one
  pub outer : home.outer ≤ id
  pub next : 0 < home.around → homes_of rows home.outer ≡ drop 1 (homes_of rows id)
  -- one of those further outward, where there are any
  pub jump : home.jump ≤ id
  pub far : (steps : ℕ) × (homes_of rows home.jump ≡ drop steps (homes_of rows id)) × (0 < home.around → 0 < steps)

-- The list has them for the first sequences.
abbrev pub AreFirstHomes : List IndexRow → List Home → Type 0
AreFirstHomes rows homes = (id : ℕ) (home : Home) → slice_get homes id ≡ Some home → IsHome rows id home

-- The list has them for all.
pub record AreHomes (rows : List IndexRow) (homes : List Home) : Type 0 where
  pub long : length homes ≡ length rows
  pub each : AreFirstHomes rows homes

abbrev pub AreEnvironments : List IndexRow → Environments → Type 0
AreEnvironments rows environments = AreHomes rows environments.homes

-- On the way outward from a sequence to the environment at a level of it, which has `target` environments around it.
pub record IsOnWay (rows : List IndexRow) (id level target : ℕ) (home : Home) : Type 0 where
  pub at : ℕ
  pub below : at < length rows
  pub is : IsHome rows at home
  pub before : target ≤ home.around
  pub same : slice_get (homes_of rows at) (home.around - target) ≡ slice_get (homes_of rows id) level
