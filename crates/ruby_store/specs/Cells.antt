-- What a call that takes cells answers.
use Rattle.std.specs.Prelude.{◌≡◌, ℕ, ◌+◌, ◌<◌, ◌≤◌, Bool, true, false, Option, Some, None, Result, Ok, Err}
use Rattle.ruby_meaning.specs.Store.{cell_limit}
use Rattle.store_values.specs.declared.faults.StoreFault.{StoreFault}
use Rattle.store_values.specs.declared.values.Value.{Value}
use Rattle.store_values.specs.declared.values.Value.TheVariants as value
use Rattle.store_values.specs.declared.faults.StoreFault.TheVariants as fault

-- So many cells are taken, or they would pass the limit and none is.
abbrev pub Takes : {A : Type 0} → ℕ → ℕ → Result A StoreFault → ℕ → Type 0
Takes before n (Ok x) after = (before + n ≤ cell_limit) × (after ≡ before + n)
Takes before n (Err (fault.Full f)) after = (cell_limit < before + n) × (after ≡ before)
Takes before n (Err fault.NoMemory) after = Unit {0}

-- This holds where the cells would pass the limit.
abbrev pub OnFull : {A : Type 0} → Result A StoreFault → Type 0 → Type 0
OnFull (Ok x) P = Unit {0}
OnFull (Err (fault.Full f)) P = P
OnFull (Err fault.NoMemory) P = Unit {0}

-- the cells would pass the limit
abbrev pub IsFull : StoreFault → Type 0
IsFull (fault.Full f) = Unit {0}
IsFull fault.NoMemory = ⊥

-- nil where nothing was set
abbrev pub or_nil : Option Value → Value
or_nil None = value.Nil
or_nil (Some v) = v

-- what a change costs: nothing where there is nothing to change
abbrev pub cost_if : Bool → ℕ → ℕ
cost_if true n = n
cost_if false n = 0
