-- Environments: what contracts see of them.
use Rattle.std.specs.Prelude.{ℕ, zero, suc, List, [], ◌∷◌, Option, Some, None, slice_set, slice_index_or}
use Rattle.store_values.specs.declared.values.Value.{Value}
use Rattle.store_values.specs.declared.values.Value.TheVariants as value
use Rattle.store_parts.specs.Lists.{Values}

-- the number of the environment around it, and the values in its slots
pub record Scope : Type 0 where
  pub parent : Option ℕ
  pub slots : Values

abbrev pub Scopes : Type 0
Scopes = List Scope

abbrev pub parent_of : Scopes → ℕ → Option ℕ
parent_of [] n = None
parent_of (e ∷ all) zero = e.parent
parent_of (e ∷ all) (suc n) = parent_of all n

abbrev pub go_on : (ℕ → Option ℕ) → Option ℕ → Option ℕ
go_on f None = None
go_on f (Some n) = f n

-- the number of the environment that stands so many steps outward
abbrev pub outward : Scopes → ℕ → ℕ → Option ℕ
outward all zero n = Some n
outward all (suc level) n = go_on (outward all level) (parent_of all n)

abbrev pub slots_at : Scopes → ℕ → Values
slots_at [] n = []
slots_at (e ∷ all) zero = e.slots
slots_at (e ∷ all) (suc n) = slots_at all n

-- nil where there is no such slot
abbrev pub slot_of : Scopes → ℕ → Option ℕ → Value
slot_of all slot None = value.Nil
slot_of all slot (Some n) = slice_index_or (slots_at all n) slot value.Nil

-- another value stands in the slot
abbrev pub with_slot : Scopes → ℕ → ℕ → Value → Scopes
with_slot [] n slot v = []
with_slot (e ∷ all) zero slot v = (record e { slots = slice_set e.slots slot v }) ∷ all
with_slot (e ∷ all) (suc n) slot v = e ∷ with_slot all n slot v

abbrev pub with_slot_of : Scopes → ℕ → Value → Option ℕ → Scopes
with_slot_of all slot v None = all
with_slot_of all slot v (Some n) = with_slot all n slot v
