-- Locals by slot and level. A level counts environments outward, and a slot is a place in the names of one.
use Rattle.std.specs.Prelude.{ℕ, zero, suc, List, [], ◌∷◌, Option, Some, None}
use Rattle.ruby_tree.specs.Names.{Bytes}
use Rattle.ruby_meaning.specs.Value.{Value, nil}
use Rattle.ruby_meaning.specs.World.{Environment, World, Frame}
use Rattle.ruby_meaning.specs.Definitions.{parent_in}

abbrev pub parent_of : Option Environment → Option ℕ
parent_of None = None
parent_of (Some e) = e.parent

-- the number of the environment that lies so many levels outward of this one
abbrev pub outward : ℕ → List Environment → Option ℕ → Option ℕ
outward zero all n = n
outward (suc level) all n = outward level all (parent_of (parent_in all n))

abbrev pub home : Frame → ℕ → World → Option ℕ
home frame level w = outward level w.environments (Some frame.environment)

-- Reading.

abbrev pub value_at : ℕ → List (Bytes × Value) → Value
value_at slot [] = nil
value_at zero (b ∷ all) = b.1
value_at (suc slot) (b ∷ all) = value_at slot all

abbrev pub value_in : ℕ → Option Environment → Value
value_in slot None = nil
value_in slot (Some e) = value_at slot e.locals

-- the value of the local at this slot of the environment at this level
abbrev pub read_slot : Frame → ℕ → ℕ → World → Value
read_slot frame slot level w = value_in slot (parent_in w.environments (home frame level w))

-- Setting.

abbrev pub with_value_at : ℕ → Value → List (Bytes × Value) → List (Bytes × Value)
with_value_at slot v [] = []
with_value_at zero v (b ∷ all) = (b.0, v) ∷ all
with_value_at (suc slot) v (b ∷ all) = b ∷ with_value_at slot v all

abbrev pub with_slot_set : List Environment → ℕ → ℕ → Value → List Environment
with_slot_set [] n slot v = []
with_slot_set (e ∷ all) zero slot v = (record e { locals = with_value_at slot v e.locals }) ∷ all
with_slot_set (e ∷ all) (suc n) slot v = e ∷ with_slot_set all n slot v

abbrev pub set_slot_in : ℕ → Value → Option ℕ → World → World
set_slot_in slot v None w = w
set_slot_in slot v (Some n) w = record w { environments = with_slot_set w.environments n slot v }

abbrev pub set_slot : Frame → ℕ → ℕ → Value → World → World
set_slot frame slot level v w = set_slot_in slot v (home frame level w) w
