-- Where nodes stand alike for their code.
use Rattle.std.specs.Prelude.{◌≡◌, ℕ}
use Rattle.ruby_meaning.specs.Sequences.{sequence_number}
use Rattle.compile_table.specs.Shapes.{Where}

-- Two places in code at which a tree has the same code. Whether they stand in the clauses of a rescue part, and in which sequence, makes no
-- difference to it.
pub record Alike (l m : Where) : Type 0 where
  pub loop : l.loop ≡ m.loop
  pub first : l.first ≡ m.first
  pub sight : l.sight ≡ m.sight
  pub path : l.path ≡ m.path
  -- what stands at a place has the same number
  pub numbers : (p : ℕ) → sequence_number l.places p ≡ sequence_number m.places p
