use Rattle.std.specs.Prelude.{ℕ, List}
use Rattle.mem_shelf.specs.Schedule.{Schedule}

-- What a sink in memory is seen as: the bytes that it took, and which of its calls fail.
pub record Taking : Type 0 where
  pub taken : List ℕ
  pub schedule : Schedule
