use Rattle.std.proofs.Common.{◌≡◌, ℕ, ◌+◌, ◌-◌, ◌<◌, ◌≤◌, length, get_or, List}
use Rattle.token_lookahead.proofs.locals.make_room.Given as goal

pub record Filled (number : ℕ) (old new : List ℕ) : Type 0 where
  pub same : (n : ℕ) → get_or new n 0 ≡ get_or old n 0
  pub longer : length old ≤ length new
  pub fits : (n : ℕ) → number < n → length old ≤ n → length new ≤ n

abbrev pub invariant-loop-places : goal.invariant-loop-places
invariant-loop-places l = Filled l.number l.initial.places.items l.places.items

abbrev pub decreases-loop-places : goal.decreases-loop-places
decreases-loop-places l = (l.number + 1) - length l.places.items
