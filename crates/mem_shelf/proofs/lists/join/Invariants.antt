use Rattle.std.proofs.Common.{◌≡◌, ◌++◌, take}
use Rattle.mem_shelf.specs.Keeping.{due_at}
use Rattle.mem_shelf.proofs.lists.join.Given as goal

abbrev pub invariant-loop-guest : goal.invariant-loop-guest
invariant-loop-guest l = l.past.items ≡ l.fn.past.items ++ due_at l.call (take l.guest-index l.guests)
