use Rattle.std.proofs.Common.{vec_len}
use Rattle.mem_outside.proofs.Closing.{Taken}
use Rattle.mem_outside.proofs.files.Files.from_items.Given as goal

-- what was taken from the back of the list is in the map
abbrev pub invariant-loop-path : goal.invariant-loop-path
invariant-loop-path l = Taken l.rest.items l.fn.items.items l.files

abbrev pub decreases-loop-path : goal.decreases-loop-path
decreases-loop-path l = vec_len l.rest
