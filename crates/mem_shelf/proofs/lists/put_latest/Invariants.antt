use Rattle.std.proofs.Common.{◌≡◌, ◌++◌, length}
use Rattle.mem_shelf.specs.Keeping.{latest}
use Rattle.mem_shelf.proofs.lists.put_latest.Given as goal

-- those so far, and those of the rest
abbrev pub invariant-loop-file : goal.invariant-loop-file
invariant-loop-file l = l.files.items ++ latest l.rest l.after ≡ l.fn.files.items ++ latest l.items l.after

abbrev pub decreases-loop-file : goal.decreases-loop-file
decreases-loop-file l = length l.rest
