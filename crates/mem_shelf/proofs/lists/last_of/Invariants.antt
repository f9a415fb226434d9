use Rattle.std.proofs.Common.{◌≡◌, length}
use Rattle.bs_outside.specs.Cache.{last_of}
use Rattle.mem_shelf.proofs.lists.last_of.Given as goal

-- no file behind the rest has the name
abbrev pub invariant-loop-file : goal.invariant-loop-file
invariant-loop-file l = last_of l.rest l.name ≡ last_of l.files l.name

abbrev pub decreases-loop-file : goal.decreases-loop-file
decreases-loop-file l = length l.rest
