use Rattle.std.proofs.Common.{◌≡◌, not, filter, length}
use Rattle.bs_outside.specs.Paths.{same_bytes}
use Rattle.load_path_cache.proofs.load_index.LoadIndex.delete.Given as goal

-- what is left of the roots in the end is the same
abbrev pub invariant-loop-gone : goal.invariant-loop-gone
invariant-loop-gone l = filter (λ r. not (same_bytes r.path l.root)) l.self ≡ filter (λ r. not (same_bytes r.path l.root)) l.fn.self

abbrev pub decreases-loop-gone : goal.decreases-loop-gone
decreases-loop-gone l = length l.self
