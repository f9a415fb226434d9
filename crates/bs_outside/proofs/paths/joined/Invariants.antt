use Rattle.std.proofs.Common.{◌≡◌, ◌++◌, map, drop}
use Rattle.bs_outside.specs.Paths.{joined}
use Rattle.bs_outside.proofs.paths.joined.Given as goal

abbrev pub invariant-loop-segment : goal.invariant-loop-segment
invariant-loop-segment l = l.path.items ++ joined (map (λ s. s.now) (drop l.segment-index l.segments)) ≡ joined (map (λ s. s.now) l.segments)
