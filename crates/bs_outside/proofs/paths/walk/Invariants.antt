use Rattle.std.proofs.Common.{◌≡◌, ◌+◌, map, length}
use Rattle.std.specs.Option.{option_copied, option_map_or}
use Rattle.bs_outside.specs.Paths.{reached, segments_of}
use Rattle.bs_outside.specs.Parts.{parts_behind}
use Rattle.bs_outside.proofs.paths.walk.Given as goal

-- what is left leads to the same place
abbrev pub invariant-loop-left : goal.invariant-loop-left
invariant-loop-left l = reached (map (λ s. s.now) l.at.items) (parts_behind 47 (option_copied l.left)) ≡ reached (map (λ s. s.now) l.fn.at.items) (segments_of l.text)

abbrev pub decreases-loop-left : goal.decreases-loop-left
decreases-loop-left l = option_map_or (λ rest. length rest.now + 1) l.left 0
